-- The nodes of a tree, from those of its halves.
use Rattle.std.proofs.Common.{ℕ, zero, suc, ◌≢◌, set, get_or-set_same, ap, ◌+◌, ◌-◌, ◌*◌, ◌<◌, ◌≤◌, ◌≡◌, ◌⊎◌, true, nat_le, nat_lt, Some, List, [], ◌∷◌, length, slice_get, refl, sym, subst, ◌∙◌, ⊎_elim, inl, inr, arith}
use Rattle.std.proofs.Math.ListN.{length-set}
use Rattle.std.proofs.Math.Nat.{eq-or-lt_of_le}
use Rattle.std.proofs.lemmas.Bool.{and_from, and_parts, cases_lt, leb-true, ltb-true, le-leb, lt-ltb}
use Rattle.std.proofs.lemmas.List.Folds.{list_any_at}
use Rattle.std.proofs.lemmas.Option.{get_or_from_slice_get, same_Some, slice_get_read, slice_get_within}
use Rattle.csg_hits.specs.Pieces.{Pieces}
use Rattle.box_probe.specs.declared.bounds.Bounds.{Bounds}
use Rattle.slab_tree.specs.declared.node.Node.{Node}
use Rattle.slab_tree.specs.Outlines.{IsHeld}
use Rattle.slab_tree.specs.Trees.{AreHalves, IsAround, IsPlanted, IsTrack, behind, is_own}

own_low : (node : Node) (p : ℕ) → is_own node p ≡ true → node.start ≤ p
own_low node p e = leb-true node.start p (and_parts (nat_le node.start p) (nat_lt p (node.start + 4)) e).0

own_high : (node : Node) (p : ℕ) → is_own node p ≡ true → p < node.start + 4
own_high node p e = ltb-true p (node.start + 4) (and_parts (nat_le node.start p) (nat_lt p (node.start + 4)) e).1

owns : (node : Node) (p : ℕ) → node.start ≤ p → p < node.start + 4 → is_own node p ≡ true
owns node p low high = and_from (nat_le node.start p) (nat_lt p (node.start + 4)) (le-leb node.start p low) (lt-ltb p (node.start + 4) high)

-- at one place stand only equal nodes
one_there : (nodes : List Node) (i k : ℕ) (x y : Node) → i ≡ k → slice_get nodes i ≡ Some x → slice_get nodes k ≡ Some y → x ≡ y
one_there nodes i k x y e at there = let P : ℕ → Type 0 = λ n. slice_get nodes n ≡ Some x in same_Some x y (sym (subst P e at) ∙ there)

-- the nodes are the same where other places are written
pub same_planted : (s : Pieces) (order : List ℕ) (xs ys : List Node) (place first last : ℕ) → ((k : ℕ) → place ≤ k → k < behind place first last → slice_get ys k ≡ slice_get xs k)
    → IsPlanted s order xs place first last → IsPlanted s order ys place first last
same_planted s order xs ys place first last same h = record {
  onward = λ i node low high at. h.onward i node low high (sym (same i low high) ∙ at);
  own = λ i p node low high at own within. h.own i p node low high (sym (same i low high) ∙ at) own within;
  all = λ p low high within. (let k = h.all p low high within in (k.0, k.1, k.2, k.3, same k.0 k.2 k.3 ∙ k.4, k.5));
  held = λ i k p piece node below low high at there le skip own inside.
      (let at' = sym (same i low high) ∙ at in
      let r = h.onward i node low high at' in
      h.held i k p piece node below low high at' (sym (same k (omega arith) (omega (arith, r.1))) ∙ there) le skip own inside);
}

-- a leaf
pub leaf_planted : (s : Pieces) (order : List ℕ) (nodes : List Node) (place first last : ℕ) (root : Node) → last ≡ first + 1 → slice_get nodes place ≡ Some root → root.skip ≡ place + 1 → root.start ≡ 4 * first
    → IsAround s order first last root.bounds → IsPlanted s order nodes place first last
leaf_planted s order nodes place first last root one there skip start around = record {
  onward = λ i node low high at. (let e = one_there nodes i place node root (omega (arith, one)) at there in let P : Node → Type 0 = λ n. (i < n.skip) × (n.skip ≤ behind place first last) in
      subst P (sym e) (omega (arith, one, skip), omega (arith, one, skip)));
  own = λ i p node low high at own within. (let e = one_there nodes i place node root (omega (arith, one)) at there in let P : Node → Type 0 = λ n. is_own n p ≡ true in
      let k = subst P e own in (omega (arith, own_low root p k, start), omega (arith, own_high root p k, start, one)));
  all = λ p low high within. (place, root, omega arith, omega (arith, one), there, owns root p (omega (arith, start)) (omega (arith, start, one)));
  held = λ i k p piece node below low high at here le skips own inside.
      (let e = one_there nodes i place node root (omega (arith, one)) at there in
      let P : Node → Type 0 = λ n. k < n.skip in
      let short : k < root.skip = subst P e skips in
      let f = one_there nodes k place below root (omega (arith, skip)) here there in
      let Q : Node → Type 0 = λ n. is_own n p ≡ true in
      let o = subst Q f own in
      let R : Node → Type 0 = λ n. IsHeld s piece n.bounds in
      subst R (sym e) (around p piece (omega (arith, own_low root p o, start)) (omega (arith, own_high root p o, start, one)) inside));
}

-- where a place of a run's nodes stands: at its root, in its near half, or in its far half
data Where (place first last a b c d i : ℕ) : Type 0 where
  at_root : i ≡ place → Where place first last a b c d i
  in_near : place + 1 ≤ i → i < behind (place + 1) a b → Where place first last a b c d i
  in_far : behind (place + 1) a b ≤ i → i < behind (behind (place + 1) a b) c d → Where place first last a b c d i

total : (place first last a b c d : ℕ) → AreHalves first last a b c d → behind (behind (place + 1) a b) c d ≡ behind place first last
total place first last a b c d h = let e = h.sizes in let one = h.one.0 in let two = h.one.1 in omega arith

where_of : (place first last a b c d i : ℕ) → AreHalves first last a b c d → place ≤ i → i < behind place first last → Where place first last a b c d i
where_of place first last a b c d i h low high =
    let e = total place first last a b c d h in ⊎_elim
    (λ at. at_root (sym at))
    (λ above. ⊎_elim
    (λ lt. in_near (omega arith) lt)
    (λ ge. in_far ge (omega (arith, e)))
    (cases_lt i (behind (place + 1) a b)))
    (eq-or-lt_of_le low)

module _ (s : Pieces) (order : List ℕ) (nodes : List Node) (place first last a b c d : ℕ) (root_node : Node) (h : AreHalves first last a b c d)
    (there : slice_get nodes place ≡ Some root_node) (skip : root_node.skip ≡ behind place first last) (start : root_node.start ≡ length order)
    (around : IsAround s order first last root_node.bounds)
    (one : IsPlanted s order nodes (place + 1) a b) (two : IsPlanted s order nodes (behind (place + 1) a b) c d) where
  onward_at : (i : ℕ) (node : Node) → Where place first last a b c d i → slice_get nodes i ≡ Some node → (i < node.skip) × (node.skip ≤ behind place first last)
  onward_at i node (at_root e) at = let f = one_there nodes i place node root_node e at there in let P : Node → Type 0 = λ n. (i < n.skip) × (n.skip ≤ behind place first last) in
      let k = h.one.0 in let m = h.within in subst P (sym f) (omega (arith, skip), omega (arith, skip))
  onward_at i node (in_near low high) at = let k = one.onward i node low high at in let e = total place first last a b c d h in let m = h.one.1 in (k.0, omega (arith, k.1, e))
  onward_at i node (in_far low high) at = let k = two.onward i node low high at in let e = total place first last a b c d h in (k.0, omega (arith, k.1, e))

  own_at : (i p : ℕ) (node : Node) → Where place first last a b c d i → slice_get nodes i ≡ Some node → is_own node p ≡ true → p < length order → (4 * first ≤ p) × (p < 4 * last)
  own_at i p node (at_root e) at own within = let f = one_there nodes i place node root_node e at there in let P : Node → Type 0 = λ n. is_own n p ≡ true in
      absurd (let k = own_low root_node p (subst P f own) in omega (arith, start))
  own_at i p node (in_near low high) at own within = let k = one.own i p node low high at own within in let m = h.within in (omega (arith, k.0, m.0), omega (arith, k.1, m.1))
  own_at i p node (in_far low high) at own within = let k = two.own i p node low high at own within in let m = h.within in (omega (arith, k.0, m.2), omega (arith, k.1, m.3))

  held_at : (i k p piece : ℕ) (node below : Node) → Where place first last a b c d i → slice_get nodes i ≡ Some node → slice_get nodes k ≡ Some below → i ≤ k → k < node.skip
      → is_own below p ≡ true → slice_get order p ≡ Some piece → IsHeld s piece node.bounds
  held_at i k p piece node below (at_root e) at here le skips own inside =
      let f = one_there nodes i place node root_node e at there in
      let P : Node → Type 0 = λ n. k < n.skip in
      let short : k < root_node.skip = subst P f skips in
      let o = own_at k p below (where_of place first last a b c d k h (omega arith) (omega (arith, skip))) here own (slice_get_within order p piece inside) in
      let R : Node → Type 0 = λ n. IsHeld s piece n.bounds in subst R (sym f) (around p piece o.0 o.1 inside)
  held_at i k p piece node below (in_near low high) at here le skips own inside = one.held i k p piece node below low high at here le skips own inside
  held_at i k p piece node below (in_far low high) at here le skips own inside = two.held i k p piece node below low high at here le skips own inside

  pub joined : IsPlanted s order nodes place first last
  joined = record {
    onward = λ i node low high at. onward_at i node (where_of place first last a b c d i h low high) at;
    own = λ i p node low high at own within. own_at i p node (where_of place first last a b c d i h low high) at own within;
    all = λ p low high within. ⊎_elim
        (λ x. (let k = one.all p x.0 x.1 within in let e = total place first last a b c d h in let m = h.one.1 in (k.0, k.1, omega (arith, k.2), omega (arith, k.3, e), k.4, k.5)))
        (λ x. (let k = two.all p x.0 x.1 within in let e = total place first last a b c d h in (k.0, k.1, omega (arith, k.2), omega (arith, k.3, e), k.4, k.5)))
        (h.each p low high);
    held = λ i k p piece node below low high at here le skips own inside. held_at i k p piece node below (where_of place first last a b c d i h low high) at here le skips own inside;
  }

-- ---- nodes that are written

set_here : (nodes : List Node) (place : ℕ) (node : Node) → place < length nodes → slice_get (set nodes place node) place ≡ Some node
set_here nodes place node lt = slice_get_read (set nodes place node) (length nodes) place node (sym (length-set nodes place node)) lt (sym (get_or-set_same nodes place node node lt))

set_other : (nodes : List Node) (place k : ℕ) (node : Node) → k ≢ place → slice_get (set nodes place node) k ≡ slice_get nodes k
set_other [] place k node ne = refl
set_other (x ∷ xs) zero zero node ne = absurd (ne refl)
set_other (x ∷ xs) zero (suc k) node ne = refl
set_other (x ∷ xs) (suc place) zero node ne = refl
set_other (x ∷ xs) (suc place) (suc k) node ne = set_other xs place k node (λ e. ne (ap suc e))

pub leaf_written : (s : Pieces) (order : List ℕ) (nodes : List Node) (place first last : ℕ) (root : Node) → last - first ≡ 1 → place < length nodes → root.skip ≡ place + 1 → root.start ≡ 4 * first
    → IsAround s order first (first + 1) root.bounds → IsPlanted s order (set nodes place root) place first last
leaf_written s order nodes place first last root one lt skip start around =
    let e : last ≡ first + 1 = omega arith in
    let P : ℕ → Type 0 = λ n. IsAround s order first n root.bounds in
    leaf_planted s order (set nodes place root) place first last root e (set_here nodes place root lt) skip start (subst P (sym e) around)

pub leaf_around : (s : Pieces) (order : List ℕ) (first last : ℕ) (bounds : Bounds) → last - first ≡ 1 → IsAround s order first (first + 1) bounds → IsAround s order first last bounds
leaf_around s order first last bounds one h = λ p piece low high inside. h p piece low (omega arith) inside

pub far_place : (place a b : ℕ) → a < b → place + 2 * (b - a) ≡ behind (place + 1) a b
far_place place a b lt = omega arith

-- what a call of each half wrote, and then the root
pub tree_written : (s : Pieces) (order : List ℕ) (before near far : List Node) (place first last a b c d : ℕ) (root : Node) → AreHalves first last a b c d → length far ≡ length before → behind place first last ≤ length before
    → root.skip ≡ behind place first last → root.start ≡ length order → IsAround s order first last root.bounds
    → ((k : ℕ) → (k < behind (place + 1) a b) ⊎ (behind (behind (place + 1) a b) c d ≤ k) → slice_get far k ≡ slice_get near k)
    → IsPlanted s order near (place + 1) a b → IsPlanted s order far (behind (place + 1) a b) c d → IsPlanted s order (set far place root) place first last
tree_written s order before near far place first last a b c d root h long room skip start around kept one two =
    let m = h.one.0 in let n = h.one.1 in let e = h.sizes in
    joined s order (set far place root) place first last a b c d root h (set_here far place root (omega arith)) skip start around
    (same_planted s order near (set far place root) (place + 1) a b (λ k low high. set_other far place k root (omega arith) ∙ kept k (inl high)) one)
    (same_planted s order far (set far place root) (behind (place + 1) a b) c d (λ k low high. set_other far place k root (omega arith)) two)

pub tree_kept : (before near far : List Node) (place first last a b c d : ℕ) (root : Node) → AreHalves first last a b c d
    → ((k : ℕ) → (k < place + 1) ⊎ (behind (place + 1) a b ≤ k) → slice_get near k ≡ slice_get before k)
    → ((k : ℕ) → (k < behind (place + 1) a b) ⊎ (behind (behind (place + 1) a b) c d ≤ k) → slice_get far k ≡ slice_get near k)
    → (k : ℕ) → (k < place) ⊎ (behind place first last ≤ k) → slice_get (set far place root) k ≡ slice_get before k
tree_kept before near far place first last a b c d root h one two k (inl low) = let m = h.one.0 in set_other far place k root (omega arith) ∙ two k (inl (omega arith)) ∙ one k (inl (omega arith))
tree_kept before near far place first last a b c d root h one two k (inr high) =
    let e = total place first last a b c d h in let m = h.one.0 in let n = h.one.1 in set_other far place k root (omega arith) ∙ two k (inr (omega (arith, e))) ∙ one k (inr (omega (arith, e)))

pub leaf_kept : (nodes : List Node) (place first last : ℕ) (root : Node) → last - first ≡ 1 → (k : ℕ) → (k < place) ⊎ (behind place first last ≤ k) → slice_get (set nodes place root) k ≡ slice_get nodes k
leaf_kept nodes place first last root one k (inl low) = set_other nodes place k root (omega arith)
leaf_kept nodes place first last root one k (inr high) = set_other nodes place k root (omega arith)

-- all leaves
pub track_of : (s : Pieces) (order : List ℕ) (nodes : List Node) (leaves : ℕ) → length nodes ≡ behind 0 0 leaves → length order ≤ 4 * leaves → IsPlanted s order nodes 0 0 leaves → IsTrack s order nodes
track_of s order nodes leaves count filled h = record {
  onward = λ i node at. (h.onward i node (omega arith) (let k = slice_get_within nodes i node at in omega (arith, count)) at).0;
  all = λ p within. (let k = h.all p (omega arith) (omega arith) within in
      let P : Node → Type 0 = λ n. is_own n p ≡ true in
      list_any_at (λ n. is_own n p) nodes k.0 k.1 (slice_get_within nodes k.0 k.1 k.4) (subst P (sym (get_or_from_slice_get nodes k.0 k.1 k.1 k.4)) k.5));
  held = λ i k p piece node below at here le skips own inside. h.held i k p piece node below (omega arith) (let m = slice_get_within nodes i node at in omega (arith, count)) at here le skips own inside;
}

-- the boxes of two halves, around the whole
pub hulled : (s : Pieces) (order : List ℕ) (first last a b c d : ℕ) (x y z : Bounds) → AreHalves first last a b c d
    → ((piece : ℕ) → IsHeld s piece x → IsHeld s piece z) → ((piece : ℕ) → IsHeld s piece y → IsHeld s piece z)
    → IsAround s order a b x → IsAround s order c d y → IsAround s order first last z
hulled s order first last a b c d x y z h wide wider one two = λ p piece low high inside. ⊎_elim
    (λ k. wide piece (one p piece k.0 k.1 inside))
    (λ k. wider piece (two p piece k.0 k.1 inside))
    (h.each p low high)

-- a leaf's first place
pub only : (s : Pieces) (order : List ℕ) (first p piece n : ℕ) (x : Bounds) → IsHeld s n x → slice_get order first ≡ Some n → p ≡ first → slice_get order p ≡ Some piece → IsHeld s piece x
only s order first p piece n x h at e inside =
    let Q : ℕ → Type 0 = λ k. slice_get order k ≡ Some piece in
    let R : ℕ → Type 0 = λ k. IsHeld s k x in
    subst R (same_Some n piece (sym at ∙ subst Q e inside)) h

-- one place more of a leaf
pub around_more : (s : Pieces) (order : List ℕ) (first place : ℕ) (x y z : Bounds) (n : ℕ) → ((piece : ℕ) → IsHeld s piece x → IsHeld s piece z) → ((piece : ℕ) → IsHeld s piece y → IsHeld s piece z)
    → ((p piece : ℕ) → first ≤ p → p < place → slice_get order p ≡ Some piece → IsHeld s piece x) → IsHeld s n y → slice_get order place ≡ Some n
    → (p piece : ℕ) → first ≤ p → p < place + 1 → slice_get order p ≡ Some piece → IsHeld s piece z
around_more s order first place x y z n wide wider all now at p piece low high inside = ⊎_elim
    (λ e. let Q : ℕ → Type 0 = λ k. slice_get order k ≡ Some piece in
    let R : ℕ → Type 0 = λ k. IsHeld s k z in
    subst R (same_Some n piece (sym at ∙ subst Q e inside)) (wider n now))
    (λ less. wide piece (all p piece low less inside))
    (let le : p ≤ place = omega arith in eq-or-lt_of_le le)
