-- What a search knows when a walk has come to a node or passed it over.
use Rattle.std.proofs.Common.{ℕ, suc, ◌+◌, ◌-◌, ◌<◌, ◌≤◌, ◌≡◌, Bool, true, nat_le, nat_lt, nat_eq, Some, List, [], ◌∷◌, length, get_or, slice_get, refl, sym, subst, ◌∙◌, ⊎_elim, arith}
use Rattle.std.specs.List.{list_any}
use Rattle.std.proofs.Math.Nat.{eq-or-lt_of_le}
use Rattle.std.proofs.lemmas.Bool.{false≢true, cases_lt, or_cases, and_parts, leb-true, ltb-true, eqb-true}
use Rattle.std.proofs.lemmas.Option.{get_or_from_slice_get, slice_get-get_or, slice_get_within}
use Rattle.shapes.specs.Rays.{point_at}
use Rattle.csg_hits.specs.Pieces.{Pieces}
use Rattle.slab_tree.specs.declared.node.Node.{Node}
use Rattle.csg_hits.specs.declared.asking.Search.{Search}
use Rattle.box_probe.specs.declared.bounds.Bounds.{Bounds}
use Rattle.box_probe.specs.Boxes.{IsInBounds}
use Rattle.csg_hits.specs.Searches.{IsAsked, IsFurther}
use Rattle.slab_tree.specs.Outlines.{IsHeld, IsWhole}
use Rattle.slab_tree.specs.Trees.{IsTrack, is_own}

-- where a test passes in a list
pub found_in : {A : Type 0} (p : A → Bool) (xs : List A) → list_any p xs ≡ true → (k : ℕ) × (x : A) × (slice_get xs k ≡ Some x) × (p x ≡ true)
found_in p [] h = absurd (false≢true h)
found_in p (x ∷ xs) h = ⊎_elim
    (λ e. (0, x, refl, e))
    (λ r. let m = found_in p xs r in (suc m.0, m.1, m.2, m.3))
    (or_cases (p x) (list_any p xs) h)

-- ---- places of a list

pub one_more : (s : Pieces) (pieces : List ℕ) (first place : ℕ) (old new : Search) → IsFurther s old new
    → ((k piece : ℕ) → first ≤ k → k < place → slice_get pieces k ≡ Some piece → IsAsked s old piece) → IsAsked s new (get_or pieces place 0)
    → (k piece : ℕ) → first ≤ k → k < place + 1 → slice_get pieces k ≡ Some piece → IsAsked s new piece
one_more s pieces first place old new f all now k piece low high at = ⊎_elim
    (λ e. let P : ℕ → Type 0 = λ n. IsAsked s new n in
    let Q : ℕ → Type 0 = λ n. slice_get pieces n ≡ Some piece in
    subst P (get_or_from_slice_get pieces place piece 0 (subst Q e at)) now)
    (λ less. f.asked piece (all k piece low less at))
    (let le : k ≤ place = omega arith in eq-or-lt_of_le le)

-- ---- nodes

-- what is known of the pieces of the nodes before a place
abbrev pub ArePassed : Pieces → List ℕ → List Node → ℕ → Search → Type 0
ArePassed s order nodes i search = (k place piece : ℕ) (node : Node) → k < i → slice_get nodes k ≡ Some node → is_own node place ≡ true → slice_get order place ≡ Some piece → IsAsked s search piece

own_low : (node : Node) (place : ℕ) → is_own node place ≡ true → node.start ≤ place
own_low node place e = leb-true node.start place (and_parts (nat_le node.start place) (nat_lt place (node.start + 4)) e).0

own_high : (node : Node) (place : ℕ) → is_own node place ≡ true → place < node.start + 4
own_high node place e = ltb-true place (node.start + 4) (and_parts (nat_le node.start place) (nat_lt place (node.start + 4)) e).1

-- a node that is met, whose own pieces were asked
pub met : (s : Pieces) (order : List ℕ) (nodes : List Node) (i : ℕ) (d : Node) (old new : Search) → i < length nodes → IsFurther s old new → ArePassed s order nodes i old
    → ((place piece : ℕ) → (get_or nodes i d).start ≤ place → place < (get_or nodes i d).start + 4 → slice_get order place ≡ Some piece → IsAsked s new piece)
    → ArePassed s order nodes (i + 1) new
met s order nodes i d old new lt f all now k place piece node high at own there = ⊎_elim
    (λ e. let Q : ℕ → Type 0 = λ n. slice_get nodes n ≡ Some node in
    let same : get_or nodes i d ≡ node = get_or_from_slice_get nodes i node d (subst Q e at) in
    let P : Node → Type 0 = λ n. is_own n place ≡ true in
    let own' : is_own (get_or nodes i d) place ≡ true = subst P (sym same) own in
    now place piece (own_low (get_or nodes i d) place own') (own_high (get_or nodes i d) place own') there)
    (λ less. f.asked piece (all k place piece node less at own there))
    (let le : k ≤ i = omega arith in eq-or-lt_of_le le)

-- a box in which a ray is at no number that counts: the two numbers between which a strike lies are among them
abbrev pub IsUnmet : Search → Bounds → Type 0
IsUnmet search bounds = (t : ℕ) → search.from ≤ t + 1 → t < search.path.end → ¬ IsInBounds bounds (point_at search.path.ray t)

-- what lies in it can't be struck sooner
pub unmet : (s : Pieces) (piece : ℕ) (bounds : Bounds) (search : Search) → IsHeld s piece bounds → IsUnmet search bounds → IsAsked s search piece
unmet s piece bounds search held out = λ t leaf low before struck. absurd (false≢true (sym (held search.path.ray search.shadow t leaf
    (omega (arith, search.positive, low))
    (search.path.inside (t - 1) (omega (arith, before)))
    (search.path.inside t before)
    (out (t - 1) (omega (arith, search.positive, low)) (omega (arith, before)))
    (out t (omega (arith, low)) before)) ∙ struck))

-- nor can any piece below a node whose box is so
pub missed : (s : Pieces) (order : List ℕ) (nodes : List Node) (i : ℕ) (d : Node) (search : Search) → IsTrack s order nodes → i < length nodes → IsUnmet search (get_or nodes i d).bounds
    → ArePassed s order nodes i search → ArePassed s order nodes (get_or nodes i d).skip search
missed s order nodes i d search track lt out all k place piece node high at own there = ⊎_elim
    (λ less. all k place piece node less at own there)
    (λ ge. unmet s piece (get_or nodes i d).bounds search (track.held i k place piece (get_or nodes i d) node (slice_get-get_or nodes i d lt) at ge high own there) out)
    (cases_lt k i)

pub onward : (s : Pieces) (order : List ℕ) (nodes : List Node) (i : ℕ) (d : Node) → IsTrack s order nodes → i < length nodes → length nodes - (get_or nodes i d).skip < length nodes - i
onward s order nodes i d track lt = let k = track.onward i (get_or nodes i d) (slice_get-get_or nodes i d lt) in omega arith

-- behind the last node all pieces of the order were asked
pub passed_all : (s : Pieces) (order : List ℕ) (nodes : List Node) (i : ℕ) (search : Search) → IsTrack s order nodes → length nodes ≤ i → ArePassed s order nodes i search
    → (place piece : ℕ) → slice_get order place ≡ Some piece → IsAsked s search piece
passed_all s order nodes i search track end all place piece at =
    let m = found_in (λ node. is_own node place) nodes (track.all place (slice_get_within order place piece at)) in
    all m.0 place piece m.1 (let k = slice_get_within nodes m.0 m.1 m.2 in omega arith) m.2 m.3 at

-- ---- all pieces

same_number : (s : Pieces) (search : Search) (n piece : ℕ) → nat_eq n piece ≡ true → IsAsked s search n → IsAsked s search piece
same_number s search n piece e h = let P : ℕ → Type 0 = λ k. IsAsked s search k in subst P (eqb-true n piece e) h

pub everywhere : (s : Pieces) (apart order xs ys : List ℕ) (middle new : Search) → IsWhole (length s.pieces) apart order → xs ≡ apart → ys ≡ order → IsFurther s middle new
    → ((k piece : ℕ) → slice_get xs k ≡ Some piece → IsAsked s middle piece) → ((k piece : ℕ) → slice_get ys k ≡ Some piece → IsAsked s new piece)
    → (piece : ℕ) → piece < length s.pieces → IsAsked s new piece
everywhere s apart order xs ys middle new whole ex ey f first second piece lt = ⊎_elim
    (λ h. let m = found_in (λ n. nat_eq n piece) apart h in
    let Q : List ℕ → Type 0 = λ l. slice_get l m.0 ≡ Some m.1 in
    same_number s new m.1 piece m.3 (f.asked m.1 (first m.0 m.1 (subst Q (sym ex) m.2))))
    (λ h. let m = found_in (λ n. nat_eq n piece) order h in
    let Q : List ℕ → Type 0 = λ l. slice_get l m.0 ≡ Some m.1 in
    same_number s new m.1 piece m.3 (second m.0 m.1 (subst Q (sym ey) m.2)))
    (or_cases (list_any (λ n. nat_eq n piece) apart) (list_any (λ n. nat_eq n piece) order) (whole.each piece lt))
