-- The steps by which the pen is passed: none of them changes what is drawn.
use Rattle.std.proofs.Common.{◌≡◌, ◌≢◌, ⊎_elim, ℕ, zero, suc, ◌+◌, ◌<◌, ◌≤◌, List, [], ◌∷◌, ◌++◌, length, set, get_or, refl, ap, sym, arith, subst, Option, Some, None, Bool, true, false}
use Rattle.std.proofs.lemmas.Grind.{common_steps}
use mathlib.Core.Option as maybe
use mathlib.Core.Option.{some, none, some-ne-none}
use lib.ListN.{get_elem?}
use Rattle.atomic_table.proofs.Lists.{at_set}
use Rattle.block_pool.specs.Counting.{total, times, over, weight}
use Rattle.block_pool.specs.Rule.{IsRuledAt, IsSound, IsHome, IsPlaced, IsPlaced.home, IsPlaced.out, parts_in, live, times_drawn, times_marked, over_drawn, over_or_live, turn_in, lifted_in}
use Rattle.block_pool.specs.Views.{list_of, StandsBelow, in_turn, missed, read, kept}
use Rattle.block_pool.specs.declared.view.Terms.{Terms}
use Rattle.block_pool.specs.declared.view.View.{View}
use Rattle.block_pool.proofs.Totals.{total_set, total_le_at}

pub one_of_weight : (b : Bool) → weight b ≡ 0 → b ≡ false
one_of_weight true e = absurd (omega arith)
one_of_weight false e = refl

pub weight_of : (b : Bool) → b ≡ true → weight b ≡ 1
weight_of b e = ap weight e

pub weight_not : (b : Bool) → b ≡ false → weight b ≡ 0
weight_not b e = ap weight e

some_is : (a b : ℕ) → Some a ≡ Some b → a ≡ b
some_is a b e = cc

known_more : (marks : ℕ → ℕ) (known : List ℕ) → ((j : ℕ) → j < length known → marks j ≡ get_or known j 0)
    → (j : ℕ) → j < length (known ++ marks (length known) ∷ []) → marks j ≡ get_or (known ++ marks (length known) ∷ []) j 0
known_more marks known h j below = grind (arith, common_steps)

some_turn : (parts : ℕ) (turn : Bool) → (parts ≡ 0 → turn ≡ false) → weight turn ≤ parts
some_turn parts false h = omega arith
some_turn zero true h = absurd (let e : true ≡ false = h refl in cc)
some_turn (suc n) true h = omega arith

turns_within : {K : Type 0} (terms : Terms K) (next : ℕ) (marks : ℕ → ℕ) (v : View K) → IsSound terms next marks v → turn_in v ≤ parts_in v
turns_within terms next marks v h = some_turn v.parts v.turn (λ e. (h.spent e).1)

turns_below : {K : Type 0} (terms : Terms K) (next : ℕ) (marks : ℕ → ℕ) (views : List (View K)) (id : ℕ) (v : View K) → get_elem? views id ≡ some v
    → ((id : ℕ) (v : View K) → get_elem? views id ≡ some v → IsSound terms next marks v) → total turn_in views + parts_in v ≤ total parts_in views + turn_in v
turns_below terms next marks views id v at each = total_le_at turn_in parts_in views id v at (λ other u there. turns_within terms next marks u (each other u there))

module _ {K P : Type 0} (in_order : P → K → Type 0) (knows : P → ℕ → Type 0) (is_tried : P → ℕ → Type 0) (was_block knew : K → ℕ → Type 0) where
  abbrev At : Terms K → ℕ → ℕ → (ℕ → ℕ) → List (maybe.Option (Option P)) → List (View K) → Type 0
  At = IsRuledAt in_order knows is_tried was_block knew

  abbrev Placed : Terms K → ℕ → (ℕ → ℕ) → List (View K) → List (maybe.Option (Option P)) → Type 0
  Placed = IsPlaced in_order knows is_tried was_block knew

  abbrev Home : Terms K → ℕ → (ℕ → ℕ) → List (View K) → P → Type 0
  Home = IsHome in_order knows is_tried was_block knew

  -- the view w counts as v does
  pub record CountsAs (v w : View K) : Type 0 where
    pub same_parts : w.parts ≡ v.parts
    pub same_drawn : w.drawn ≡ v.drawn
    pub same_marked : w.marked ≡ v.marked
    pub same_through : w.through ≡ v.through

  live_same : (v w : View K) → CountsAs v w → live w ≡ live v
  live_same v w e = let p = e.same_parts in let t = e.same_through in cc

  pub settled : (terms : Terms K) (next word after : ℕ) (marks : ℕ → ℕ) (homes now : List (maybe.Option (Option P))) (views : List (View K)) (id : ℕ) (v w : View K)
      → get_elem? views id ≡ some v → CountsAs v w → after + weight v.turn ≡ word + weight w.turn → after ≤ 1
      → IsSound terms next marks w → Placed terms next marks (set views id w) now → At terms next word marks homes views
      → At terms next after marks now (set views id w)
  settled terms next word after marks homes now views id v w at same turn small sound placed h = record {
    draws = record {
      parts = let e = total_set parts_in views id v w at in let p = h.draws.parts in let q = same.same_parts in omega arith;
      once = λ x. let e = total_set (times_drawn x) views id v w at in let p = h.draws.once x in let q : times x w.drawn ≡ times x v.drawn = ap (times x) same.same_drawn in omega arith;
      bound = let e = total_set (over_or_live (length (list_of terms))) views id v w at in let p = h.draws.bound in let q : over (length (list_of terms)) w.drawn ≡ over (length (list_of terms)) v.drawn = ap (over (length (list_of terms))) same.same_drawn in
          let r : live w ≡ live v = live_same v w same in omega arith;
      reach = let e = total_set (over_drawn (length (list_of terms))) views id v w at in let p = h.draws.reach in let q : over (length (list_of terms)) w.drawn ≡ over (length (list_of terms)) v.drawn = ap (over (length (list_of terms))) same.same_drawn in omega arith;
    };
    marks_set = record { set = λ x below. let e = total_set (times_marked x) views id v w at in let p = h.marks_set.set x below in let q : times x w.marked ≡ times x v.marked = ap (times x) same.same_marked in omega arith };
    turns = let e = total_set turn_in views id v w at in let p = h.turns in omega arith;
    one = small;
    placed = placed;
    each = λ other u there. ⊎_elim (λ here. subst (IsSound terms next marks) here.1 sound) (λ apart. h.each other u apart.1) (at_set views id other w u there);
  }

  abbrev pub as_before : (v w : View K) → w.parts ≡ v.parts → w.drawn ≡ v.drawn → w.marked ≡ v.marked → w.through ≡ v.through → CountsAs v w
  as_before v w p d m t = record { same_parts = p; same_drawn = d; same_marked = m; same_through = t }

  -- the pen stays where it is while a view changes that doesn't lift it and says no more of the next number
  stays : (terms : Terms K) (next : ℕ) (marks : ℕ → ℕ) (homes : List (maybe.Option (Option P))) (views : List (View K)) (id : ℕ) (v w : View K)
      → get_elem? views id ≡ some v → w.lifted ≡ v.lifted
      → ((pen : P) → Home terms next marks views pen → (k : ℕ) → w.turn ≡ true → w.kept ≡ Some k → (x : ℕ) → is_tried pen x → StandsBelow terms k x)
      → Placed terms next marks views homes → Placed terms next marks (set views id w) homes
  stays terms next marks _ views id v w at same says (home pen none_lifted h) =
      let e = total_set lifted_in views id v w at in let l : weight w.lifted ≡ weight v.lifted = ap weight same in
      home pen (omega arith) (record {
        order = h.order;
        committed = h.committed;
        tried = h.tried;
        kept = λ other u k there turn is x t. ⊎_elim (λ here. says pen h k (subst (λ (u : View K). u.turn ≡ true) (sym here.1) turn) (subst (λ (u : View K). u.kept ≡ Some k) (sym here.1) is) x t)
            (λ apart. h.kept other u k apart.1 turn is x t) (at_set views id other w u there);
      })
  stays terms next marks _ views id v w at same says (out one) =
      let e = total_set lifted_in views id v w at in let l : weight w.lifted ≡ weight v.lifted = ap weight same in out (omega arith)

  -- a seat that finds the pen home has the turn
  pub turned_at : (terms : Terms K) (next word : ℕ) (marks : ℕ → ℕ) (homes : List (maybe.Option (Option P))) (views : List (View K)) (id : ℕ) (v : View K)
      → get_elem? views id ≡ some v → v.turn ≡ false → 0 < v.parts → word ≡ 0
      → At terms next word marks homes views → At terms next 1 marks homes (set views id (in_turn v))
  turned_at terms next word marks homes views id v at idle part free h =
      let s = h.each id v at in
      settled terms next word 1 marks homes homes views id v (in_turn v) at (as_before v (in_turn v) refl refl refl refl) (let w = weight_not v.turn idle in omega arith) (omega arith)
      (record { told = s.told; spent = λ e. absurd (omega arith); live = s.live; ended = s.ended; marked = s.marked; lifted = λ _. refl; known = λ _ j below. absurd (omega arith); kept = λ _ k e. (let e' : None ≡ Some k = e in cc) })
      (stays terms next marks homes views id v (in_turn v) at refl (λ pen home k _ e x t. (let e' : None ≡ Some k = e in cc)) h.placed) h

  -- a seat that finds the pen out
  pub missed_at : (terms : Terms K) (next word : ℕ) (marks : ℕ → ℕ) (homes : List (maybe.Option (Option P))) (views : List (View K)) (id : ℕ) (v : View K)
      → get_elem? views id ≡ some v → v.turn ≡ false → word ≢ 0
      → At terms next word marks homes views → At terms next 1 marks homes (set views id (missed v))
  missed_at terms next word marks homes views id v at idle some_out h =
      let s = h.each id v at in
      let o = h.one in
      settled terms next word 1 marks homes homes views id v (missed v) at (as_before v (missed v) refl refl refl refl) (omega arith) (omega arith)
      (record { told = s.told; spent = s.spent; live = s.live; ended = s.ended; marked = s.marked; lifted = s.lifted; known = s.known; kept = s.kept })
      (stays terms next marks homes views id v (missed v) at refl (λ pen home k turn e x t. (let t' : v.turn ≡ true = turn in cc)) h.placed) h

  -- a seat with all parts never finds the pen out
  pub all_parts_get : (terms : Terms K) (next word : ℕ) (marks : ℕ → ℕ) (homes : List (maybe.Option (Option P))) (views : List (View K)) (id : ℕ) (v : View K)
      → get_elem? views id ≡ some v → v.turn ≡ false → v.parts ≡ terms.callers
      → At terms next word marks homes views → word ≡ 0
  all_parts_get terms next word marks homes views id v at idle all h =
      let few : total turn_in views + parts_in v ≤ total parts_in views + turn_in v = turns_below terms next marks views id v at h.each in
      let w = weight_not v.turn idle in let p = h.draws.parts in let t = h.turns in omega arith

  -- the next mark word is read
  pub read_at : (terms : Terms K) (next word : ℕ) (marks : ℕ → ℕ) (homes : List (maybe.Option (Option P))) (views : List (View K)) (id : ℕ) (v : View K)
      → get_elem? views id ≡ some v → v.turn ≡ true
      → At terms next word marks homes views → At terms next word marks homes (set views id (read v (marks (length v.known))))
  read_at terms next word marks homes views id v at turn h =
      let s = h.each id v at in
      settled terms next word word marks homes homes views id v (read v (marks (length v.known))) at (as_before v (read v (marks (length v.known))) refl refl refl refl) refl h.one
      (record { told = s.told; spent = s.spent; live = s.live; ended = s.ended; marked = s.marked; lifted = s.lifted; known = λ t j below. known_more marks v.known (s.known t) j below; kept = s.kept })
      (stays terms next marks homes views id v (read v (marks (length v.known))) at refl (λ pen home k turn' e x t. home.kept id v k at turn' e x t) h.placed) h

  -- the next number is read
  pub kept_at : (terms : Terms K) (next word : ℕ) (marks : ℕ → ℕ) (homes : List (maybe.Option (Option P))) (views : List (View K)) (id : ℕ) (v : View K)
      → get_elem? views id ≡ some v → v.turn ≡ true
      → At terms next word marks homes views → At terms next word marks homes (set views id (kept v next))
  kept_at terms next word marks homes views id v at turn h =
      let s = h.each id v at in
      settled terms next word word marks homes homes views id v (kept v next) at (as_before v (kept v next) refl refl refl refl) refl h.one
      (record { told = s.told; spent = s.spent; live = s.live; ended = s.ended; marked = s.marked; lifted = s.lifted; known = s.known; kept = λ t k e. (let k' : next ≡ k = some_is next k e in omega arith) })
      (stays terms next marks homes views id v (kept v next) at refl (λ pen home k turn' e x t. let below = home.tried x t in let k' : next ≡ k = some_is next k e in (below.0, omega arith, below.2)) h.placed) h
