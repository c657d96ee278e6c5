-- The steps that take the pen out of its place, mark numbers and put the pen back.
use Rattle.std.proofs.Common.{◌≡◌, ◌≢◌, ◌⊎◌, inl, inr, ⊎_elim, ℕ, ◌<◌, ◌≤◌, ◌/◌, ◌%◌, List, [], ◌∷◌, length, set, refl, ap, sym, ◌∙◌, arith, subst, Option, Some, Bool, true, false}
use Rattle.std.proofs.lemmas.Bool.Decides.{nat_tests}
use Rattle.std.specs.Int.{bit_at}
use Rattle.std.specs.Prelude.{◌↔◌}
use mathlib.Core.Option as maybe
use mathlib.Core.Option.{some, none}
use lib.ListN.{get_elem?}
use Rattle.atomic_table.proofs.Lists.{at_set}
use Rattle.block_pool.specs.Counting.{total, times, once_below, weight, mark_in}
use Rattle.block_pool.specs.Rule.{IsRuledAt, IsSound, AreDrawn, IsPlaced, IsPlaced.home, IsPlaced.out, times_drawn, turn_in, lifted_in, mark_words}
use Rattle.block_pool.specs.Views.{list_of, IsDrawnBy, StandsBelow, IsCommitted, words_known, lifted, gave}
use Rattle.block_pool.specs.Steps.{IsLent}
use Rattle.block_pool.specs.declared.view.Terms.{Terms}
use Rattle.block_pool.specs.declared.view.View.{View}
use Rattle.block_pool.proofs.Totals.{total_set, total_above, total_two, total_le_at}
use Rattle.block_pool.proofs.Turns.{settled, as_before, weight_of, weight_not, one_of_weight}

pub lifted_within : {K : Type 0} (terms : Terms K) (next : ℕ) (marks : ℕ → ℕ) (v : View K) → IsSound terms next marks v → lifted_in v ≤ turn_in v
lifted_within terms next marks v h = within v.lifted v.turn h.lifted
  where
    within : (lifted turn : Bool) → (lifted ≡ true → turn ≡ true) → weight lifted ≤ weight turn
    within false turn h = omega arith
    within true turn h = let e = ap weight (h refl) in omega arith

-- the number i of a mark word that changes, and the others
pub mark_word : (n i : ℕ) → i < n → i / 64 < mark_words n
mark_word n i below = omega arith

-- words that agree have the same marks
pub same_marks : (n : ℕ) (f g : ℕ → ℕ) → ((j : ℕ) → j < mark_words n → f j ≡ g j) → (i : ℕ) → i < n → mark_in f i ≡ mark_in g i
same_marks n f g same i below = ap (λ w. bit_at w (i % 64)) (same (i / 64) (mark_word n i below))

committed_by : {K : Type 0} (knew : K → ℕ → Type 0) (terms : Terms K) (f g : ℕ → ℕ) (x : ℕ) → ((j : ℕ) → j < mark_words (length (list_of terms)) → f j ≡ g j)
    → IsCommitted knew terms f x → IsCommitted knew terms g x
committed_by knew terms f g x same (inl k) = inl k
committed_by knew terms f g x same (inr p) = inr (p.0, p.1, sym (same_marks (length (list_of terms)) f g same p.0 p.1.0) ∙ p.2)

pub all_known : {K : Type 0} (terms : Terms K) (next : ℕ) (marks : ℕ → ℕ) (v : View K) → IsSound terms next marks v → v.turn ≡ true → length v.known ≡ mark_words (length (list_of terms))
    → (j : ℕ) → j < mark_words (length (list_of terms)) → marks j ≡ words_known v j
all_known terms next marks v h turn all j below = h.known turn j (omega arith)

drawn_below : (x next many : ℕ) → 0 < many → many ≤ once_below x next → x < next
drawn_below x next many one within = grind (arith, nat_tests)

is_below : {K : Type 0} (terms : Terms K) (next : ℕ) (views : List (View K)) (id : ℕ) (v : View K) (x : ℕ) → get_elem? views id ≡ some v
    → AreDrawn (length (list_of terms)) terms.callers next views → 0 < times x v.drawn → x < next
is_below terms next views id v x at h there = let above = total_above (times_drawn x) views id v at in let e = h.once x in drawn_below x next (times x v.drawn) there (omega arith)

module _ {K P : Type 0} (in_order : P → K → Type 0) (knows : P → ℕ → Type 0) (is_tried : P → ℕ → Type 0) (was_block knew : K → ℕ → Type 0) where
  abbrev At : Terms K → ℕ → ℕ → (ℕ → ℕ) → List (maybe.Option (Option P)) → List (View K) → Type 0
  At = IsRuledAt in_order knows is_tried was_block knew

  abbrev Placed : Terms K → ℕ → (ℕ → ℕ) → List (View K) → List (maybe.Option (Option P)) → Type 0
  Placed = IsPlaced in_order knows is_tried was_block knew

  -- where a seat has the turn, no other one has it
  pub others_idle : (terms : Terms K) (next word : ℕ) (marks : ℕ → ℕ) (homes : List (maybe.Option (Option P))) (views : List (View K)) (id other : ℕ) (v u : View K)
      → At terms next word marks homes views → get_elem? views id ≡ some v → v.turn ≡ true → get_elem? views other ≡ some u → other ≢ id → u.turn ≡ false
  others_idle terms next word marks homes views id other v u h at turn there apart =
      let two = total_two turn_in views id other v u at there (λ e. apart (sym e)) in
      let w = weight_of v.turn turn in let t = h.turns in let o = h.one in
      one_of_weight u.turn (omega arith)

  -- while a seat has the turn and hasn't lifted the pen, nobody has
  none_lifted : (terms : Terms K) (next word : ℕ) (marks : ℕ → ℕ) (homes : List (maybe.Option (Option P))) (views : List (View K)) (id : ℕ) (v : View K)
      → At terms next word marks homes views → get_elem? views id ≡ some v → v.turn ≡ true → v.lifted ≡ false → total lifted_in views ≡ 0
  none_lifted terms next word marks homes views id v h at turn idle =
      let few = total_le_at lifted_in turn_in views id v at (λ other u there. lifted_within terms next marks u (h.each other u there)) in
      let w = weight_of v.turn turn in let l = weight_not v.lifted idle in let t = h.turns in let o = h.one in omega arith

  out_of : (terms : Terms K) (next : ℕ) (marks : ℕ → ℕ) (homes : List (maybe.Option (Option P))) (views : List (View K)) (id : ℕ) (v : View K)
      → get_elem? views id ≡ some v → v.lifted ≡ true → Placed terms next marks views homes → homes ≡ none ∷ []
  out_of terms next marks _ views id v at up (home pen none_out there) = absurd (let above = total_above lifted_in views id v at in let l = weight_of v.lifted up in omega arith)
  out_of terms next marks _ views id v at up (out one) = refl

  -- what a lift does: the pen that was home, and the rule with the slot out
  pub record Lifts (terms : Terms K) (next word : ℕ) (marks : ℕ → ℕ) (homes : List (maybe.Option (Option P))) (views : List (View K)) (id : ℕ) (v : View K) : Type 0 where
    pub pen : P
    pub is : homes ≡ some (Some pen) ∷ []
    pub lent : IsLent in_order knows is_tried was_block knew terms v pen
    pub after : At terms next word marks (none ∷ []) (set views id (lifted v))

  lifts_home : (terms : Terms K) (next word : ℕ) (marks : ℕ → ℕ) (homes : List (maybe.Option (Option P))) (views : List (View K)) (id : ℕ) (v : View K)
      → get_elem? views id ≡ some v → v.turn ≡ true → v.lifted ≡ false → length v.known ≡ mark_words (length (list_of terms))
      → Placed terms next marks views homes → At terms next word marks homes views → Lifts terms next word marks homes views id v
  lifts_home terms next word marks _ views id v at turn idle all (home pen none_out there) h = record {
    pen = pen;
    is = refl;
    lent = record {
      order = there.order;
      committed = λ x. (λ k. committed_by knew terms marks (words_known v) x (all_known terms next marks v (h.each id v at) turn all) ((there.committed x).0 k), λ k. (there.committed x).1 (committed_by knew terms (words_known v) marks x (λ j below. sym (all_known terms next marks v (h.each id v at) turn all j below)) k));
      tried = λ x k e t. there.kept id v k at turn e x t;
    };
    after = settled in_order knows is_tried was_block knew terms next word word marks (some (Some pen) ∷ []) (none ∷ []) views id v (lifted v) at (as_before in_order knows is_tried was_block knew v (lifted v) refl refl refl refl) refl h.one
        (let s = h.each id v at in record { told = s.told; spent = s.spent; live = s.live; ended = s.ended; marked = s.marked; lifted = λ _. turn; known = s.known; kept = s.kept })
        (let e = total_set lifted_in views id v (lifted v) at in let l = weight_not v.lifted idle in out (omega arith)) h;
  }
  lifts_home terms next word marks _ views id v at turn idle all (out one) h =
      absurd (let e = none_lifted terms next word marks (none ∷ []) views id v h at turn idle in omega arith)

  pub lifted_at : (terms : Terms K) (next word : ℕ) (marks : ℕ → ℕ) (homes : List (maybe.Option (Option P))) (views : List (View K)) (id : ℕ) (v : View K)
      → get_elem? views id ≡ some v → v.turn ≡ true → v.lifted ≡ false → length v.known ≡ mark_words (length (list_of terms))
      → At terms next word marks homes views → Lifts terms next word marks homes views id v
  lifted_at terms next word marks homes views id v at turn idle all h = lifts_home terms next word marks homes views id v at turn idle all h.placed h

  -- a pen goes home
  pub gave_at : (terms : Terms K) (next word : ℕ) (marks : ℕ → ℕ) (homes : List (maybe.Option (Option P))) (views : List (View K)) (id : ℕ) (v : View K) (pen : P)
      → get_elem? views id ≡ some v → v.lifted ≡ true → length v.known ≡ mark_words (length (list_of terms))
      → in_order pen terms.start.value
      → ((x : ℕ) → knows pen x ↔ IsCommitted knew terms (words_known v) x)
      → ((x : ℕ) → is_tried pen x → ((k : ℕ) × (v.kept ≡ Some k) × StandsBelow terms k x) ⊎ IsDrawnBy terms v x)
      → At terms next word marks homes views → (homes ≡ none ∷ []) × At terms next 0 marks (some (Some pen) ∷ []) (set views id (gave v))
  gave_at terms next word marks homes views id v pen at up all order committed tried h =
      let s = h.each id v at in
      let turn = s.lifted up in
      let w = weight_of v.turn turn in
      let t = h.turns in let o = h.one in
      let above = total_above turn_in views id v at in (
        out_of terms next marks homes views id v at up h.placed,
        settled in_order knows is_tried was_block knew terms next word 0 marks homes (some (Some pen) ∷ []) views id v (gave v) at (as_before in_order knows is_tried was_block knew v (gave v) refl refl refl refl) (omega arith) (omega arith)
            (record { told = s.told; spent = λ e. ((s.spent e).0, refl, (s.spent e).2); live = s.live; ended = s.ended; marked = s.marked; lifted = λ e. (let e' : false ≡ true = e in cc); known = λ e. (let e' : false ≡ true = e in absurd (cc)); kept = λ e. (let e' : false ≡ true = e in absurd (cc)) })
            (let e = total_set lifted_in views id v (gave v) at in let l = weight_of v.lifted up in
            let few = total_le_at lifted_in turn_in views id v at (λ other u there. lifted_within terms next marks u (h.each other u there)) in
            home pen (omega arith) (record {
              order = order;
              committed = λ x. (λ k. committed_by knew terms (words_known v) marks x (λ j below. sym (all_known terms next marks v s turn all j below)) ((committed x).0 k), λ k. (committed x).1 (committed_by knew terms marks (words_known v) x (all_known terms next marks v s turn all) k));
              tried = λ x t. ⊎_elim (λ kept. let k : ℕ = kept.0 in let below = s.kept turn kept.0 kept.1 in (kept.2.0, (let b = kept.2.1 in omega arith), kept.2.2)) (λ drawn. (drawn.0, is_below terms next views id v drawn.0 at h.draws drawn.2, drawn.1)) (tried x t);
              kept = λ other u k there turned. ⊎_elim (λ here. (let e' : false ≡ true = subst (λ (u : View K). u.turn ≡ true) (sym here.1) turned in absurd (cc)))
                  (λ apart. let idle = others_idle terms next word marks homes views id other v u h at turn apart.1 apart.0 in absurd (let e' : true ≡ false = sym turned ∙ idle in cc)) (at_set views id other (gave v) u there);
            })) h,
      )
