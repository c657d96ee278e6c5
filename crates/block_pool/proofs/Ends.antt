-- The rule at the start and at the end of a pool.
use Rattle.std.proofs.Common.{◌≡◌, ◌≢◌, inl, inr, ⊎_elim, ℕ, zero, suc, ◌+◌, ◌<◌, ◌≤◌, ◌/◌, ◌%◌, ◌^◌, List, [], ◌∷◌, length, replicate, get_or, refl, ap, sym, ◌∙◌, arith, subst, Option, Some, true, false}
use Rattle.std.specs.Prelude.{◌↔◌}
use Rattle.std.proofs.lemmas.Nat.Bits.{bit_at-zero}
use Rattle.std.proofs.lemmas.Bool.Decides.{nat_tests}
use Rattle.std.proofs.lemmas.List.{length-replicate}
use Rattle.std.specs.Int.{bit_at}
use mathlib.Core.Option as maybe
use mathlib.Core.Option.{some, none, some-injective, some-ne-none}
use lib.ListN.{get_elem?}
use Rattle.atomic_table.specs.Table.{State, opening}
use Rattle.block_pool.specs.Counting.{times, once_below, mark_in}
use Rattle.block_pool.specs.Rule.{IsFair, IsRuled, IsSound, IsPlaced, IsPlaced.home, IsPlaced.out, parts_in, times_drawn, times_marked, turn_in, lifted_in, mark_words, first_view}
use Rattle.block_pool.specs.Views.{list_of}
use Rattle.block_pool.specs.Pools.{IsGathered}
use Rattle.block_pool.specs.declared.view.Terms.{Terms}
use Rattle.block_pool.specs.declared.view.View.{View}
use Rattle.block_pool.proofs.Totals.{total_two, total_le_at, total_alone}
use Rattle.block_pool.proofs.Turns.{all_parts_get, weight_not}
use Rattle.block_pool.proofs.Pens.{lifted_within}

none_of : (n : ℕ) → n ≤ 0 → n ≡ 0
none_of n h = omega arith

bit_small : (n k : ℕ) → bit_at n k < 2
bit_small n k = omega arith

once_none : (x : ℕ) → once_below x 0 ≡ 0
once_none x = grind (arith, nat_tests)

zeros : (n i : ℕ) → get_or (replicate n zero) i zero ≡ zero
zeros zero i = refl
zeros (suc n) zero = refl
zeros (suc n) (suc i) = zeros n i

only_first : {A : Type 0} (a b : A) (id : ℕ) → get_elem? (a ∷ []) id ≡ some b → a ≡ b
only_first a b zero e = some-injective a b e
only_first a b (suc id) e = absurd (some-ne-none b (sym e))

module _ {K P : Type 0} (in_order : P → K → Type 0) (knows : P → ℕ → Type 0) (is_tried : P → ℕ → Type 0) (was_block knew : K → ℕ → Type 0) where
  -- what is known at the end: the pen at home, and what the last view says of it
  pub record Ends (terms : Terms K) (s : State (Option P) (View K)) (v : View K) : Type 0 where
    pub pen : P
    pub is : s.homes ≡ some (Some pen) ∷ []
    pub gathered : IsGathered in_order knows is_tried knew terms v pen (get_or s.words 0 0)

  spent_one : (terms : Terms K) (s : State (Option P) (View K)) (id other : ℕ) (v u : View K) → IsRuled in_order knows is_tried was_block knew terms s
      → get_elem? s.views id ≡ some v → v.parts ≡ terms.callers → get_elem? s.views other ≡ some u → other ≢ id → u.drawn ≡ []
  spent_one terms s id other v u h at all there apart =
      let two = total_two parts_in s.views id other v u at there (λ e. apart (sym e)) in
      let p = h.ruled.draws.parts in
      ((h.ruled.each other u there).spent (omega arith)).0

  ends_placed : (terms : Terms K) (s : State (Option P) (View K)) (id : ℕ) (v : View K) (homes : List (maybe.Option (Option P))) → IsRuled in_order knows is_tried was_block knew terms s
      → get_elem? s.views id ≡ some v → v.turn ≡ false → v.parts ≡ terms.callers
      → IsPlaced in_order knows is_tried was_block knew terms (get_or s.words 0 0) (λ j. get_or s.words (2 + j) 0) s.views homes → s.homes ≡ homes → Ends terms s v
  ends_placed terms s id v _ h at idle all (home pen none_lifted there) is = record {
    pen = pen;
    is = is;
    gathered = record {
      order = there.order;
      committed = λ x. (
        λ k. ⊎_elim (λ was. inl was) (λ p. inr (p.0, p.1, (let m = marks p.0 p.1.0 in let b : 1 ≡ mark_in (λ j. get_or s.words (2 + j) 0) p.0 = sym p.2 in omega arith))) ((there.committed x).0 k),
        λ k. (there.committed x).1 (⊎_elim (λ was. inl was) (λ p. inr (p.0, p.1, (let m = marks p.0 p.1.0 in let b = bit_small (get_or s.words (2 + p.0 / 64) 0) (p.0 % 64) in let more : 0 < times p.0 v.marked = p.2 in omega arith))) k),
      );
      tried = there.tried;
      each = λ x. sym (total_alone (times_drawn x) s.views id v at (λ other u place apart. ap (times x) (spent_one terms s id other v u h at all place apart))) ∙ h.ruled.draws.once x;
    };
  }
    where
      marks : (i : ℕ) → i < length (list_of terms) → mark_in (λ j. get_or s.words (2 + j) 0) i ≡ times i v.marked
      marks i below = h.ruled.marks_set.set i below ∙ total_alone (times_marked i) s.views id v at
          (λ other u place apart. none_of (times i u.marked) (let m = (h.ruled.each other u place).marked i in let e : times i u.drawn ≡ 0 = ap (times i) (spent_one terms s id other v u h at all place apart) in omega arith))
  ends_placed terms s id v _ h at idle all (out one) is =
      absurd (let word = all_parts_get in_order knows is_tried was_block knew terms (get_or s.words 0 0) (get_or s.words 1 0) (λ j. get_or s.words (2 + j) 0) s.homes s.views id v at idle all h.ruled in
      let t = h.ruled.turns in let few = total_le_at lifted_in turn_in s.views id v at (λ other u there. lifted_within terms (get_or s.words 0 0) (λ j. get_or s.words (2 + j) 0) u (h.ruled.each other u there)) in
      let mine = lifted_within terms (get_or s.words 0 0) (λ j. get_or s.words (2 + j) 0) v (h.ruled.each id v at) in let w = weight_not v.turn idle in omega arith)

  pub ends : (terms : Terms K) (s : State (Option P) (View K)) (id : ℕ) (v : View K) → IsRuled in_order knows is_tried was_block knew terms s
      → get_elem? s.views id ≡ some v → v.turn ≡ false → v.parts ≡ terms.callers → Ends terms s v
  ends terms s id v h at idle all = ends_placed terms s id v s.homes h at idle all h.ruled.placed refl

  -- the rule of a new table
  pub opens : (terms : Terms K) (words : List ℕ) (pen : P) → words ≡ replicate (2 + mark_words (length (list_of terms))) 0
      → 0 < terms.callers → length (list_of terms) + terms.callers + 1 < 2 ^ 64 → IsFair was_block knew (list_of terms) terms.start.value
      → in_order pen terms.start.value → ((x : ℕ) → knows pen x ↔ knew terms.start.value x) → ((x : ℕ) → is_tried pen x → ⊥)
      → IsRuled in_order knows is_tried was_block knew terms (opening words (Some pen ∷ []) (first_view terms))
  opens terms words pen clear some_caller few fair order same untried =
      let n : ℕ = 2 + mark_words (length (list_of terms)) in
      let zero_at : (i : ℕ) → get_or words i 0 ≡ 0 = λ i. ap (λ ws. get_or ws i 0) clear ∙ zeros n i in
      let first = first_view terms in
      record {
        words = ap length clear ∙ length-replicate n 0;
        small = few;
        fair = fair;
        ruled = record {
          draws = record {
            parts = omega arith;
            once = λ x. (let z = zero_at 0 in let o : once_below x (get_or words 0 0) ≡ once_below x 0 = ap (once_below x) z in let free = once_none x in omega arith);
            bound = omega arith;
            reach = let z = zero_at 0 in omega arith;
          };
          marks_set = record { set = λ x below. ap (λ w. bit_at w (x % 64)) (zero_at (2 + x / 64)) ∙ bit_at-zero (x % 64) };
          turns = zero_at 1;
          one = let z = zero_at 1 in omega arith;
          placed = home pen refl (record {
            order = order;
            committed = λ x. (λ k. inl ((same x).0 k), λ k. (same x).1 (⊎_elim (λ was. was) (λ p. absurd (let b : mark_in (λ j. get_or words (2 + j) 0) p.0 ≡ 1 = p.2 in let z = ap (λ w. bit_at w (p.0 % 64)) (zero_at (2 + p.0 / 64)) ∙ bit_at-zero (p.0 % 64) in omega arith)) k));
            tried = λ x t. absurd (untried x t);
            kept = λ id v k there turn. absurd (let e : true ≡ false = sym turn ∙ ap (λ (u : View K). u.turn) (sym (only_first first v id there)) in cc);
          });
          each = λ id v there. subst (IsSound terms (get_or words 0 0) (λ j. get_or words (2 + j) 0)) (only_first first v id there) (record {
            told = λ _. refl;
            spent = λ e. absurd (let e' : terms.callers ≡ 0 = e in omega arith);
            live = λ _. refl;
            ended = λ e. absurd (let e' : false ≡ true = e in cc);
            marked = λ x. omega arith;
            lifted = λ e. e;
            known = λ e. absurd (let e' : false ≡ true = e in cc);
            kept = λ e. absurd (let e' : false ≡ true = e in cc);
          });
        };
      }
