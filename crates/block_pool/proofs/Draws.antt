-- A number is drawn: the rule stays.
use Rattle.std.proofs.Common.{◌≡◌, ⊎_elim, ℕ, ◌+◌, ◌<◌, ◌≤◌, ◌==◌, List, [], ◌∷◌, ◌++◌, length, set, refl, ap, sym, ◌∙◌, arith, subst, Option, Some, Bool, true, false, nat_le, if◌then◌else◌, ◌%◌, ◌^◌, get_or}
use Rattle.std.proofs.lemmas.Bool.Decides.{nat_tests}
use mathlib.Core.Option as maybe
use mathlib.Core.Option.{some, none}
use lib.ListN.{get_elem?}
use Rattle.atomic_table.specs.Table.{Allows, step}
use Rattle.atomic_table.specs.Table.Act.{keeps}
use Rattle.block_pool.specs.Steps.{draws}
use Rattle.block_pool.proofs.Worlds.{on_next}
use Rattle.atomic_table.proofs.Lists.{at_set}
use Rattle.block_pool.specs.Counting.{total, over, once_below, weight}
use Rattle.block_pool.specs.Rule.{IsRuled, IsRuledAt, IsSound, IsPlaced, IsPlaced.home, IsPlaced.out, parts_in, live, times_drawn, times_marked, over_drawn, over_or_live, turn_in, lifted_in}
use Rattle.block_pool.specs.Views.{list_of, drew}
use Rattle.block_pool.specs.declared.view.Terms.{Terms}
use Rattle.block_pool.specs.declared.view.View.{View}
use Rattle.block_pool.proofs.Totals.{total_set, times-append, over-append}

once_more : (x n : ℕ) → once_below x (n + 1) ≡ once_below x n + ((if x == n then 1 else 0) + 0)
once_more x n = grind (arith, nat_tests)

le_weight : (n next : ℕ) → (if nat_le n next then 1 else 0) ≡ weight (nat_le n next)
le_weight n next = let f : (b : Bool) → (if b then 1 else 0) ≡ weight b = λ b. elim b as (λ b. (if b then 1 else 0) ≡ weight b) [ true ↦ refl | false ↦ refl ] in f (nat_le n next)

-- what stands behind the list's end
drew_over : (n next : ℕ) (xs : List ℕ) → over n (xs ++ next ∷ []) ≡ over n xs + weight (nat_le n next)
drew_over n next xs = let a = over-append n xs (next ∷ []) in let e = le_weight n next in omega arith

drew_live : (b : Bool) (parts : ℕ) → 0 < parts → weight b + (if b then 0 else parts) ≤ parts
drew_live true parts one = omega arith
drew_live false parts one = omega arith

drew_reach : (n next all : ℕ) (b : Bool) → nat_le n next ≡ b → next ≤ n + all → next + 1 ≤ n + (all + weight b)
drew_reach n next all true is h = omega arith
drew_reach n next all false is h = let short : next < n = grind (arith, nat_tests) in omega arith

same_terms : {K : Type 0} (a b : Terms K) → Some a ≡ Some b → a ≡ b
same_terms a b e = cc

mod_small : {n : ℕ} → n < 2 ^ 64 → n % 2 ^ 64 ≡ n
mod_small h = omega arith

over_within : {K : Type 0} (n : ℕ) (views : List (View K)) → total (over_drawn n) views ≤ total (over_or_live n) views
over_within n [] = omega arith
over_within n (v ∷ vs) = let e = over_within n vs in omega arith

module _ {K P : Type 0} (in_order : P → K → Type 0) (knows : P → ℕ → Type 0) (is_tried : P → ℕ → Type 0) (was_block knew : K → ℕ → Type 0) where
  abbrev At : Terms K → ℕ → ℕ → (ℕ → ℕ) → List (maybe.Option (Option P)) → List (View K) → Type 0
  At = IsRuledAt in_order knows is_tried was_block knew

  further : (terms : Terms K) (next : ℕ) (marks : ℕ → ℕ) (v : View K) → IsSound terms next marks v → IsSound terms (next + 1) marks v
  further terms next marks v h = record { told = h.told; spent = h.spent; live = h.live; ended = λ e. let a = h.ended e in omega arith; marked = h.marked; lifted = h.lifted; known = h.known; kept = λ t k e. let a = h.kept t k e in omega arith }

  drew_sound : (terms : Terms K) (next : ℕ) (marks : ℕ → ℕ) (v : View K) → v.terms ≡ Some terms → 0 < v.parts → v.through ≡ false → IsSound terms next marks v → IsSound terms (next + 1) marks (drew terms v next)
  drew_sound terms next marks v told part fresh h = record {
    told = λ _. told;
    spent = λ e. absurd (omega arith);
    live = λ b. let a = drew_over (length (list_of terms)) next v.drawn in let o = h.live fresh in let w : weight (nat_le (length (list_of terms)) next) ≡ 0 = ap weight b in omega arith;
    ended = λ b. grind (arith, nat_tests);
    marked = λ x. let a = times-append x v.drawn (next ∷ []) in let m = h.marked x in omega arith;
    lifted = h.lifted;
    known = h.known;
    kept = λ t k e. let a = h.kept t k e in omega arith;
  }

  drew_placed : (terms : Terms K) (next : ℕ) (marks : ℕ → ℕ) (homes : List (maybe.Option (Option P))) (views : List (View K)) (id : ℕ) (v : View K)
      → get_elem? views id ≡ some v → IsPlaced in_order knows is_tried was_block knew terms next marks views homes
      → IsPlaced in_order knows is_tried was_block knew terms (next + 1) marks (set views id (drew terms v next)) homes
  drew_placed terms next marks _ views id v at (home pen none_lifted h) =
      let e = total_set lifted_in views id v (drew terms v next) at in
      home pen (omega arith) (record {
        order = h.order;
        committed = h.committed;
        tried = λ x t. let a = h.tried x t in (a.0, omega arith, a.2);
        kept = λ other u k there turn is x t. ⊎_elim (λ same. h.kept id v k at (subst (λ (w : View K). w.turn ≡ true) (sym same.1) turn) (subst (λ (w : View K). w.kept ≡ Some k) (sym same.1) is) x t)
            (λ apart. h.kept other u k apart.1 turn is x t) (at_set views id other (drew terms v next) u there);
      })
  drew_placed terms next marks _ views id v at (out one) =
      let e = total_set lifted_in views id v (drew terms v next) at in out (omega arith)

  pub drew_at : (terms : Terms K) (next word : ℕ) (marks : ℕ → ℕ) (homes : List (maybe.Option (Option P))) (views : List (View K)) (id : ℕ) (v : View K)
      → get_elem? views id ≡ some v → v.terms ≡ Some terms → 0 < v.parts → v.through ≡ false
      → At terms next word marks homes views → At terms (next + 1) word marks homes (set views id (drew terms v next))
  drew_at terms next word marks homes views id v at told part fresh h = record {
    draws = record {
      parts = let e = total_set parts_in views id v (drew terms v next) at in let p = h.draws.parts in omega arith;
      once = λ x. let e = total_set (times_drawn x) views id v (drew terms v next) at in let p = h.draws.once x in let a = times-append x v.drawn (next ∷ []) in let m = once_more x next in omega arith;
      bound = let e = total_set (over_or_live (length (list_of terms))) views id v (drew terms v next) at in let p = h.draws.bound in let a = drew_over (length (list_of terms)) next v.drawn in
          let l = drew_live (nat_le (length (list_of terms)) next) v.parts part in let o : live v ≡ v.parts = ap (λ b. if b then 0 else v.parts) fresh in omega arith;
      reach = let e = total_set (over_drawn (length (list_of terms))) views id v (drew terms v next) at in let a = drew_over (length (list_of terms)) next v.drawn in
          let r = drew_reach (length (list_of terms)) next (total (over_drawn (length (list_of terms))) views) (nat_le (length (list_of terms)) next) refl h.draws.reach in omega arith;
    };
    marks_set = record { set = λ x below. let e = total_set (times_marked x) views id v (drew terms v next) at in let p = h.marks_set.set x below in omega arith };
    turns = let e = total_set turn_in views id v (drew terms v next) at in let p = h.turns in omega arith;
    one = h.one;
    placed = drew_placed terms next marks homes views id v at h.placed;
    each = λ other u there. ⊎_elim (λ same. subst (IsSound terms (next + 1) marks) same.1 (drew_sound terms next marks v told part fresh (h.each id v at)))
        (λ apart. further terms next marks u (h.each other u apart.1)) (at_set views id other (drew terms v next) u there);
  }

  pub draw_allowed : (terms : Terms K) (slots id : ℕ) (v : View K) (carried : List (ℕ × Option P)) → v.terms ≡ Some terms → 0 < v.parts → v.through ≡ false
      → Allows (IsRuled in_order knows is_tried was_block knew terms) slots id (v, carried) 0 (λ n. (n + 1) % 2 ^ 64) (draws (step slots 0 1 0 none) (v, carried))
  draw_allowed terms slots id v carried told part fresh s h deep at fits =
      let next : ℕ = get_or s.words 0 0 in
      let few : next + 1 < 2 ^ 64 = let r = h.ruled.draws.reach in let b = over_within (length (list_of terms)) s.views in let p = h.ruled.draws.bound in let m = h.small in omega arith in
      let sum : (next + 1) % 2 ^ 64 ≡ next + 1 = mod_small few in (
        drew terms v next,
        keeps,
        tt,
        rw sum (on_next in_order knows is_tried was_block knew terms s (next + 1) s.homes (set s.views id (drew terms v next)) h
            (drew_at terms next (get_or s.words 1 0) (λ j. get_or s.words (2 + j) 0) s.homes s.views id v at told part fresh h.ruled)),
        (λ other is. ap (λ (t : Terms K). (drew t v next, carried)) (same_terms terms other (sym told ∙ is))),
      )
