-- A number is marked: the rule stays.
use Rattle.std.proofs.Common.{◌≡◌, ◌≢◌, ⊎_elim, ℕ, ◌<◌, ◌/◌, ◌%◌, ◌^◌, List, [], ◌∷◌, length, set, get_or, get_or-set_same, get_or-set_other, refl, ap, sym, ◌∙◌, arith, subst, Option, true, false, bit_or}
use Rattle.std.proofs.Math.ListN.{length-set}
use Rattle.std.proofs.lemmas.Bool.Decides.{nat_tests}
use Rattle.std.proofs.lemmas.Nat.Bits.{bit_at_or, bit_at-pow_same, bit_at-pow_other}
use Rattle.std.specs.Int.{bit_at}
use native.Mathlib.Decide.{ℕ_discrete}
use mathlib.Core.Logic.{dite}
use mathlib.Core.Option as maybe
use mathlib.Core.Option.{some, none}
use lib.ListN.{get_elem?}
use Rattle.atomic_table.proofs.Lists.{at_set}
use Rattle.block_pool.specs.Counting.{total, times, weight, mark_in}
use Rattle.block_pool.specs.Rule.{IsRuledAt, IsSound, IsPlaced, IsPlaced.home, IsPlaced.out, parts_in, times_drawn, times_marked, over_drawn, over_or_live, turn_in, lifted_in, mark_words}
use Rattle.block_pool.specs.Views.{list_of, words_known, marked}
use Rattle.block_pool.specs.declared.view.Terms.{Terms}
use Rattle.block_pool.specs.declared.view.View.{View}
use Rattle.block_pool.proofs.Totals.{total_set, total_above, times-append}
use Rattle.block_pool.proofs.Turns.{weight_of}
use Rattle.block_pool.proofs.Pens.{mark_word, all_known, same_marks, others_idle}

-- the bits of a mark word in which one more was set
more_same : (word i : ℕ) → bit_at word (i % 64) ≡ 0 → bit_at (bit_or word (2 ^ (i % 64))) (i % 64) ≡ 1
more_same word i clear = let o = bit_at_or word (2 ^ (i % 64)) (i % 64) in let p = bit_at-pow_same (i % 64) in omega arith

more_other : (word i x : ℕ) → x % 64 ≢ i % 64 → bit_at (bit_or word (2 ^ (i % 64))) (x % 64) ≡ bit_at word (x % 64)
more_other word i x apart = let o = bit_at_or word (2 ^ (i % 64)) (x % 64) in let p = bit_at-pow_other (i % 64) (x % 64) apart in omega arith

apart_in_word : (x i : ℕ) → x ≢ i → x / 64 ≡ i / 64 → x % 64 ≢ i % 64
apart_in_word x i ne same e = ne (omega arith)

-- One more bit is set, at i, and no other changes.
pub record OneMore (i : ℕ) (f g : ℕ → ℕ) : Type 0 where
  pub here : g (i / 64) ≡ bit_or (f (i / 64)) (2 ^ (i % 64))
  pub others : (j : ℕ) → j ≢ i / 64 → g j ≡ f j

pub mark_same : (i : ℕ) (f g : ℕ → ℕ) → OneMore i f g → mark_in f i ≡ 0 → mark_in g i ≡ 1
mark_same i f g h clear = ap (λ w. bit_at w (i % 64)) h.here ∙ more_same (f (i / 64)) i clear

pub mark_other : (i x : ℕ) (f g : ℕ → ℕ) → OneMore i f g → x ≢ i → mark_in g x ≡ mark_in f x
mark_other i x f g h apart = dite (ℕ_discrete (x / 64) (i / 64))
    (λ same. let P : ℕ → Type 0 = λ j. bit_at (g j) (x % 64) ≡ bit_at (f j) (x % 64) in
    subst P (sym same) (ap (λ w. bit_at w (x % 64)) h.here ∙ more_other (f (i / 64)) i x (apart_in_word x i apart same)))
    (λ far. ap (λ w. bit_at w (x % 64)) (h.others (x / 64) far))

pub equal_one : (x i : ℕ) → x ≡ i → times x (i ∷ []) ≡ 1
equal_one x i e = grind (arith, nat_tests)

pub apart_none : (x i : ℕ) → x ≢ i → times x (i ∷ []) ≡ 0
apart_none x i e = grind (arith, nat_tests)

known_set : (known : List ℕ) (at word : ℕ) (f g : ℕ → ℕ) → ((j : ℕ) → j < length known → f j ≡ get_or known j 0) → at < length known → g at ≡ word
    → ((j : ℕ) → j ≢ at → g j ≡ f j) → (j : ℕ) → j < length (set known at word) → g j ≡ get_or (set known at word) j 0
known_set known at word f g h inside here far j below =
    let l = length-set known at word in
    dite (ℕ_discrete j at) (λ e. let P : ℕ → Type 0 = λ k. g k ≡ get_or (set known at word) k 0 in subst P (sym e) (here ∙ sym (get_or-set_same known at word 0 inside)))
    (λ ne. far j ne ∙ (h j (omega arith) ∙ sym (get_or-set_other known at j word 0 ne)))

module _ {K P : Type 0} (in_order : P → K → Type 0) (knows : P → ℕ → Type 0) (is_tried : P → ℕ → Type 0) (was_block knew : K → ℕ → Type 0) where
  abbrev At : Terms K → ℕ → ℕ → (ℕ → ℕ) → List (maybe.Option (Option P)) → List (View K) → Type 0
  At = IsRuledAt in_order knows is_tried was_block knew

  abbrev Placed : Terms K → ℕ → (ℕ → ℕ) → List (View K) → List (maybe.Option (Option P)) → Type 0
  Placed = IsPlaced in_order knows is_tried was_block knew

  marked_placed : (terms : Terms K) (next : ℕ) (marks after : ℕ → ℕ) (homes : List (maybe.Option (Option P))) (views : List (View K)) (id : ℕ) (v w : View K)
      → get_elem? views id ≡ some v → v.lifted ≡ true → w.lifted ≡ v.lifted → Placed terms next marks views homes → Placed terms next after (set views id w) homes
  marked_placed terms next marks after _ views id v w at up same (home pen none_out there) = absurd (let above = total_above lifted_in views id v at in let l = weight_of v.lifted up in omega arith)
  marked_placed terms next marks after _ views id v w at up same (out one) = let e = total_set lifted_in views id v w at in let l : weight w.lifted ≡ weight v.lifted = ap weight same in out (omega arith)

  pub marked_at : (terms : Terms K) (next word : ℕ) (marks after : ℕ → ℕ) (homes : List (maybe.Option (Option P))) (views : List (View K)) (id : ℕ) (v : View K) (i : ℕ)
      → get_elem? views id ≡ some v → v.lifted ≡ true → length v.known ≡ mark_words (length (list_of terms)) → i < length (list_of terms)
      → mark_in (words_known v) i ≡ 0 → 0 < times i v.drawn → OneMore i marks after
      → At terms next word marks homes views → At terms next word after homes (set views id (marked v i (i / 64) (bit_or (words_known v (i / 64)) (2 ^ (i % 64)))))
  marked_at terms next word marks after homes views id v i at up all below clear mine more h =
      let w = marked v i (i / 64) (bit_or (words_known v (i / 64)) (2 ^ (i % 64))) in
      let s = h.each id v at in
      let turn = s.lifted up in
      let agree = all_known terms next marks v s turn all in
      let clear' : mark_in marks i ≡ 0 = same_marks (length (list_of terms)) marks (words_known v) agree i below ∙ clear in
      let untouched : total (times_marked i) views ≡ 0 = sym (h.marks_set.set i below) ∙ clear' in
      let word_at : marks (i / 64) ≡ words_known v (i / 64) = agree (i / 64) (mark_word (length (list_of terms)) i below) in
      record {
        draws = record {
          parts = let e = total_set parts_in views id v w at in let p = h.draws.parts in omega arith;
          once = λ x. let e = total_set (times_drawn x) views id v w at in let p = h.draws.once x in omega arith;
          bound = let e = total_set (over_or_live (length (list_of terms))) views id v w at in let p = h.draws.bound in omega arith;
          reach = let e = total_set (over_drawn (length (list_of terms))) views id v w at in let p = h.draws.reach in omega arith;
        };
        marks_set = record {
          set = λ x within. let e = total_set (times_marked x) views id v w at in let a = times-append x v.marked (i ∷ []) in
              dite (ℕ_discrete x i) (λ same. let k = mark_same i marks after more clear' in let u : mark_in after x ≡ mark_in after i = ap (mark_in after) same in
              let one = equal_one x i same in let n : total (times_marked x) views ≡ total (times_marked i) views = ap (λ y. total (times_marked y) views) same in omega arith)
              (λ apart. let k = mark_other i x marks after more apart in let p = h.marks_set.set x within in let none = apart_none x i apart in omega arith);
        };
        turns = let e = total_set turn_in views id v w at in let p = h.turns in omega arith;
        one = h.one;
        placed = marked_placed terms next marks after homes views id v w at up refl h.placed;
        each = λ other u there. ⊎_elim
            (λ here. subst (IsSound terms next after) here.1 (record {
              told = s.told;
              spent = s.spent;
              live = s.live;
              ended = s.ended;
              marked = λ x. let a = times-append x v.marked (i ∷ []) in let m = s.marked x in
                  dite (ℕ_discrete x i) (λ same. let one = equal_one x i same in let above = total_above (times_marked i) views id v at in
                  let y : times x v.marked ≡ times i v.marked = ap (λ z. times z v.marked) same in let d : times x v.drawn ≡ times i v.drawn = ap (λ z. times z v.drawn) same in omega arith)
                  (λ apart. let none = apart_none x i apart in omega arith);
              lifted = s.lifted;
              known = λ t. known_set v.known (i / 64) (bit_or (words_known v (i / 64)) (2 ^ (i % 64))) marks after (s.known turn) (let m = mark_word (length (list_of terms)) i below in omega arith)
                  (more.here ∙ ap (λ z. bit_or z (2 ^ (i % 64))) word_at) more.others;
              kept = s.kept;
            }))
            (λ apart. let u' = h.each other u apart.1 in let idle = others_idle in_order knows is_tried was_block knew terms next word marks homes views id other v u h at turn apart.1 apart.0 in record {
              told = u'.told;
              spent = u'.spent;
              live = u'.live;
              ended = u'.ended;
              marked = u'.marked;
              lifted = u'.lifted;
              known = λ t. absurd (let e : true ≡ false = sym t ∙ idle in cc);
              kept = u'.kept;
            })
            (at_set views id other w u there);
      }
