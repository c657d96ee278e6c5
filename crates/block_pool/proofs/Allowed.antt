-- Each step of a seat is allowed by the rule.
use Rattle.std.proofs.Common.{◌≡◌, ◌⊎◌, ℕ, ◌+◌, ◌<◌, ◌/◌, ◌%◌, ◌^◌, List, [], ◌∷◌, length, set, get_or, get_or-set_same, get_or-set_other, refl, ap, sym, ◌∙◌, arith, subst, Option, Some, true, false, bit_or}
use Rattle.std.specs.Prelude.{◌↔◌}
use Rattle.std.specs.Int.{bit_at}
use Rattle.std.proofs.lemmas.Nat.Bits.{bit_at-pow_same, bit_at-pow_other}
use native.Mathlib.Decide.{ℕ_discrete}
use mathlib.Core.Logic.{dite}
use mathlib.Core.Option as maybe
use mathlib.Core.Option.{some, none}
use lib.ListN.{get_elem?}
use Rattle.atomic_table.specs.Table.{State, Allows, Splits, Joins, step}
use Rattle.atomic_table.specs.Table.Act.{keeps, takes, gives}
use Rattle.block_pool.specs.Counting.{times, mark_in}
use Rattle.block_pool.specs.Rule.{IsFair, IsRuled, IsRuledAt, mark_words, turn_in}
use Rattle.block_pool.specs.Views.{list_of, IsDrawnBy, StandsBelow, IsCommitted, words_known, in_turn, missed, read, kept, lifted, marked, gave, parted, part_of, joined, spent}
use Rattle.block_pool.specs.Steps.{IsLent}
use Rattle.block_pool.specs.Steps as plays
use Rattle.block_pool.specs.declared.view.Terms.{Terms}
use Rattle.block_pool.specs.declared.view.View.{View}
use Rattle.block_pool.proofs.Worlds.{on_pen, on_mark, on_none}
use Rattle.block_pool.proofs.Turns.{turned_at, missed_at, all_parts_get, read_at, kept_at, weight_of}
use Rattle.block_pool.proofs.Totals.{total_above}
use Rattle.atomic_table.proofs.Lists.{set_again}
use Rattle.block_pool.proofs.Pens.{lifted_at, gave_at, mark_word}
use Rattle.block_pool.proofs.Marks.{marked_at, OneMore}
use Rattle.block_pool.proofs.Parts.{parted_at, joined_at}

same_terms : {K : Type 0} (a b : Terms K) → Some a ≡ Some b → a ≡ b
same_terms a b e = cc

pow_apart : (a b : ℕ) → 2 ^ a ≡ 2 ^ b → a ≡ b
pow_apart a b e = dite (ℕ_discrete a b) (λ same. same)
    (λ ne. absurd (let one = bit_at-pow_same a in let none = bit_at-pow_other b a ne in let same = ap (λ w. bit_at w a) e in omega arith))

-- the word and the bit of a number tell the number
one_place : (i k : ℕ) → i / 64 ≡ k / 64 → 2 ^ (i % 64) ≡ 2 ^ (k % 64) → i ≡ k
one_place i k words bits = let e = pow_apart (i % 64) (k % 64) bits in omega arith

same_mark : {K : Type 0} (v : View K) (i k mask : ℕ) → i ≡ k → mask ≡ 2 ^ (i % 64)
    → marked v i (i / 64) (bit_or (words_known v (i / 64)) (2 ^ (i % 64))) ≡ marked v k (k / 64) (bit_or (words_known v (k / 64)) mask)
same_mark v i k mask same is = ap (λ m. marked v i (i / 64) (bit_or (words_known v (i / 64)) m)) (sym is) ∙ ap (λ n. marked v n (n / 64) (bit_or (words_known v (n / 64)) mask)) same

module _ {K P : Type 0} (in_order : P → K → Type 0) (knows : P → ℕ → Type 0) (is_tried : P → ℕ → Type 0) (was_block knew : K → ℕ → Type 0) where
  abbrev Holds : Terms K → State (Option P) (View K) → Type 0
  Holds = IsRuled in_order knows is_tried was_block knew

  abbrev marks_in : State (Option P) (View K) → ℕ → ℕ
  marks_in s j = get_or s.words (2 + j) 0

  -- the pen is asked for
  pub turn_allowed : (terms : Terms K) (slots id : ℕ) (v : View K) (carried : List (ℕ × Option P)) → v.terms ≡ Some terms → 0 < v.parts → v.turn ≡ false
      → Allows (Holds terms) slots id (v, carried) 1 (λ _. 1) (plays.takes (step slots 1 1 0 none) (v, carried))
  turn_allowed terms slots id v carried told part idle s h deep at fits =
      let next = get_or s.words 0 0 in
      let word = get_or s.words 1 0 in
      dite (ℕ_discrete word 0)
      (λ free. (
        in_turn v,
        keeps,
        tt,
        on_pen in_order knows is_tried was_block knew terms s 1 s.homes (set s.views id (in_turn v)) h
            (turned_at in_order knows is_tried was_block knew terms next word (marks_in s) s.homes s.views id v at idle part free h.ruled),
        (λ _. refl, λ ne. absurd (ne free)),
      ))
      (λ busy. (
        missed v,
        keeps,
        tt,
        on_pen in_order knows is_tried was_block knew terms s 1 s.homes (set s.views id (missed v)) h
            (missed_at in_order knows is_tried was_block knew terms next word (marks_in s) s.homes s.views id v at idle busy h.ruled),
        (
          λ e. absurd (busy e),
          λ _. (
            refl,
            λ other is all. busy (all_parts_get in_order knows is_tried was_block knew terms next word (marks_in s) s.homes s.views id v at idle
                (all ∙ sym (ap (λ (t : Terms K). t.callers) (same_terms terms other (sym told ∙ is)))) h.ruled),
          ),
        ),
      ))

  -- the next mark word is read
  pub read_allowed : (terms : Terms K) (slots id : ℕ) (v : View K) (carried : List (ℕ × Option P)) (word : ℕ) → v.turn ≡ true → word ≡ 2 + length v.known
      → Allows (Holds terms) slots id (v, carried) word (λ n. n) (plays.reads (step slots word 0 0 none) (v, carried))
  read_allowed terms slots id v carried word turn is s h deep at fits =
      let found : get_or s.words word 0 ≡ get_or s.words (2 + length v.known) 0 = ap (λ k. get_or s.words k 0) is in (
        read v (get_or s.words word 0),
        keeps,
        tt,
        on_none in_order knows is_tried was_block knew terms s word s.homes (set s.views id (read v (get_or s.words word 0))) h
            (rw found (read_at in_order knows is_tried was_block knew terms (get_or s.words 0 0) (get_or s.words 1 0) (marks_in s) s.homes s.views id v at turn h.ruled)),
        refl,
      )

  -- a mark word that is known is read again
  pub look_allowed : (terms : Terms K) (slots id : ℕ) (v : View K) (carried : List (ℕ × Option P)) (j : ℕ) → v.terms ≡ Some terms → v.turn ≡ true → j < length v.known
      → Allows (Holds terms) slots id (v, carried) (2 + j) (λ n. n) (plays.looks in_order knows is_tried was_block knew (step slots (2 + j) 0 0 none) (v, carried))
  look_allowed terms slots id v carried j told turn known s h deep at fits =
      let same : set s.views id v ≡ s.views = set_again s.views id v at in (
        v,
        keeps,
        tt,
        on_none in_order knows is_tried was_block knew terms s (2 + j) s.homes (set s.views id v) h (rw same h.ruled),
        (refl, λ k e. (h.ruled.each id v at).known turn j known ∙ ap (words_known v) (omega arith), λ other is. subst (λ (t : Terms K). IsFair was_block knew (list_of t) t.start.value) (same_terms terms other (sym told ∙ is)) h.fair),
      )

  -- the next number is read
  pub keep_allowed : (terms : Terms K) (slots id : ℕ) (v : View K) (carried : List (ℕ × Option P)) → v.turn ≡ true
      → Allows (Holds terms) slots id (v, carried) 0 (λ n. n) (plays.keeps_next (step slots 0 0 0 none) (v, carried))
  keep_allowed terms slots id v carried turn s h deep at fits = (
    kept v (get_or s.words 0 0),
    keeps,
    tt,
    on_none in_order knows is_tried was_block knew terms s 0 s.homes (set s.views id (kept v (get_or s.words 0 0))) h
        (kept_at in_order knows is_tried was_block knew terms (get_or s.words 0 0) (get_or s.words 1 0) (marks_in s) s.homes s.views id v at turn h.ruled),
    refl,
  )

  -- while a seat has the turn, the pen's word is 1
  is_one : (terms : Terms K) (s : State (Option P) (View K)) (id : ℕ) (v : View K) → Holds terms s → get_elem? s.views id ≡ some v → v.turn ≡ true → get_or s.words 1 0 ≡ 1
  is_one terms s id v h at turn = let above = total_above turn_in s.views id v at in let w = weight_of v.turn turn in let t = h.ruled.turns in let o = h.ruled.one in omega arith

  -- the pen is taken out
  pub lift_allowed : (terms : Terms K) (slots id : ℕ) (v : View K) (carried : List (ℕ × Option P)) → v.terms ≡ Some terms → v.turn ≡ true → v.lifted ≡ false
      → length v.known ≡ mark_words (length (list_of terms))
      → Allows (Holds terms) slots id (v, carried) 1 (λ _. 1) (plays.lifts in_order knows is_tried was_block knew (step slots 1 1 0 none) (v, carried))
  lift_allowed terms slots id v carried told turn idle all s h deep at fits =
      let l = lifted_at in_order knows is_tried was_block knew terms (get_or s.words 0 0) (get_or s.words 1 0) (marks_in s) s.homes s.views id v at turn idle all h.ruled in
      let out : set s.homes 0 none ≡ none ∷ [] = ap (λ (hs : List (maybe.Option (Option P))). set hs 0 none) l.is in
      let word : get_or s.words 1 0 ≡ 1 = is_one terms s id v h at turn in (
        lifted v,
        takes 0 (Some l.pen),
        ap (λ (hs : List (maybe.Option (Option P))). get_elem? hs 0) l.is,
        rw out (on_pen in_order knows is_tried was_block knew terms s 1 (none ∷ []) (set s.views id (lifted v)) h (subst (λ w. IsRuledAt in_order knows is_tried was_block knew terms (get_or s.words 0 0) w (marks_in s) (none ∷ []) (set s.views id (lifted v))) word l.after)),
        (l.pen, refl, λ other is. subst (λ (t : Terms K). IsLent in_order knows is_tried was_block knew t v l.pen) (same_terms terms other (sym told ∙ is)) l.lent),
      )

  -- a number is marked
  pub mark_allowed : (terms : Terms K) (slots id : ℕ) (v : View K) (carried : List (ℕ × Option P)) (i word mask : ℕ) → v.lifted ≡ true → length v.known ≡ mark_words (length (list_of terms))
      → i < length (list_of terms) → mark_in (words_known v) i ≡ 0 → 0 < times i v.drawn → word ≡ 2 + i / 64 → mask ≡ 2 ^ (i % 64)
      → Allows (Holds terms) slots id (v, carried) word (λ n. bit_or n mask) (plays.marks (step slots word mask 0 none) (v, carried))
  mark_allowed terms slots id v carried i word mask up all below clear mine at_word is_mask s h deep at fits =
      let new : ℕ = bit_or (get_or s.words word 0) mask in
      let after : ℕ → ℕ = λ k. get_or (set s.words (2 + i / 64) new) (2 + k) 0 in
      let long : 2 + i / 64 < length s.words = let m = mark_word (length (list_of terms)) i below in let w = h.words in omega arith in
      let found : get_or s.words word 0 ≡ marks_in s (i / 64) = ap (λ k. get_or s.words k 0) at_word in
      let is_new : new ≡ bit_or (marks_in s (i / 64)) (2 ^ (i % 64)) = cc in
      let more : OneMore i (marks_in s) after = record {
        here = get_or-set_same s.words (2 + i / 64) new 0 long ∙ is_new;
        others = λ j far. get_or-set_other s.words (2 + i / 64) (2 + j) new 0 (λ e. far (omega arith));
      } in
      let w : View K = marked v i (i / 64) (bit_or (words_known v (i / 64)) (2 ^ (i % 64))) in
      let P' : ℕ → Type 0 = λ k. Holds terms (record { words = set s.words k new; homes = s.homes; views = set s.views id w }) in (
        w,
        keeps,
        tt,
        subst P' (sym at_word) (on_mark in_order knows is_tried was_block knew terms s (i / 64) new s.homes (set s.views id w) h
            (marked_at in_order knows is_tried was_block knew terms (get_or s.words 0 0) (get_or s.words 1 0) (marks_in s) after s.homes s.views id v i at up all below clear mine more h.ruled)),
        λ k at_k mask_k. let same : i ≡ k = one_place i k (omega arith) (sym is_mask ∙ mask_k) in ap (λ (x : View K). (x, carried)) (same_mark v i k mask same is_mask),
      )

  -- the pen goes home
  pub give_allowed : (terms : Terms K) (slots id : ℕ) (v : View K) (pen : P) → v.lifted ≡ true → length v.known ≡ mark_words (length (list_of terms))
      → in_order pen terms.start.value
      → ((x : ℕ) → knows pen x ↔ IsCommitted knew terms (words_known v) x)
      → ((x : ℕ) → is_tried pen x → ((k : ℕ) × (v.kept ≡ Some k) × StandsBelow terms k x) ⊎ IsDrawnBy terms v x)
      → Allows (Holds terms) slots id (v, (0, Some pen) ∷ []) 1 (λ _. 0) (plays.gives (step slots 1 0 0 none) (v, (0, Some pen) ∷ []))
  give_allowed terms slots id v pen up all order committed tried s h deep at fits =
      let g = gave_at in_order knows is_tried was_block knew terms (get_or s.words 0 0) (get_or s.words 1 0) (marks_in s) s.homes s.views id v pen at up all order committed tried h.ruled in
      let back : set s.homes 0 (some (Some pen)) ≡ some (Some pen) ∷ [] = ap (λ (hs : List (maybe.Option (Option P))). set hs 0 (some (Some pen))) g.0 in (
        gave v,
        gives,
        tt,
        rw back (on_pen in_order knows is_tried was_block knew terms s 0 (some (Some pen) ∷ []) (set s.views id (gave v)) h g.1),
        refl,
      )

  -- one part is given away
  pub part_allowed : (terms : Terms K) (id : ℕ) (v : View K) → v.turn ≡ false → 1 < v.parts → Splits (Holds terms) id v (parted v) (part_of v)
  part_allowed terms id v idle more s h at = record {
    words = h.words;
    small = h.small;
    fair = h.fair;
    ruled = parted_at in_order knows is_tried was_block knew terms (get_or s.words 0 0) (get_or s.words 1 0) (marks_in s) s.homes s.views id v at idle more h.ruled;
  }

  -- two seats become one
  pub merge_allowed : (terms : Terms K) (id other : ℕ) (v w : View K) → v.turn ≡ false → w.turn ≡ false → 0 < v.parts → Joins (Holds terms) id v other w (joined v w) spent
  merge_allowed terms id other v w idle idle' one_part s h at apart there = record {
    words = h.words;
    small = h.small;
    fair = h.fair;
    ruled = joined_at in_order knows is_tried was_block knew terms (get_or s.words 0 0) (get_or s.words 1 0) (marks_in s) s.homes s.views id other v w at apart there idle idle' one_part h.ruled;
  }
