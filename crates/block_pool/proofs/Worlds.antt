-- How a step on one word is a step of the rule over plain numbers.
use Rattle.std.proofs.Common.{◌≡◌, ℕ, ◌+◌, ◌<◌, List, length, get_or, set, ◌∙◌, arith, get_or-set_other, get_or-set_same, Option}
use Rattle.std.proofs.Math.ListN.{length-set}
use Rattle.std.proofs.lemmas.List.{set-get_or}
use mathlib.Core.Option.{some, none}
use Rattle.atomic_table.specs.Table.{State}
use Rattle.block_pool.specs.Rule.{IsRuled, IsRuledAt}
use Rattle.block_pool.specs.declared.view.Terms.{Terms}
use Rattle.block_pool.specs.declared.view.View.{View}

module _ {K P : Type 0} (in_order : P → K → Type 0) (knows : P → ℕ → Type 0) (is_tried : P → ℕ → Type 0) (was_block knew : K → ℕ → Type 0) where
  abbrev pub At : Terms K → ℕ → ℕ → (ℕ → ℕ) → List (mathlib.Core.Option.Option (Option P)) → List (View K) → Type 0
  At = IsRuledAt in_order knows is_tried was_block knew

  -- a step on the next number
  pub on_next : (terms : Terms K) (s : State (Option P) (View K)) (number : ℕ) (homes : List (mathlib.Core.Option.Option (Option P))) (views : List (View K))
      → IsRuled in_order knows is_tried was_block knew terms s
      → At terms number (get_or s.words 1 0) (λ j. get_or s.words (2 + j) 0) homes views
      → IsRuled in_order knows is_tried was_block knew terms (record { words = set s.words 0 number; homes = homes; views = views })
  on_next terms s number homes views h after =
      let long : 0 < length s.words = let w = h.words in omega arith in
      let here : get_or (set s.words 0 number) 0 0 ≡ number = get_or-set_same s.words 0 number 0 long in
      let word : get_or (set s.words 0 number) 1 0 ≡ get_or s.words 1 0 = get_or-set_other s.words 0 1 number 0 (λ e. omega arith) in
      let before : ℕ → ℕ = λ j. get_or s.words (2 + j) 0 in
      let now : ℕ → ℕ = λ j. get_or (set s.words 0 number) (2 + j) 0 in
      let marks : now ≡ before = λ k j. get_or-set_other s.words 0 (2 + j) number 0 (λ e. omega arith) k in
      record {
        words = length-set s.words 0 number ∙ h.words;
        small = h.small;
        fair = h.fair;
        ruled = rw (here, word, marks) after;
      }

  -- a step on the pen's word
  pub on_pen : (terms : Terms K) (s : State (Option P) (View K)) (number : ℕ) (homes : List (mathlib.Core.Option.Option (Option P))) (views : List (View K))
      → IsRuled in_order knows is_tried was_block knew terms s
      → At terms (get_or s.words 0 0) number (λ j. get_or s.words (2 + j) 0) homes views
      → IsRuled in_order knows is_tried was_block knew terms (record { words = set s.words 1 number; homes = homes; views = views })
  on_pen terms s number homes views h after =
      let long : 1 < length s.words = let w = h.words in omega arith in
      let here : get_or (set s.words 1 number) 1 0 ≡ number = get_or-set_same s.words 1 number 0 long in
      let word : get_or (set s.words 1 number) 0 0 ≡ get_or s.words 0 0 = get_or-set_other s.words 1 0 number 0 (λ e. omega arith) in
      let before : ℕ → ℕ = λ j. get_or s.words (2 + j) 0 in
      let now : ℕ → ℕ = λ j. get_or (set s.words 1 number) (2 + j) 0 in
      let marks : now ≡ before = λ k j. get_or-set_other s.words 1 (2 + j) number 0 (λ e. omega arith) k in
      record {
        words = length-set s.words 1 number ∙ h.words;
        small = h.small;
        fair = h.fair;
        ruled = rw (here, word, marks) after;
      }

  -- a step on a mark word
  pub on_mark : (terms : Terms K) (s : State (Option P) (View K)) (j number : ℕ) (homes : List (mathlib.Core.Option.Option (Option P))) (views : List (View K))
      → IsRuled in_order knows is_tried was_block knew terms s
      → At terms (get_or s.words 0 0) (get_or s.words 1 0) (λ k. get_or (set s.words (2 + j) number) (2 + k) 0) homes views
      → IsRuled in_order knows is_tried was_block knew terms (record { words = set s.words (2 + j) number; homes = homes; views = views })
  on_mark terms s j number homes views h after =
      let word : get_or (set s.words (2 + j) number) 1 0 ≡ get_or s.words 1 0 = get_or-set_other s.words (2 + j) 1 number 0 (λ e. omega arith) in
      let next : get_or (set s.words (2 + j) number) 0 0 ≡ get_or s.words 0 0 = get_or-set_other s.words (2 + j) 0 number 0 (λ e. omega arith) in
      record {
        words = length-set s.words (2 + j) number ∙ h.words;
        small = h.small;
        fair = h.fair;
        ruled = rw (word, next) after;
      }

  -- a step that leaves its word as it is
  pub on_none : (terms : Terms K) (s : State (Option P) (View K)) (at : ℕ) (homes : List (mathlib.Core.Option.Option (Option P))) (views : List (View K))
      → IsRuled in_order knows is_tried was_block knew terms s
      → At terms (get_or s.words 0 0) (get_or s.words 1 0) (λ k. get_or s.words (2 + k) 0) homes views
      → IsRuled in_order knows is_tried was_block knew terms (record { words = set s.words at (get_or s.words at 0); homes = homes; views = views })
  on_none terms s at homes views h after =
      let same : set s.words at (get_or s.words at 0) ≡ s.words = set-get_or s.words at 0 in
      rw same (record { words = h.words; small = h.small; fair = h.fair; ruled = after })
