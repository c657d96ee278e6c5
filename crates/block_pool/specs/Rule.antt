-- The rule between any two steps of the pool: what the words, the pen at home and all views say together.
use Rattle.std.specs.Prelude.{◌≡◌, ℕ, ◌+◌, ◌/◌, ◌^◌, ◌<◌, ◌≤◌, true, false, List, [], ◌∷◌, length, slice_index, Option, Some, None, if◌then◌else◌}
use mathlib.Core.Logic.{◌↔◌}
use mathlib.Core.Option as maybe
use mathlib.Core.Option.{some, none}
use lib.ListN.{get_elem?}
use Rattle.atomic_table.specs.Table.{State}
use Rattle.block_pool.specs.Counting.{total, times, over, once_below, weight, mark_in}
use Rattle.block_pool.specs.Views.{list_of, StandsBelow, IsCommitted, words_known}
use Rattle.block_pool.specs.declared.view.Terms.{Terms}
use Rattle.block_pool.specs.declared.view.View.{View}

-- a word for each 64 numbers
abbrev pub mark_words : ℕ → ℕ
mark_words n = (n + 63) / 64

module _ {K : Type 0} where
  abbrev pub parts_in : View K → ℕ
  parts_in v = v.parts

  -- the parts of a seat that may still draw
  abbrev pub live : View K → ℕ
  live v = if v.through then 0 else v.parts

  abbrev pub times_drawn : ℕ → View K → ℕ
  times_drawn x v = times x v.drawn

  abbrev pub times_marked : ℕ → View K → ℕ
  times_marked x v = times x v.marked

  abbrev pub over_drawn : ℕ → View K → ℕ
  over_drawn n v = over n v.drawn

  abbrev pub over_or_live : ℕ → View K → ℕ
  over_or_live n v = over n v.drawn + live v

  abbrev pub turn_in : View K → ℕ
  turn_in v = weight v.turn

  abbrev pub lifted_in : View K → ℕ
  lifted_in v = weight v.lifted

  -- Each number below the next one was drawn once, and so few were drawn behind the list's end that no sum wraps.
  pub record AreDrawn (n callers next : ℕ) (views : List (View K)) : Type 0 where
    pub parts : total parts_in views ≡ callers
    pub once : (x : ℕ) → total (times_drawn x) views ≡ once_below x next
    pub bound : total (over_or_live n) views ≤ callers
    pub reach : next ≤ n + total (over_drawn n) views

  -- A bit is set exactly where its number stands marked in one view.
  pub record AreMarked (n : ℕ) (marks : ℕ → ℕ) (views : List (View K)) : Type 0 where
    pub set : (x : ℕ) → x < n → mark_in marks x ≡ total (times_marked x) views

  -- What holds of one view by itself, beside the words.
  pub record IsSound (terms : Terms K) (next : ℕ) (marks : ℕ → ℕ) (v : View K) : Type 0 where
    pub told : 0 < v.parts → v.terms ≡ Some terms
    pub spent : v.parts ≡ 0 → (v.drawn ≡ []) × (v.turn ≡ false) × (v.through ≡ false)
    pub live : v.through ≡ false → over (length (list_of terms)) v.drawn ≡ 0
    pub ended : v.through ≡ true → length (list_of terms) < next
    pub marked : (x : ℕ) → times x v.marked ≤ times x v.drawn
    pub lifted : v.lifted ≡ true → v.turn ≡ true
    pub known : v.turn ≡ true → (j : ℕ) → j < length v.known → marks j ≡ words_known v j
    pub kept : v.turn ≡ true → (k : ℕ) → v.kept ≡ Some k → k ≤ next

  -- A list of different blocks of the start, none of them known open then.
  pub record IsFair (was_block knew : K → ℕ → Type 0) (list : List ℕ) (start : K) : Type 0 where
    pub apart : (i j : ℕ) → i < length list → j < length list → slice_index list i ≡ slice_index list j → i ≡ j
    pub blocks : (i : ℕ) → i < length list → was_block start (slice_index list i)
    pub closed : (i : ℕ) → i < length list → ¬ knew start (slice_index list i)

  module _ {P : Type 0} (in_order : P → K → Type 0) (knows : P → ℕ → Type 0) (is_tried : P → ℕ → Type 0) (was_block knew : K → ℕ → Type 0) where
    -- The pen at home is in order, knows what is committed, and tried only blocks that were drawn.
    pub record IsHome (terms : Terms K) (next : ℕ) (marks : ℕ → ℕ) (views : List (View K)) (pen : P) : Type 0 where
      pub order : in_order pen terms.start.value
      pub committed : (x : ℕ) → knows pen x ↔ IsCommitted knew terms marks x
      pub tried : (x : ℕ) → is_tried pen x → StandsBelow terms next x
      pub kept : (id : ℕ) (v : View K) (k : ℕ) → get_elem? views id ≡ some v → v.turn ≡ true → v.kept ≡ Some k → (x : ℕ) → is_tried pen x → StandsBelow terms k x

    -- Where the slot is: home with a pen, or out.
    pub data IsPlaced (terms : Terms K) (next : ℕ) (marks : ℕ → ℕ) (views : List (View K)) : List (maybe.Option (Option P)) → Type 0 where
      home : (pen : P) → total lifted_in views ≡ 0 → IsHome terms next marks views pen → IsPlaced terms next marks views (some (Some pen) ∷ [])
      out : total lifted_in views ≡ 1 → IsPlaced terms next marks views (none ∷ [])

    -- The rule over the next number, the pen's word, the mark words, the slot and all views.
    pub record IsRuledAt (terms : Terms K) (next word : ℕ) (marks : ℕ → ℕ) (homes : List (maybe.Option (Option P))) (views : List (View K)) : Type 0 where
      pub draws : AreDrawn (length (list_of terms)) terms.callers next views
      pub marks_set : AreMarked (length (list_of terms)) marks views
      pub turns : word ≡ total turn_in views
      pub one : word ≤ 1
      pub placed : IsPlaced terms next marks views homes
      pub each : (id : ℕ) (v : View K) → get_elem? views id ≡ some v → IsSound terms next marks v

    pub record IsRuled (terms : Terms K) (s : State (Option P) (View K)) : Type 0 where
      pub words : length s.words ≡ 2 + mark_words (length (list_of terms))
      pub small : length (list_of terms) + terms.callers + 1 < 2 ^ 64
      pub fair : IsFair was_block knew (list_of terms) terms.start.value
      pub ruled : IsRuledAt terms (slice_index s.words 0) (slice_index s.words 1) (λ j. slice_index s.words (2 + j)) s.homes s.views

  abbrev pub first_view : Terms K → View K
  first_view terms = record { terms = Some terms; parts = terms.callers; drawn = []; marked = []; through = false; misses = 0; turn = false; lifted = false; known = []; kept = None }
