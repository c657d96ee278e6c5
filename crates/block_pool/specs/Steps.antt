-- What each step tells the seat that makes it.
use Rattle.std.specs.Prelude.{◌≡◌, ◌≢◌, ℕ, ◌+◌, ◌/◌, ◌%◌, ◌^◌, [], ◌∷◌, Option, Some, bit_or}
use mathlib.Core.Logic.{◌↔◌}
use Rattle.atomic_table.specs.Table.{Me, Step}
use Rattle.block_pool.specs.Views.{list_of, StandsBelow, IsCommitted, words_known, drew, in_turn, missed, read, kept, lifted, marked, gave}
use Rattle.block_pool.specs.Rule.{IsFair}
use Rattle.block_pool.specs.declared.view.Terms.{Terms}
use Rattle.block_pool.specs.declared.view.View.{View}

abbrev Sat : Type 0 → Type 0 → Type 0
Sat K P = Me (Option P) (View K)

abbrev At : Type 0 → Type 0
At P = Step (Option P)

module _ {K P : Type 0} where
  abbrev pub draws : At P → Sat K P → ℕ → Sat K P → Type 0
  draws st m r m' = (terms : Terms K) → m.0.terms ≡ Some terms → m' ≡ (drew terms m.0 r, m.1)

  -- the seat has the turn now, or another seat has it, and so this one hasn't all parts
  abbrev pub takes : At P → Sat K P → ℕ → Sat K P → Type 0
  takes st m r m' = (r ≡ 0 → m' ≡ (in_turn m.0, m.1)) × (r ≢ 0 → (m' ≡ (missed m.0, m.1)) × ((terms : Terms K) → m.0.terms ≡ Some terms → m.0.parts ≢ terms.callers))

  abbrev pub reads : At P → Sat K P → ℕ → Sat K P → Type 0
  reads st m r m' = m' ≡ (read m.0 r, m.1)

  abbrev pub keeps_next : At P → Sat K P → ℕ → Sat K P → Type 0
  keeps_next st m r m' = m' ≡ (kept m.0 r, m.1)

  abbrev pub marks : At P → Sat K P → ℕ → Sat K P → Type 0
  marks st m r m' = (i : ℕ) → st.word ≡ 2 + i / 64 → st.first ≡ 2 ^ (i % 64) → m' ≡ (marked m.0 i (i / 64) (bit_or (words_known m.0 (i / 64)) st.first), m.1)

  abbrev pub gives : At P → Sat K P → ℕ → Sat K P → Type 0
  gives st m r m' = m' ≡ (gave m.0, [])

  module _ (in_order : P → K → Type 0) (knows : P → ℕ → Type 0) (is_tried : P → ℕ → Type 0) (was_block knew : K → ℕ → Type 0) where
    -- A pen that a seat holds is in order, knows what was committed as the seat read it, and tried only blocks that were drawn before.
    pub record IsLent (terms : Terms K) (v : View K) (pen : P) : Type 0 where
      pub order : in_order pen terms.start.value
      pub committed : (x : ℕ) → knows pen x ↔ IsCommitted knew terms (words_known v) x
      pub tried : (x k : ℕ) → v.kept ≡ Some k → is_tried pen x → StandsBelow terms k x

    abbrev pub lifts : At P → Sat K P → ℕ → Sat K P → Type 0
    lifts st m r m' = (pen : P) × (m' ≡ (lifted m.0, (0, Some pen) ∷ m.1)) × ((terms : Terms K) → m.0.terms ≡ Some terms → IsLent terms m.0 pen)

    -- a mark word that the seat knows is what it was, and the list is fair
    abbrev pub looks : At P → Sat K P → ℕ → Sat K P → Type 0
    looks st m r m' = (m' ≡ m) × ((j : ℕ) → st.word ≡ 2 + j → r ≡ words_known m.0 j) × ((terms : Terms K) → m.0.terms ≡ Some terms → IsFair was_block knew (list_of terms) terms.start.value)
