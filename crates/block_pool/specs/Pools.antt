-- What a caller knows of a pool and its seats.
use Rattle.std.specs.Prelude.{◌≡◌, ◌⊎◌, ◌↔◌, ℕ, ◌<◌, true, false, [], ◌∷◌, length, Some, None}
use Rattle.block_pool.specs.Counting.{times, once_below}
use Rattle.block_pool.specs.Rule.{mark_words}
use Rattle.block_pool.specs.Views.{list_of, IsPlace, StandsBelow}
use Rattle.block_pool.specs.declared.pool.Pool.{Pool}
use Rattle.block_pool.specs.declared.seat.Seat.{Seat}
use Rattle.block_pool.specs.declared.view.Terms.{Terms}
use Rattle.block_pool.specs.declared.view.View.{View}

module _ {K : Type 0} where
  module _ {P : Type 0} where
    -- what the pool was told when it was made
    abbrev pub terms_of : Pool K P → Terms K
    terms_of pool = pool.table.shared.key

    -- what the seat did, and what it knows
    abbrev pub view_of : Seat K P → View K
    view_of seat = seat.place.me.0

    abbrev pub parts_of : Seat K P → ℕ
    parts_of seat = seat.place.me.0.parts

    -- A seat of this pool.
    pub record IsSeated (pool : Pool K P) (seat : Seat K P) : Type 0 where
      pub place : seat.place.table_id ≡ pool.table.shared.table_id
      pub told : seat.place.me.0.terms ≡ Some pool.table.shared.key
      pub part : 0 < seat.place.me.0.parts

    -- A seat that hasn't the pen.
    pub record IsIdle (pool : Pool K P) (seat : Seat K P) : Type 0 where
      pub seated : IsSeated pool seat
      pub idle : seat.place.me.0.turn ≡ false
      pub down : seat.place.me.0.lifted ≡ false
      pub empty : seat.place.me.1 ≡ []

    -- A seat whose caller has the pen.
    pub record IsServing (pool : Pool K P) (seat : Seat K P) : Type 0 where
      pub seated : IsSeated pool seat
      pub turn : seat.place.me.0.turn ≡ true
      pub up : seat.place.me.0.lifted ≡ true
      pub known : length seat.place.me.0.known ≡ mark_words (length (list_of pool.table.shared.key))
      pub hand : seat.place.me.1 ≡ (0, None) ∷ []

    -- A seat that has done nothing yet.
    pub record IsNew (pool : Pool K P) (seat : Seat K P) : Type 0 where
      pub idle : IsIdle pool seat
      pub drawn : seat.place.me.0.drawn ≡ []
      pub marked : seat.place.me.0.marked ≡ []
      pub through : seat.place.me.0.through ≡ false
      pub misses : seat.place.me.0.misses ≡ 0

  -- The pen at the end: in order, knowing what was known at the start and what the last seat marked.
  module _ {P : Type 0} (in_order : P → K → Type 0) (knows : P → ℕ → Type 0) (is_tried : P → ℕ → Type 0) (knew : K → ℕ → Type 0) where
    pub record IsGathered (terms : Terms K) (v : View K) (pen : P) (drawn : ℕ) : Type 0 where
      pub order : in_order pen terms.start.value
      pub committed : (x : ℕ) → knows pen x ↔ (knew terms.start.value x ⊎ ((i : ℕ) × IsPlace terms x i × (0 < times i v.marked)))
      pub tried : (x : ℕ) → is_tried pen x → StandsBelow terms drawn x
      pub each : (x : ℕ) → times x v.drawn ≡ once_below x drawn

  -- what a call of a seat leaves as it was, unless it draws, marks or misses
  pub record KeepsSeat (v w : View K) : Type 0 where
    pub parts : w.parts ≡ v.parts
    pub drawn : w.drawn ≡ v.drawn
    pub through : w.through ≡ v.through
