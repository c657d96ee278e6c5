-- Products with a rounded reciprocal are never too narrow.
use Rattle.std.proofs.Common.{ℕ, ℤ, pos, ◌*◌, ◌^◌, ◌≤◌, ◌+ℤ◌, ◌-ℤ◌, ◌*ℤ◌, ◌≤ℤ◌, ◌≡◌, ◌+◌, w64, FitsSigned, unsigned_abs, arith}
use Rattle.std.proofs.lemmas.Int.{ints, fits_signed_from_abs}
use Rattle.fix_math.specs.Order.{mul-le_right, mul-le_left, mul-within}
use Rattle.box_probe.specs.declared.probe.Slope.{Slope}
use Rattle.box_probe.specs.Boxes.{corner_of}
use Rattle.box_probe.specs.Probes.{IsSlope}
use Rattle.fix_math.specs.Ring.{diff-parts, diff-pos, diff-same, ring_rules, mul-add_right}

turned_product : (t d r : ℤ) → (t *ℤ d) *ℤ r ≡ t *ℤ (r *ℤ d)
turned_product t d r = rw (diff-parts t, diff-parts d, diff-parts r) (simp ring_rules (diff-same _ _ _ _ (omega arith)))

long_product : (x r : ℤ) → (pos 65536 *ℤ x) *ℤ r ≡ pos 65536 *ℤ (x *ℤ r)
long_product x r = rw (diff-parts x, diff-parts r) (simp (ring_rules, diff-pos) (diff-same _ _ _ _ (omega arith)))

-- x units of 2^16 are passed by t steps of d, at the latest
pub near_share : (x d r : ℤ) (t : ℕ) → pos 0 ≤ℤ r → (r *ℤ d) ≤ℤ pos (2 ^ 31) → (pos 65536 *ℤ x) ≤ℤ (pos t *ℤ d) → (x *ℤ r) ≤ℤ pos (t * 2 ^ 15)
near_share x d r t sign share h =
    let k : ((pos 65536 *ℤ x) *ℤ r) ≤ℤ ((pos t *ℤ d) *ℤ r) = mul-le_right _ _ r sign h in
    let m : (pos t *ℤ (r *ℤ d)) ≤ℤ (pos t *ℤ pos (2 ^ 31)) = mul-le_left _ _ (pos t) (omega (arith, ints)) share in
    let e = turned_product (pos t) d r in
    let f = long_product x r in
    omega (arith, ints)

-- and at the earliest
pub far_share : (x d r : ℤ) (t : ℕ) → pos 0 ≤ℤ r → pos (2 ^ 31) ≤ℤ (r *ℤ d) → (pos t *ℤ d) ≤ℤ (pos 65536 *ℤ x) → pos (t * 2 ^ 15) ≤ℤ (x *ℤ r)
far_share x d r t sign share h =
    let k : ((pos t *ℤ d) *ℤ r) ≤ℤ ((pos 65536 *ℤ x) *ℤ r) = mul-le_right _ _ r sign h in
    let m : (pos t *ℤ pos (2 ^ 31)) ≤ℤ (pos t *ℤ (r *ℤ d)) = mul-le_left _ _ (pos t) (omega (arith, ints)) share in
    let e = turned_product (pos t) d r in
    let f = long_product x r in
    omega (arith, ints)

difference_product : (x o r : ℤ) → (x -ℤ o) *ℤ r ≡ x *ℤ r -ℤ o *ℤ r
difference_product x o r = rw (diff-parts x, diff-parts o, diff-parts r) (simp ring_rules (diff-same _ _ _ _ (omega arith)))

turned_difference : (x o r : ℤ) → (o -ℤ x) *ℤ r ≡ x *ℤ (pos 0 -ℤ r) -ℤ o *ℤ (pos 0 -ℤ r)
turned_difference x o r = rw (diff-parts x, diff-parts o, diff-parts r) (simp (ring_rules, diff-pos) (diff-same _ _ _ _ (omega arith)))

turned_step : (t d : ℤ) → t *ℤ (pos 0 -ℤ d) ≡ pos 0 -ℤ t *ℤ d
turned_step t d = rw (diff-parts t, diff-parts d) (simp (ring_rules, diff-pos) (diff-same _ _ _ _ (omega arith)))

pub near_rising : (x o d r : ℤ) (t : ℕ) → pos 0 ≤ℤ r → (r *ℤ d) ≤ℤ pos (2 ^ 31) → (pos 65536 *ℤ x) ≤ℤ (pos 65536 *ℤ o +ℤ pos t *ℤ d) → (x *ℤ r -ℤ o *ℤ r) ≤ℤ pos (t * 2 ^ 15)
near_rising x o d r t sign share h =
    let k = near_share (x -ℤ o) d r t sign share (omega (arith, ints)) in
    let e = difference_product x o r in omega (arith, ints)

pub far_rising : (x o d r : ℤ) (t : ℕ) → pos 0 ≤ℤ r → pos (2 ^ 31) ≤ℤ (r *ℤ d) → (pos 65536 *ℤ o +ℤ pos t *ℤ d) ≤ℤ (pos 65536 *ℤ x) → pos (t * 2 ^ 15) ≤ℤ (x *ℤ r -ℤ o *ℤ r)
far_rising x o d r t sign share h =
    let k = far_share (x -ℤ o) d r t sign share (omega (arith, ints)) in
    let e = difference_product x o r in omega (arith, ints)

pub near_falling : (x o d r : ℤ) (t : ℕ) → pos 0 ≤ℤ r → (r *ℤ (pos 0 -ℤ d)) ≤ℤ pos (2 ^ 31) → (pos 65536 *ℤ o +ℤ pos t *ℤ d) ≤ℤ (pos 65536 *ℤ x) → (x *ℤ (pos 0 -ℤ r) -ℤ o *ℤ (pos 0 -ℤ r)) ≤ℤ pos (t * 2 ^ 15)
near_falling x o d r t sign share h =
    let f = turned_step (pos t) d in
    let k = near_share (o -ℤ x) (pos 0 -ℤ d) r t sign share (omega (arith, ints)) in
    let e = turned_difference x o r in omega (arith, ints)

pub far_falling : (x o d r : ℤ) (t : ℕ) → pos 0 ≤ℤ r → pos (2 ^ 31) ≤ℤ (r *ℤ (pos 0 -ℤ d)) → (pos 65536 *ℤ x) ≤ℤ (pos 65536 *ℤ o +ℤ pos t *ℤ d) → pos (t * 2 ^ 15) ≤ℤ (x *ℤ (pos 0 -ℤ r) -ℤ o *ℤ (pos 0 -ℤ r))
far_falling x o d r t sign share h =
    let f = turned_step (pos t) d in
    let k = far_share (o -ℤ x) (pos 0 -ℤ d) r t sign share (omega (arith, ints)) in
    let e = turned_difference x o r in omega (arith, ints)

pub passed_fits : (x b f : ℤ) → unsigned_abs x ≤ 2 ^ 31 → unsigned_abs b ≤ 2 ^ 31 + 1 → unsigned_abs f ≤ 2 ^ 60 → FitsSigned w64 (x *ℤ b) × FitsSigned w64 (x *ℤ b -ℤ f)
passed_fits x b f hx hb hf =
    let k : unsigned_abs (x *ℤ b) ≤ 2 ^ 31 * (2 ^ 31 + 1) = mul-within x b _ _ hx hb in (
      fits_signed_from_abs w64 _ (omega (arith, ints)),
      fits_signed_from_abs w64 _ (omega (arith, ints)),
    )

pub start_fits : (a b f : ℤ) → unsigned_abs a ≤ 2 ^ 28 → unsigned_abs b ≤ 2 ^ 31 + 1 → unsigned_abs f ≤ 2 ^ 46 → FitsSigned w64 (a *ℤ b) × FitsSigned w64 (a *ℤ b -ℤ f) × (unsigned_abs (a *ℤ b -ℤ f) ≤ 2 ^ 60)
start_fits a b f ha hb hf =
    let k : unsigned_abs (a *ℤ b) ≤ 2 ^ 28 * (2 ^ 31 + 1) = mul-within a b _ _ ha hb in (
      fits_signed_from_abs w64 _ (omega (arith, ints)),
      fits_signed_from_abs w64 _ (omega (arith, ints)),
      omega (arith, ints),
    )

pub rising_slope : (s : Slope) (o d r : ℤ) → s.first ≡ 0 → s.near.by ≡ r → s.near.from ≡ o *ℤ r -ℤ pos 0 → s.far.by ≡ r +ℤ pos 1 → s.far.from ≡ o *ℤ (r +ℤ pos 1) -ℤ pos 0 → pos 0 ≤ℤ r → (r *ℤ d) ≤ℤ pos (2 ^ 31) → pos (2 ^ 31) ≤ℤ (r *ℤ d +ℤ d) → IsSlope s o d
rising_slope s o d r ef eb ea fb fa sign low high =
    let high' : pos (2 ^ 31) ≤ℤ ((r +ℤ pos 1) *ℤ d) = let e = mul-add_right r (pos 1) d in omega (arith, ints) in
    record {
      near = λ xs t lt h. rw (ef, eb, ea) (let k = near_rising (corner_of xs 0) o d r t sign low h.above in omega (arith, ints));
      far = λ xs t lt h. rw (ef, fb, fa) (let k = far_rising (corner_of xs 1) o d (r +ℤ pos 1) t (omega (arith, ints)) high' h.below in omega (arith, ints));
    }

pub falling_slope : (s : Slope) (o d r : ℤ) → s.first ≡ 1 → s.near.by ≡ pos 0 -ℤ r → s.near.from ≡ o *ℤ (pos 0 -ℤ r) -ℤ pos 0 → s.far.by ≡ (pos 0 -ℤ r) -ℤ pos 1 → s.far.from ≡ o *ℤ ((pos 0 -ℤ r) -ℤ pos 1) -ℤ pos 0 → pos 0 ≤ℤ r → (r *ℤ (pos 0 -ℤ d)) ≤ℤ pos (2 ^ 31) → pos (2 ^ 31) ≤ℤ (r *ℤ (pos 0 -ℤ d) +ℤ (pos 0 -ℤ d)) → IsSlope s o d
falling_slope s o d r ef eb ea fb fa sign low high =
    let high' : pos (2 ^ 31) ≤ℤ ((r +ℤ pos 1) *ℤ (pos 0 -ℤ d)) = let e = mul-add_right r (pos 1) (pos 0 -ℤ d) in omega (arith, ints) in
    let e : (pos 0 -ℤ r) -ℤ pos 1 ≡ pos 0 -ℤ (r +ℤ pos 1) = omega (arith, ints) in
    record {
      near = λ xs t lt h. rw (ef, eb, ea) (let k = near_falling (corner_of xs 1) o d r t sign low h.below in omega (arith, ints));
      far = λ xs t lt h. rw (ef, fb, fa, e) (let k = far_falling (corner_of xs 0) o d (r +ℤ pos 1) t (omega (arith, ints)) high' h.above in omega (arith, ints));
    }

still_product : (t : ℕ) → pos t *ℤ pos 0 ≡ pos 0
still_product t = omega (arith, ints)

-- a coordinate that doesn't move is taken for one that moves by 1, from where it stands at first, and to where it stands in the end
pub still_slope : (s : Slope) (o : ℤ) → s.first ≡ 0 → s.near.by ≡ pos (2 ^ 31) → s.near.from ≡ o *ℤ pos (2 ^ 31) -ℤ pos 0 → s.far.by ≡ pos (2 ^ 31) → s.far.from ≡ o *ℤ pos (2 ^ 31) -ℤ pos (2 ^ 46) → IsSlope s o (pos 0)
still_slope s o ef eb ea fb fa = record {
  near = λ xs t lt h. rw (ef, eb, ea) (let a = h.above in let e = still_product t in omega (arith, ints));
  far = λ xs t lt h. rw (ef, fb, fa) (let b = h.below in let e = still_product t in omega (arith, ints));
}
