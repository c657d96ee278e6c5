-- The sine and the cosine of an angle in degrees. An angle is a raw number; a sine has 32 fraction bits, so 1 is 2 ^ 32.
use Rattle.std.specs.Prelude.{ℕ, zero, suc, ℤ, pos, ◌-ℤ◌, ◌*ℤ◌, neg_ℤ, ◌+◌, ◌-◌, ◌*◌, ◌/◌, ◌%◌, ◌^◌, unsigned_abs, nat_le, nat_eq, if◌then◌else◌}
use Rattle.std.specs.Int.{int_rem_euclid}
use Rattle.fix_math.specs.Numbers.{rnd}

-- t 0 - t 1 + t 2 - .., up to t n
unfoldable pub alternating : (ℕ → ℤ) → ℕ → ℤ
alternating t zero = t 0
alternating t (suc n) = t 0 -ℤ alternating (λ k. t (suc k)) n

-- the angle in radians, with 32 fraction bits
abbrev pub radians : ℕ → ℤ
radians u = rnd (pos u *ℤ pos (3141592653589793 * 2 ^ 16)) (pos (180 * 10 ^ 15))

-- the square of an angle in radians
abbrev pub square : ℤ → ℤ
square x = rnd (x *ℤ x) (pos (2 ^ 32))

-- the terms of the sine's series, each from the one before: x, x³ / 3!, x⁵ / 5!, ..
unfoldable pub sine_term : ℤ → ℕ → ℤ
sine_term x zero = x
sine_term x (suc k) = rnd (sine_term x k *ℤ square x) (pos (2 ^ 32 * ((2 * k + 2) * (2 * k + 3))))

-- the terms of the cosine's series: 1, x² / 2!, x⁴ / 4!, ..
unfoldable pub cosine_term : ℤ → ℕ → ℤ
cosine_term x zero = pos (2 ^ 32)
cosine_term x (suc k) = rnd (cosine_term x k *ℤ square x) (pos (2 ^ 32 * ((2 * k + 1) * (2 * k + 2))))

-- by seven terms, for an angle up to 45 degrees
abbrev pub small_sine : ℕ → ℤ
small_sine u = alternating (sine_term (radians u)) 6

abbrev pub small_cosine : ℕ → ℤ
small_cosine u = alternating (cosine_term (radians u)) 6

-- in the first quarter of a turn the sine past 45 degrees is the cosine of what is left to 90
abbrev pub first_sine : ℕ → ℤ
first_sine u = if nat_le u (45 * 65536) then small_sine u else small_cosine (90 * 65536 - u)

abbrev pub first_cosine : ℕ → ℤ
first_cosine u = if nat_le u (45 * 65536) then small_cosine u else small_sine (90 * 65536 - u)

-- the four quarters of a turn
abbrev pub by_quarter : ℕ → ℤ → ℤ → ℤ → ℤ → ℤ
by_quarter q first second third fourth =
    if nat_eq q 0 then first else if nat_eq q 1 then second else if nat_eq q 2 then third else fourth

-- the angle without whole turns
abbrev pub in_turn : ℤ → ℕ
in_turn deg = unsigned_abs (int_rem_euclid deg (pos (360 * 65536)))

unfoldable pub sine_of : ℤ → ℤ
sine_of deg =
    let u = in_turn deg % (90 * 65536) in
    by_quarter (in_turn deg / (90 * 65536)) (first_sine u) (first_cosine u) (neg_ℤ (first_sine u)) (neg_ℤ (first_cosine u))

unfoldable pub cosine_of : ℤ → ℤ
cosine_of deg =
    let u = in_turn deg % (90 * 65536) in
    by_quarter (in_turn deg / (90 * 65536)) (first_cosine u) (neg_ℤ (first_sine u)) (neg_ℤ (first_cosine u)) (first_sine u)
