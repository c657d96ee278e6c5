-- Sines and cosines in the first quarter of a turn: none is below 0, and the sine of some angle isn't near 0.
use Rattle.std.proofs.Common.{◌≡◌, ◌<◌, ◌≤◌, ◌≤ℤ◌, ◌+◌, ◌-◌, ◌*◌, ◌/◌, ◌%◌, ◌-ℤ◌, ◌*ℤ◌, ℕ, zero, suc, ℤ, pos, negsuc, Bool, true, false, unsigned_abs, nat_le, nat_eq, refl, arith, if◌then◌else◌}
use Rattle.std.proofs.lemmas.Int.{ints}
use Rattle.std.proofs.lemmas.Bool.Decides.{nat_tests}
use Rattle.fix_math.specs.Angles.{alternating, radians, square, sine_term, cosine_term, small_sine, small_cosine, first_sine, first_cosine, in_turn, sine_of, cosine_of}
use Rattle.fix_math.specs.Floor.{rnd_within, rnd_at_least, rnd_not_negative, rnd_least}
use Rattle.fix_math.specs.Numbers.{rnd}
use Rattle.scene_model.specs.Amounts.{IsAmount}
use Rattle.view_blocks.specs.Lights.{cosine_at}
use Rattle.fix_math.specs.Order.{mul-le_left, mul-le_right}

-- ---- sums of falling terms with changing signs

falling : (t : ℕ → ℤ) (n : ℕ) → ((k : ℕ) → pos 0 ≤ℤ t k) → ((k : ℕ) → t (suc k) ≤ℤ t k) → (pos 0 ≤ℤ alternating t n) × (alternating t n ≤ℤ t 0)
unfolding alternating
falling t zero low falls = (low 0, omega (arith, ints))
falling t (suc n) low falls =
    let rest = falling (λ k. t (suc k)) n (λ k. low (suc k)) (λ k. falls (suc k)) in
    (omega (arith, ints, rest.1, falls 0), omega (arith, ints, rest.0))

above_two : (t : ℕ → ℤ) (n : ℕ) → ((k : ℕ) → pos 0 ≤ℤ t k) → ((k : ℕ) → t (suc k) ≤ℤ t k) → (t 0 -ℤ t 1) ≤ℤ alternating t (suc n)
unfolding alternating
above_two t n low falls = let rest = falling (λ k. t (suc k)) n (λ k. low (suc k)) (λ k. falls (suc k)) in omega (arith, ints, rest.1)

-- ---- each term is the one before times y, by twice y at least

next_low : (t y : ℤ) (d : ℕ) → pos 0 ≤ℤ t → pos 0 ≤ℤ y → 0 < d → pos 0 ≤ℤ rnd (t *ℤ y) (pos d)
next_low t y d t_low y_low some = rnd_not_negative (t *ℤ y) (pos d) (omega (arith, ints)) (omega (arith, ints, mul-le_right (pos 0) t y y_low t_low))

next_falls : (t y : ℤ) (c : ℕ) → pos 0 ≤ℤ t → pos 0 ≤ℤ y → y ≤ℤ pos 4294967296 → 1 ≤ c → rnd (t *ℤ y) (pos (4294967296 * c)) ≤ℤ t
next_falls (pos n) (pos m) c t_low y_low y_high some =
    let near : n * m ≤ n * (4294967296 * c) = mul_mono n m (4294967296 * c) (omega (arith, ints)) in
    omega (arith, ints, rnd_within (pos (n * m)) (4294967296 * c) n (omega (arith, some)) near)
  where
    mul_mono : (n a b : ℕ) → a ≤ b → n * a ≤ n * b
    mul_mono n a b le = omega (arith, ints, mul-le_left (pos a) (pos b) (pos n) (omega (arith, ints)) (omega (arith, ints)))
next_falls (pos n) (negsuc m) c t_low y_low y_high some = absurd (omega (arith, ints, y_low))
next_falls (negsuc n) y c t_low y_low y_high some = absurd (omega (arith, ints, t_low))

module _ (x : ℤ) (low : pos 0 ≤ℤ x) (high : x ≤ℤ pos 4294967296) where
  square_low : pos 0 ≤ℤ square x
  square_low = next_low x x 4294967296 low low (omega arith)

  square_high : square x ≤ℤ pos 4294967296
  square_high = at_most (square x) (rnd_within (x *ℤ x) 4294967296 4294967296 (omega arith) (size x low high))
    where
      at_most : (z : ℤ) → unsigned_abs z ≤ 4294967296 → z ≤ℤ pos 4294967296
      at_most z le = omega (arith, ints, le)

      size : (x : ℤ) → pos 0 ≤ℤ x → x ≤ℤ pos 4294967296 → unsigned_abs (x *ℤ x) ≤ 4294967296 * 4294967296
      size x low high =
          let first = mul-le_right x (pos 4294967296) x low high in
          let none = mul-le_right (pos 0) x x low low in
          omega (arith, ints, first, none, high)

  sine_low : (k : ℕ) → pos 0 ≤ℤ sine_term x k
  unfolding sine_term
  sine_low zero = low
  sine_low (suc k) = next_low (sine_term x k) (square x) (4294967296 * ((2 * k + 2) * (2 * k + 3))) (sine_low k) square_low (omega arith)

  sine_falls : (k : ℕ) → sine_term x (suc k) ≤ℤ sine_term x k
  unfolding sine_term
  sine_falls k = next_falls (sine_term x k) (square x) ((2 * k + 2) * (2 * k + 3)) (sine_low k) square_low square_high (omega arith)

  cosine_low : (k : ℕ) → pos 0 ≤ℤ cosine_term x k
  unfolding cosine_term
  cosine_low zero = omega (arith, ints)
  cosine_low (suc k) = next_low (cosine_term x k) (square x) (4294967296 * ((2 * k + 1) * (2 * k + 2))) (cosine_low k) square_low (omega arith)

  cosine_falls : (k : ℕ) → cosine_term x (suc k) ≤ℤ cosine_term x k
  unfolding cosine_term
  cosine_falls k = next_falls (cosine_term x k) (square x) ((2 * k + 1) * (2 * k + 2)) (cosine_low k) square_low square_high (omega arith)

  -- the second term is at most a sixth of the first, rounded, and half of it
  sine_above : pos 1143 ≤ℤ x → pos 512 ≤ℤ alternating (sine_term x) 6
  unfolding sine_term
  sine_above some =
      let second = rnd_least (x *ℤ square x) (pos 25769803776) (omega (arith, ints)) in
      let product = mul-le_left (square x) (pos 4294967296) x low square_high in
      omega (arith, ints, above_two (sine_term x) 5 sine_low sine_falls, second, product, some)

  cosine_above : pos 512 ≤ℤ alternating (cosine_term x) 6
  unfolding cosine_term
  cosine_above =
      let second = rnd_least (pos 4294967296 *ℤ square x) (pos 8589934592) (omega (arith, ints)) in
      omega (arith, ints, above_two (cosine_term x) 5 cosine_low cosine_falls, second, square_high)

  sine_not_negative : pos 0 ≤ℤ alternating (sine_term x) 6
  sine_not_negative = (falling (sine_term x) 6 sine_low sine_falls).0

-- ---- angles up to 45 degrees

radians_low : (u : ℕ) → pos 0 ≤ℤ radians u
radians_low u = rnd_not_negative (pos u *ℤ pos 205887416145660674048) (pos 180000000000000000) (omega (arith, ints)) (omega (arith, ints))

radians_high : (u : ℕ) → u ≤ 2949120 → radians u ≤ℤ pos 4294967296
radians_high u le = omega (arith, ints, rnd_within (pos u *ℤ pos 205887416145660674048) 180000000000000000 4294967296 (omega arith) (omega (arith, ints, le)))

radians_some : (u : ℕ) → 1 ≤ u → pos 1143 ≤ℤ radians u
radians_some u some = omega (arith, ints, radians_low u, rnd_at_least (pos u *ℤ pos 205887416145660674048) 180000000000000000 1143 (omega arith) (omega (arith, ints, some)))

small_sine_low : (u : ℕ) → u ≤ 2949120 → pos 0 ≤ℤ small_sine u
small_sine_low u le = sine_not_negative (radians u) (radians_low u) (radians_high u le)

small_sine_some : (u : ℕ) → 1 ≤ u → u ≤ 2949120 → pos 512 ≤ℤ small_sine u
small_sine_some u some le = sine_above (radians u) (radians_low u) (radians_high u le) (radians_some u some)

small_cosine_some : (u : ℕ) → u ≤ 2949120 → pos 512 ≤ℤ small_cosine u
small_cosine_some u le = cosine_above (radians u) (radians_low u) (radians_high u le)

-- ---- and up to 90

le_test : (a b : ℕ) → nat_le a b ≡ true → a ≤ b
le_test a b h = grind (arith, nat_tests)

above_test : (a b : ℕ) → nat_le a b ≡ false → b < a
above_test a b h = grind (arith, nat_tests)

first_sine_some : (u : ℕ) → 1 ≤ u → u < 5898240 → pos 512 ≤ℤ first_sine u
first_sine_some u some less = by_test (nat_le u 2949120) refl
  where
    by_test : (b : Bool) → nat_le u 2949120 ≡ b → pos 512 ≤ℤ (if b then small_sine u else small_cosine (5898240 - u))
    by_test true e = small_sine_some u some (le_test u 2949120 e)
    by_test false e = small_cosine_some (5898240 - u) (omega (arith, above_test u 2949120 e, less))

first_cosine_low : (u : ℕ) → u < 5898240 → pos 0 ≤ℤ first_cosine u
first_cosine_low u less = by_test (nat_le u 2949120) refl
  where
    by_test : (b : Bool) → nat_le u 2949120 ≡ b → pos 0 ≤ℤ (if b then small_cosine u else small_sine (5898240 - u))
    by_test true e = omega (arith, ints, small_cosine_some u (le_test u 2949120 e))
    by_test false e = small_sine_low (5898240 - u) (omega (arith, above_test u 2949120 e, less))

turn_of : (a : ℕ) → a < 23592960 → in_turn (pos a) ≡ a
turn_of a less = omega (arith, ints)

sine_at : (a : ℕ) → a < 5898240 → sine_of (pos a) ≡ first_sine a
unfolding sine_of
sine_at a less =
    let t = turn_of a (omega (arith, less)) in
    let q : a / 5898240 ≡ 0 = omega (arith, less) in
    let u : a % 5898240 ≡ a = omega (arith, less) in
    rw (t, q, u) refl

cosine_at_less : (a : ℕ) → a < 5898240 → cosine_of (pos a) ≡ first_cosine a
unfolding cosine_of
cosine_at_less a less =
    let t = turn_of a (omega (arith, less)) in
    let q : a / 5898240 ≡ 0 = omega (arith, less) in
    let u : a % 5898240 ≡ a = omega (arith, less) in
    rw (t, q, u) refl

right_sine : sine_of (pos 5898240) ≡ pos 4294967296
unfolding sine_of alternating sine_term cosine_term
right_sine = refl

right_cosine : cosine_of (pos 5898240) ≡ pos 0
unfolding cosine_of alternating sine_term cosine_term
right_cosine = refl

pub sine_some : (a : ℤ) → pos 1 ≤ℤ a → a ≤ℤ pos 5898240 → pos 512 ≤ℤ sine_of a
sine_some (pos a) some le = by_test (nat_eq a 5898240) refl
  where
    by_test : (b : Bool) → nat_eq a 5898240 ≡ b → pos 512 ≤ℤ sine_of (pos a)
    by_test true e = let is : a ≡ 5898240 = grind (arith, nat_tests) in rw (is, right_sine) (omega (arith, ints))
    by_test false e = let less : a < 5898240 = grind (arith, ints, nat_tests) in rw (sine_at a less) (first_sine_some a (omega (arith, ints, some)) less)
sine_some (negsuc a) some le = absurd (omega (arith, ints, some))

pub cosine_low_to_right : (a : ℤ) → pos 0 ≤ℤ a → a ≤ℤ pos 5898240 → pos 0 ≤ℤ cosine_of a
cosine_low_to_right (pos a) some le = by_test (nat_eq a 5898240) refl
  where
    by_test : (b : Bool) → nat_eq a 5898240 ≡ b → pos 0 ≤ℤ cosine_of (pos a)
    by_test true e = let is : a ≡ 5898240 = grind (arith, nat_tests) in rw (is, right_cosine) (omega (arith, ints))
    by_test false e = let less : a < 5898240 = grind (arith, ints, nat_tests) in rw (cosine_at_less a less) (first_cosine_low a less)
cosine_low_to_right (negsuc a) some le = absurd (omega (arith, ints, some))

-- ---- none is above 1

cosine_high : (x : ℤ) → pos 0 ≤ℤ x → x ≤ℤ pos 4294967296 → alternating (cosine_term x) 6 ≤ℤ pos 4294967296
unfolding cosine_term
cosine_high x low high = (falling (cosine_term x) 6 (cosine_low x low high) (cosine_falls x low high)).1

sine_high : (x : ℤ) → pos 0 ≤ℤ x → x ≤ℤ pos 4294967296 → alternating (sine_term x) 6 ≤ℤ pos 4294967296
unfolding sine_term
sine_high x low high = omega (arith, ints, high, (falling (sine_term x) 6 (sine_low x low high) (sine_falls x low high)).1)

first_cosine_high : (u : ℕ) → u < 5898240 → first_cosine u ≤ℤ pos 4294967296
first_cosine_high u less = by_test (nat_le u 2949120) refl
  where
    by_test : (b : Bool) → nat_le u 2949120 ≡ b → (if b then small_cosine u else small_sine (5898240 - u)) ≤ℤ pos 4294967296
    by_test true e = cosine_high (radians u) (radians_low u) (radians_high u (le_test u 2949120 e))
    by_test false e = sine_high (radians (5898240 - u)) (radians_low (5898240 - u)) (radians_high (5898240 - u) (omega (arith, above_test u 2949120 e, less)))

pub cosine_high_to_right : (a : ℤ) → pos 0 ≤ℤ a → a ≤ℤ pos 5898240 → cosine_of a ≤ℤ pos 4294967296
cosine_high_to_right (pos a) some le = by_test (nat_eq a 5898240) refl
  where
    by_test : (b : Bool) → nat_eq a 5898240 ≡ b → cosine_of (pos a) ≤ℤ pos 4294967296
    by_test true e = let is : a ≡ 5898240 = grind (arith, nat_tests) in rw (is, right_cosine) (omega (arith, ints))
    by_test false e = let less : a < 5898240 = grind (arith, ints, nat_tests) in rw (cosine_at_less a less) (first_cosine_high a less)
cosine_high_to_right (negsuc a) some le = absurd (omega (arith, ints, some))

-- the cosine with 16 fraction bits is from 0 to 1
pub cosine_amount : (a : ℤ) → IsAmount 5898240 a → IsAmount 65536 (cosine_at a)
cosine_amount a is =
    let high : a ≤ℤ pos 5898240 = omega (arith, ints, is.high) in
    let low = cosine_low_to_right a is.low high in
    record {
      low = rnd_not_negative (cosine_of a) (pos 65536) (omega (arith, ints)) low;
      high = rnd_within (cosine_of a) 65536 65536 (omega arith) (omega (arith, ints, low, cosine_high_to_right a is.low high));
    }
