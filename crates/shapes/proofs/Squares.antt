-- Sums of squares fit.
use Rattle.std.proofs.Common.{ℤ, pos, ◌≤◌, ◌<◌, ◌^◌, ◌+ℤ◌, ◌-ℤ◌, ◌≤ℤ◌, arith, unsigned_abs}
use Rattle.std.proofs.lemmas.Int.{ints}

pub small_sum : (x y : ℤ) → pos 0 ≤ℤ x → pos 0 ≤ℤ y → unsigned_abs x ≤ 2 ^ 124 → unsigned_abs y ≤ 2 ^ 124 → unsigned_abs (x +ℤ y) ≤ 2 ^ 125
small_sum x y a b h k = omega (arith, ints)

pub small_rest : (x y r : ℤ) → pos 0 ≤ℤ x → pos 0 ≤ℤ y → pos 0 ≤ℤ r → unsigned_abs x ≤ 2 ^ 124 → unsigned_abs y ≤ 2 ^ 124 → unsigned_abs r ≤ 2 ^ 124 → unsigned_abs (x +ℤ y -ℤ r) < 2 ^ 126
small_rest x y r a b d h k m = omega (arith, ints)

pub small_sum3 : (x y z : ℤ) → pos 0 ≤ℤ x → pos 0 ≤ℤ y → pos 0 ≤ℤ z → unsigned_abs x ≤ 2 ^ 124 → unsigned_abs y ≤ 2 ^ 124 → unsigned_abs z ≤ 2 ^ 124 → unsigned_abs (x +ℤ y +ℤ z) < 2 ^ 126
small_sum3 x y z a b d h k m = omega (arith, ints)

pub small_rest3 : (x y z r : ℤ) → pos 0 ≤ℤ x → pos 0 ≤ℤ y → pos 0 ≤ℤ z → pos 0 ≤ℤ r → unsigned_abs x ≤ 2 ^ 124 → unsigned_abs y ≤ 2 ^ 124 → unsigned_abs z ≤ 2 ^ 124 → unsigned_abs r ≤ 2 ^ 124 → unsigned_abs (x +ℤ y +ℤ z -ℤ r) < 2 ^ 126
small_rest3 x y z r a b d e h k m n = omega (arith, ints)
