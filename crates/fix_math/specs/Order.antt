-- The order and the sizes of products of whole numbers.
use Rattle.std.specs.Prelude.{◌≡◌, ℕ, ℤ, pos, negsuc, ◌+ℤ◌, ◌-ℤ◌, ◌*ℤ◌, ◌≤ℤ◌, ◌<ℤ◌, ◌+◌, ◌*◌, ◌≤◌, unsigned_abs}
use Rattle.std.proofs.Common.{arith, mul-le-mul}
use Rattle.std.proofs.Math.Nat.{mul-le-mul_right, le_of_mul-le-mul_right}
use Rattle.std.proofs.lemmas.Int.{ints, unsigned_abs-mul}
use borrow.Author.Differences.{up, down, le_out}

-- a product with a factor that isn't negative keeps the order
pub mul-le_right : (a b k : ℤ) → pos 0 ≤ℤ k → a ≤ℤ b → (a *ℤ k) ≤ℤ (b *ℤ k)
mul-le_right a b (pos k) h le = omega (arith, ints, mul-le-mul_right k (le_out a b le))
mul-le_right a b (negsuc k) h le = absurd (omega (arith, ints))

pub mul-le_left : (a b k : ℤ) → pos 0 ≤ℤ k → a ≤ℤ b → (k *ℤ a) ≤ℤ (k *ℤ b)
mul-le_left a b (pos k) h le = omega (arith, ints, mul-le-mul_right k (le_out a b le))
mul-le_left a b (negsuc k) h le = absurd (omega (arith, ints))

scaled : (a b : ℤ) (k : ℕ) → (a *ℤ pos k) ≤ℤ (b *ℤ pos k) → (up a + down b) * k ≤ (up b + down a) * k
scaled a b k le = omega (arith, ints)

-- a product with a positive factor tells the order
pub le_from_mul-le_right : (a b k : ℤ) → pos 0 <ℤ k → (a *ℤ k) ≤ℤ (b *ℤ k) → a ≤ℤ b
le_from_mul-le_right a b (pos k) h le = omega (arith, ints, le_of_mul-le-mul_right (scaled a b k (omega (arith, ints))) (omega (arith, ints)))
le_from_mul-le_right a b (negsuc k) h le = absurd (omega (arith, ints))

-- a square isn't negative
pub square-not_negative : (a : ℤ) → pos 0 ≤ℤ (a *ℤ a)
square-not_negative a = grind (arith, ints)

-- squares of numbers that aren't negative keep their order
pub square-le : (a b : ℤ) → pos 0 ≤ℤ a → a ≤ℤ b → (a *ℤ a) ≤ℤ (b *ℤ b)
square-le (pos a) (pos b) h le = omega (arith, ints, mul-le-mul (le_out (pos a) (pos b) le) (le_out (pos a) (pos b) le))
square-le (pos a) (negsuc b) h le = absurd (omega (arith, ints))
square-le (negsuc a) b h le = absurd (omega (arith, ints))

-- the square of the size
pub square-size : (a : ℤ) → a *ℤ a ≡ pos (unsigned_abs a * unsigned_abs a)
square-size (pos a) = omega (arith, ints)
square-size (negsuc a) = omega (arith, ints)

-- the size of a product, from the sizes of its factors
pub mul-within : (a b : ℤ) (m n : ℕ) → unsigned_abs a ≤ m → unsigned_abs b ≤ n → unsigned_abs (a *ℤ b) ≤ m * n
mul-within a b m n h k = rw unsigned_abs-mul (mul-le-mul h k)

-- the size of a sum and of a difference
pub add-within : (a b : ℤ) (m n : ℕ) → unsigned_abs a ≤ m → unsigned_abs b ≤ n → unsigned_abs (a +ℤ b) ≤ m + n
add-within a b m n h k = omega (arith, ints)

pub sub-within : (a b : ℤ) (m n : ℕ) → unsigned_abs a ≤ m → unsigned_abs b ≤ n → unsigned_abs (a -ℤ b) ≤ m + n
sub-within a b m n h k = omega (arith, ints)
