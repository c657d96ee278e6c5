-- Products and lengths of vectors, exactly, and what rounds them once.
use Rattle.std.specs.Prelude.{ℕ, zero, suc, ℤ, ◌-ℤ◌, ◌*ℤ◌, unsigned_abs}
use Rattle.fix_math.specs.declared.fix.V3.{V3}
use Rattle.fix_math.specs.Matrices.{along, vector, sum3}
use Rattle.fix_math.specs.Numbers.{shortened}
use Rattle.fix_math.specs.Roots.{root}

-- the next number in the circle 0, 1, 2
abbrev pub next : ℕ → ℕ
next zero = 1
next (suc zero) = 2
next (suc (suc _)) = 0

-- the dot product of two vectors by their components
abbrev pub dot : (ℕ → ℤ) → (ℕ → ℤ) → ℤ
dot f g = sum3 (λ k. f k *ℤ g k)

-- a component of their cross product, from the two other ones
abbrev pub cross : (ℕ → ℤ) → (ℕ → ℤ) → ℕ → ℤ
cross f g i = f (next i) *ℤ g (next (next i)) -ℤ f (next (next i)) *ℤ g (next i)

abbrev pub dot_of : V3 → V3 → ℤ
dot_of v w = dot (along v) (along w)

abbrev pub cross_of : V3 → V3 → V3
cross_of v w = vector (cross (along v) (along w))

-- the floor of the length, as a raw number
abbrev pub length_of : V3 → ℕ
length_of v = root (unsigned_abs (dot_of v v))

-- products with 16 fraction bits, each sum of products rounded once
abbrev pub rounded_dot_of : V3 → V3 → ℤ
rounded_dot_of v w = shortened (dot_of v w) 16

abbrev pub rounded_cross_of : V3 → V3 → V3
rounded_cross_of v w = vector (λ i. shortened (cross (along v) (along w) i) 16)
