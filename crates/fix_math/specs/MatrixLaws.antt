-- Sizes of the components of vectors and matrices, and of their products.
use Rattle.std.specs.Prelude.{◌≡◌, ℕ, zero, suc, ℤ, ◌+ℤ◌, ◌-ℤ◌, ◌*ℤ◌, ◌+◌, ◌*◌, ◌≤◌, ◌<◌, List, unsigned_abs, refl}
use Rattle.std.proofs.Common.{arith}
use Rattle.std.proofs.lemmas.Int.{ints}
use Rattle.fix_math.specs.Matrices.{component, row_at, entry, row_of, matrix, IsRowWithin, IsMatrixWithin}
use Rattle.fix_math.specs.Order.{mul-within, sub-within}
use Rattle.fix_math.specs.Vectors.{dot, cross}

pub component_within : (v : List ℤ) (most j : ℕ) → IsRowWithin most v → j < 3 → unsigned_abs (component v j) ≤ most
component_within v most zero h lt = h.first
component_within v most (suc zero) h lt = h.second
component_within v most (suc (suc zero)) h lt = h.third
component_within v most (suc (suc (suc j))) h lt = absurd (omega arith)

pub row_within : (m : List (List ℤ)) (most i : ℕ) → IsMatrixWithin most m → i < 3 → IsRowWithin most (row_at m i)
row_within m most zero h lt = h.first
row_within m most (suc zero) h lt = h.second
row_within m most (suc (suc zero)) h lt = h.third
row_within m most (suc (suc (suc i))) h lt = absurd (omega arith)

pub entry_within : (m : List (List ℤ)) (most i j : ℕ) → IsMatrixWithin most m → i < 3 → j < 3 → unsigned_abs (entry m i j) ≤ most
entry_within m most i j h i_in j_in = component_within (row_at m i) most j (row_within m most i h i_in) j_in

pub matrix_within : (f : ℕ → ℕ → ℤ) (most : ℕ) → ((i j : ℕ) → i < 3 → j < 3 → unsigned_abs (f i j) ≤ most) → IsMatrixWithin most (matrix f)
matrix_within f most h = record {
  first = record { first = h 0 0 (omega arith) (omega arith); second = h 0 1 (omega arith) (omega arith); third = h 0 2 (omega arith) (omega arith) };
  second = record { first = h 1 0 (omega arith) (omega arith); second = h 1 1 (omega arith) (omega arith); third = h 1 2 (omega arith) (omega arith) };
  third = record { first = h 2 0 (omega arith) (omega arith); second = h 2 1 (omega arith) (omega arith); third = h 2 2 (omega arith) (omega arith) };
}

pub IsRowWithin-weaker : (v : List ℤ) (most more : ℕ) → most ≤ more → IsRowWithin most v → IsRowWithin more v
IsRowWithin-weaker v most more le h =
    record { first = omega (arith, h.first); second = omega (arith, h.second); third = omega (arith, h.third) }

pub IsMatrixWithin-weaker : (m : List (List ℤ)) (most more : ℕ) → most ≤ more → IsMatrixWithin most m → IsMatrixWithin more m
IsMatrixWithin-weaker m most more le h = record {
  first = IsRowWithin-weaker (row_at m 0) most more le h.first;
  second = IsRowWithin-weaker (row_at m 1) most more le h.second;
  third = IsRowWithin-weaker (row_at m 2) most more le h.third;
}

-- the entries of a matrix that is made by its entries
pub entry-matrix : (f : ℕ → ℕ → ℤ) (i j : ℕ) → i < 3 → j < 3 → entry (matrix f) i j ≡ f i j
entry-matrix f zero zero a b = refl
entry-matrix f zero (suc zero) a b = refl
entry-matrix f zero (suc (suc zero)) a b = refl
entry-matrix f zero (suc (suc (suc j))) a b = absurd (omega arith)
entry-matrix f (suc zero) zero a b = refl
entry-matrix f (suc zero) (suc zero) a b = refl
entry-matrix f (suc zero) (suc (suc zero)) a b = refl
entry-matrix f (suc zero) (suc (suc (suc j))) a b = absurd (omega arith)
entry-matrix f (suc (suc zero)) zero a b = refl
entry-matrix f (suc (suc zero)) (suc zero) a b = refl
entry-matrix f (suc (suc zero)) (suc (suc zero)) a b = refl
entry-matrix f (suc (suc zero)) (suc (suc (suc j))) a b = absurd (omega arith)
entry-matrix f (suc (suc (suc i))) j a b = absurd (omega arith)

sum_within : (x y z : ℤ) (most : ℕ) → unsigned_abs x ≤ most → unsigned_abs y ≤ most → unsigned_abs z ≤ most → unsigned_abs (x +ℤ y +ℤ z) ≤ 3 * most
sum_within x y z most a b c = omega (arith, ints)

-- the size of a dot product, from the sizes of the components
pub dot_within : (f g : ℕ → ℤ) (p q : ℕ) → ((k : ℕ) → k < 3 → unsigned_abs (f k) ≤ p) → ((k : ℕ) → k < 3 → unsigned_abs (g k) ≤ q) → unsigned_abs (dot f g) ≤ 3 * (p * q)
dot_within f g p q h k =
    sum_within (f 0 *ℤ g 0) (f 1 *ℤ g 1) (f 2 *ℤ g 2) (p * q)
    (mul-within (f 0) (g 0) p q (h 0 (omega arith)) (k 0 (omega arith)))
    (mul-within (f 1) (g 1) p q (h 1 (omega arith)) (k 1 (omega arith)))
    (mul-within (f 2) (g 2) p q (h 2 (omega arith)) (k 2 (omega arith)))

pub row_dot_within : (u w : List ℤ) (p q : ℕ) → IsRowWithin p u → IsRowWithin q w → unsigned_abs (dot (component u) (component w)) ≤ 3 * (p * q)
row_dot_within u w p q h k = dot_within (component u) (component w) p q (λ i. component_within u p i h) (λ i. component_within w q i k)

-- the order of the two doesn't matter
pub dot-turned : (f g : ℕ → ℤ) → dot f g ≡ dot g f
dot-turned f g = omega (arith, ints)

minor_within : (a b c d : ℤ) (p q : ℕ) → unsigned_abs a ≤ p → unsigned_abs b ≤ q → unsigned_abs c ≤ p → unsigned_abs d ≤ q → unsigned_abs (a *ℤ b -ℤ c *ℤ d) ≤ p * q + p * q
minor_within a b c d p q ha hb hc hd = sub-within (a *ℤ b) (c *ℤ d) (p * q) (p * q) (mul-within a b p q ha hb) (mul-within c d p q hc hd)

-- and of a cross product
pub cross_within : (u w : List ℤ) (p q : ℕ) → IsRowWithin p u → IsRowWithin q w → IsRowWithin (p * q + p * q) (row_of (cross (component u) (component w)))
cross_within u w p q h k = record {
  first = minor_within (component u 1) (component w 2) (component u 2) (component w 1) p q h.second k.third h.third k.second;
  second = minor_within (component u 2) (component w 0) (component u 0) (component w 2) p q h.third k.first h.first k.third;
  third = minor_within (component u 0) (component w 1) (component u 1) (component w 0) p q h.first k.second h.second k.first;
}
