-- Vectors and matrices by the numbers of their components: x is 0, y is 1, z is 2. A matrix is the list of its three rows.
use Rattle.std.specs.Prelude.{ℕ, zero, suc, ℤ, pos, ◌+ℤ◌, ◌*ℤ◌, ◌≤◌, List, [], ◌∷◌, Bool, ◌&&◌, nat_le, unsigned_abs, slice_index_or}
use Rattle.fix_math.specs.declared.fix.V3.{V3}

-- a row's component
abbrev pub component : List ℤ → ℕ → ℤ
component v i = slice_index_or v i (pos 0)

-- a row of a matrix, and an entry
abbrev pub row_at : List (List ℤ) → ℕ → List ℤ
row_at m i = slice_index_or m i []

abbrev pub entry : List (List ℤ) → ℕ → ℕ → ℤ
entry m i j = component (row_at m i) j

-- a vector's component
abbrev pub along : V3 → ℕ → ℤ
along v zero = v.x
along v (suc zero) = v.y
along v (suc (suc _)) = v.z

-- the vector, the row and the matrix of these components
abbrev pub vector : (ℕ → ℤ) → V3
vector f = record { x = f 0; y = f 1; z = f 2 }

abbrev pub row_of : (ℕ → ℤ) → List ℤ
row_of f = f 0 ∷ f 1 ∷ f 2 ∷ []

abbrev pub matrix : (ℕ → ℕ → ℤ) → List (List ℤ)
matrix f = row_of (f 0) ∷ row_of (f 1) ∷ row_of (f 2) ∷ []

abbrev pub sum3 : (ℕ → ℤ) → ℤ
sum3 f = f 0 +ℤ f 1 +ℤ f 2

abbrev pub every3 : (ℕ → Bool) → Bool
every3 p = p 0 && (p 1 && p 2)

-- the image of a vector, exactly
abbrev pub image : List (List ℤ) → V3 → ℕ → ℤ
image a v i = sum3 (λ k. entry a i k *ℤ along v k)

-- ---- sizes: no component is larger

pub record IsRowWithin (most : ℕ) (v : List ℤ) : Type 0 where
  pub first : unsigned_abs (component v 0) ≤ most
  pub second : unsigned_abs (component v 1) ≤ most
  pub third : unsigned_abs (component v 2) ≤ most

pub record IsMatrixWithin (most : ℕ) (m : List (List ℤ)) : Type 0 where
  pub first : IsRowWithin most (row_at m 0)
  pub second : IsRowWithin most (row_at m 1)
  pub third : IsRowWithin most (row_at m 2)

abbrev pub IsVectorWithin : ℕ → V3 → Type 0
IsVectorWithin most v = IsRowWithin most (row_of (along v))

-- the same as tests
abbrev pub is_row_within : ℕ → List ℤ → Bool
is_row_within most v = every3 (λ i. nat_le (unsigned_abs (component v i)) most)

abbrev pub is_matrix_within : ℕ → List (List ℤ) → Bool
is_matrix_within most m = every3 (λ i. is_row_within most (row_at m i))

abbrev pub is_vector_within : ℕ → V3 → Bool
is_vector_within most v = every3 (λ i. nat_le (unsigned_abs (along v i)) most)
