-- Products of matrices of three rows and three columns, exactly, and inverses.
use Rattle.std.specs.Prelude.{ℕ, ℤ, ◌*ℤ◌, List}
use Rattle.fix_math.specs.Matrices.{entry, sum3}
use Rattle.fix_math.specs.Vectors.{next, cross, dot}

-- the entries of a product
abbrev pub times : List (List ℤ) → List (List ℤ) → ℕ → ℕ → ℤ
times a b i j = dot (entry a i) (λ k. entry b k j)

-- the same where the rows of b stand for its columns
abbrev pub times_turned : List (List ℤ) → List (List ℤ) → ℕ → ℕ → ℤ
times_turned a b i j = dot (entry a i) (entry b j)

-- the adjugate: the matrix whose product with g is g's determinant times the identity; its columns are the cross products of g's rows
abbrev pub adjugate_at : List (List ℤ) → ℕ → ℕ → ℤ
adjugate_at g i j = cross (entry g (next j)) (entry g (next (next j))) i

abbrev pub determinant : List (List ℤ) → ℤ
determinant g = sum3 (λ k. entry g 0 k *ℤ adjugate_at g k 0)
