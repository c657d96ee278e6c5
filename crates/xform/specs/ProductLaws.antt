-- Sizes of the entries of products.
use Rattle.std.specs.Prelude.{ℕ, ◌*◌, ◌≤◌, ◌<◌, List, ℤ, unsigned_abs}
use Rattle.fix_math.specs.MatrixLaws.{entry_within, dot_within}
use Rattle.fix_math.specs.Matrices.{entry, IsMatrixWithin}
use Rattle.xform.specs.Products.{times, times_turned}

pub times_within : (a b : List (List ℤ)) (p q i j : ℕ) → IsMatrixWithin p a → IsMatrixWithin q b → i < 3 → j < 3 → unsigned_abs (times a b i j) ≤ 3 * (p * q)
times_within a b p q i j h g i_in j_in =
    dot_within (entry a i) (λ k. entry b k j) p q (λ k k_in. entry_within a p i k h i_in k_in) (λ k k_in. entry_within b q k j g k_in j_in)

pub times_turned_within : (a b : List (List ℤ)) (p q i j : ℕ) → IsMatrixWithin p a → IsMatrixWithin q b → i < 3 → j < 3 → unsigned_abs (times_turned a b i j) ≤ 3 * (p * q)
times_turned_within a b p q i j h g i_in j_in =
    dot_within (entry a i) (entry b j) p q (λ k k_in. entry_within a p i k h i_in k_in) (λ k k_in. entry_within b q j k g j_in k_in)
