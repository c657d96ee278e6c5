-- Transforms (POV-Ray manual, 'Transformations'). m takes a point of the object to one of the world, relative to the anchor; n takes it back.
-- Entries of m and n have 32 fraction bits, so 1 is 2 ^ 32.
use Rattle.std.specs.Prelude.{ℕ, ℤ, pos, ◌+ℤ◌, ◌*ℤ◌, ◌+◌, ◌*◌, ◌^◌, List, [], ◌∷◌, Bool, ◌&&◌, ◌||◌, Result, Ok, Err, if◌then◌else◌}
use Rattle.std.specs.Ordering.{int_eq}
use Rattle.fix_math.specs.declared.fix.V3.{V3}
use Rattle.fix_math.specs.Matrices.{component, entry, along, vector, matrix, image, is_matrix_within, is_vector_within, IsMatrixWithin, IsVectorWithin}
use Rattle.fix_math.specs.Numbers.{shortened, quotient}
use Rattle.fix_math.specs.Rotations.{about_x, about_y, about_z}
use Rattle.xform.specs.declared.transform.Xform.{Xform}
use Rattle.xform.specs.declared.transform.Step.{Step}
use Rattle.xform.specs.declared.transform.Step.TheVariants.{Translate, Scale, Rotate, Matrix}
use Rattle.xform.specs.declared.transform.XformFault.{XformFault}
use Rattle.xform.specs.declared.transform.XformFault.TheVariants.{Singular, EntryRange, AnchorRange}
use Rattle.xform.specs.Products.{times, times_turned, adjugate_at, determinant}

abbrev pub identity : ℤ → List (List ℤ)
identity one = (one ∷ pos 0 ∷ pos 0 ∷ []) ∷ (pos 0 ∷ one ∷ pos 0 ∷ []) ∷ (pos 0 ∷ pos 0 ∷ one ∷ []) ∷ []

-- the transform that moves nothing
abbrev pub start_of : Xform
start_of = record { m = identity (pos (2 ^ 32)); n = identity (pos (2 ^ 32)); anchor = record { x = pos 0; y = pos 0; z = pos 0 } }

-- the image of a direction: each component's sum is exact before its one rounding
abbrev pub direction_of : Xform → V3 → ℕ → ℤ
direction_of x v i = shortened (image x.m v i) 32

-- the image of a point
abbrev pub point_of : Xform → V3 → ℕ → ℤ
point_of x c i = along x.anchor i +ℤ direction_of x c i

abbrev pub translated : Xform → V3 → Xform
translated x t = record { m = x.m; n = x.n; anchor = vector (λ i. along x.anchor i +ℤ along t i) }

abbrev pub scaled_inverse : ℤ → ℤ → ℤ
scaled_inverse entry s = quotient (entry *ℤ pos 65536) s

abbrev pub scaled : Xform → V3 → Xform
scaled x s = record {
  m = matrix (λ i j. shortened (along s i *ℤ entry x.m i j) 16);
  n = matrix (λ i j. scaled_inverse (entry x.n i j) (along s j));
  anchor = vector (λ i. shortened (along s i *ℤ along x.anchor i) 16);
}

-- turned by a rotation, whose inverse is the same matrix with rows for columns
abbrev pub turned : Xform → List (List ℤ) → Xform
turned x r = record {
  m = matrix (λ i j. shortened (times r x.m i j) 32);
  n = matrix (λ i j. shortened (times_turned x.n r i j) 32);
  anchor = vector (λ i. shortened (image r x.anchor i) 32);
}

-- the twelve numbers of a matrix stand column by column, and the last three are a translation
abbrev pub linear_part : List ℤ → List (List ℤ)
linear_part v = matrix (λ i j. component v (3 * j + i))

abbrev pub translation_part : List ℤ → V3
translation_part v = vector (λ i. component v (9 + i))

-- the inverse of a matrix with 16 fraction bits, with 32
abbrev pub inverse_entry : ℤ → ℤ → ℤ
inverse_entry minor det = quotient (minor *ℤ pos (2 ^ 48)) det

abbrev pub inverse_of : List (List ℤ) → List (List ℤ)
inverse_of g = matrix (λ i j. inverse_entry (adjugate_at g i j) (determinant g))

abbrev pub multiplied : Xform → List (List ℤ) → List (List ℤ) → V3 → Xform
multiplied x g inverse t = record {
  m = matrix (λ i j. shortened (times g x.m i j) 16);
  n = matrix (λ i j. shortened (times x.n inverse i j) 32);
  anchor = vector (λ i. shortened (image g x.anchor i) 16 +ℤ along t i);
}

-- an anchor lies in the world: at most 4096 units from the middle along each axis
abbrev pub anchored : Xform → Result Xform XformFault
anchored x = if is_vector_within (2 ^ 28) x.anchor then Ok x else Err AnchorRange

-- and before that, a transform's entries are at most 2 ^ 44 in size
abbrev pub have_range : List (List ℤ) → List (List ℤ) → Bool
have_range m n = is_matrix_within (2 ^ 44) m && is_matrix_within (2 ^ 44) n

abbrev pub checked : Xform → Result Xform XformFault
checked x = if have_range x.m x.n then anchored x else Err EntryRange

-- a next step, or the fault of the one before
abbrev pub after : {A : Type 0} → Result A XformFault → (A → Result Xform XformFault) → Result Xform XformFault
after (Ok x) next = next x
after (Err fault) next = Err fault

abbrev pub has_zero : V3 → Bool
has_zero s = int_eq s.x (pos 0) || (int_eq s.y (pos 0) || int_eq s.z (pos 0))

abbrev pub then_scaled : Xform → V3 → Result Xform XformFault
then_scaled x s = if has_zero s then Err Singular else checked (scaled x s)

abbrev pub rotated : Xform → V3 → Result Xform XformFault
rotated x v =
    after (checked (turned x (about_x v.x)))
    (λ x. after (checked (turned x (about_y v.y))) (λ x. checked (turned x (about_z v.z))))

abbrev pub small_inverse : List (List ℤ) → Result (List (List ℤ)) XformFault
small_inverse inverse = if is_matrix_within (2 ^ 60) inverse then Ok (matrix (entry inverse)) else Err EntryRange

-- the inverse of a matrix, where there is one that is small enough
abbrev pub inverted : List (List ℤ) → Result (List (List ℤ)) XformFault
inverted g = if int_eq (determinant g) (pos 0) then Err Singular else small_inverse (inverse_of g)

abbrev pub by_linear : Xform → List (List ℤ) → V3 → Result Xform XformFault
by_linear x g t = after (inverted g) (λ inverse. checked (multiplied x g inverse t))

abbrev pub by_matrix : Xform → List ℤ → Result Xform XformFault
by_matrix x v =
    if is_matrix_within (2 ^ 38) (linear_part v) then by_linear x (linear_part v) (translation_part v) else Err EntryRange

-- a transform and a further step
unfoldable pub then_of : Xform → Step → Result Xform XformFault
then_of x (Translate t) = checked (translated x t)
then_of x (Scale s) = then_scaled x s
then_of x (Rotate v) = rotated x v
then_of x (Matrix v) = by_matrix x v

-- the steps in their order
unfoldable pub composed_from : Xform → List Step → Result Xform XformFault
composed_from x [] = Ok x
composed_from x (step ∷ steps) = after (then_of x step) (λ y. composed_from y steps)

-- what `start` and each answer of `then` have
pub record IsPlaced (x : Xform) : Type 0 where
  pub m : IsMatrixWithin (2 ^ 44) x.m
  pub n : IsMatrixWithin (2 ^ 44) x.n
  pub anchor : IsVectorWithin (2 ^ 28) x.anchor
