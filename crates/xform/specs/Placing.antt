-- Placing: a transform, the axes of an object and its middle in one, with bits enough for the object's extent.
use Rattle.std.specs.Prelude.{◌≡◌, ℕ, ℤ, pos, ◌+ℤ◌, ◌-ℤ◌, ◌+◌, ◌-◌, ◌^◌, ◌≤◌, ◌<◌, List, [], ◌∷◌, Result, Ok, Err, if◌then◌else◌, min, nat_lt, nat_le, unsigned_abs}
use Rattle.fix_math.specs.declared.fix.V3.{V3}
use Rattle.fix_math.specs.Directions.{unit_of}
use Rattle.fix_math.specs.Least.{least_below}
use Rattle.fix_math.specs.Matrices.{entry, component, along, vector, row_of, matrix, is_vector_within, IsMatrixWithin, IsVectorWithin}
use Rattle.fix_math.specs.Numbers.{shortened}
use Rattle.fix_math.specs.Vectors.{dot, cross_of}
use Rattle.xform.specs.declared.transform.Spot.{Spot}
use Rattle.xform.specs.declared.transform.Xform.{Xform}
use Rattle.xform.specs.declared.transform.XformFault.{XformFault}
use Rattle.xform.specs.declared.transform.XformFault.TheVariants.{AnchorRange}
use Rattle.xform.specs.Products.{times, times_turned}
use Rattle.xform.specs.Transforms.{identity, point_of}

-- the number of binary digits of w
abbrev pub digits_of : ℕ → ℕ
digits_of w = least_below (λ g. nat_lt w (2 ^ g)) 64

-- the scaling that the digits of an object's extent leave room for
abbrev pub exponent_of : ℕ → ℕ
exponent_of w = min 32 (45 - digits_of w)

-- from the world to the object's axes
abbrev pub to_object : Xform → List (List ℤ) → ℕ → List (List ℤ)
to_object x frame e = matrix (λ i j. shortened (times frame x.n i j) (48 - e))

-- and back
abbrev pub to_world : Xform → List (List ℤ) → List (List ℤ)
to_world x frame = matrix (λ i j. shortened (times_turned x.m frame i j) 16)

-- what the two matrices, one after the other, differ by from moving nothing
abbrev pub residual_of : ℕ → List (List ℤ) → List (List ℤ) → List (List ℤ)
residual_of e m n = matrix (λ i j. entry (identity (pos (2 ^ (32 + e)))) i j -ℤ times m n i j)

-- an entry of a row of the residual, by the columns of n
abbrev pub residual_entry : List ℤ → List ℤ → List (List ℤ) → ℕ → ℤ
residual_entry whole a columns j = component whole j -ℤ dot (component a) (entry columns j)

abbrev pub spot_at : Xform → List (List ℤ) → V3 → ℕ → Spot
spot_at x frame anchor e = record {
  anchor = anchor;
  e = e;
  n = to_object x frame e;
  m = to_world x frame;
  residual = residual_of e (to_world x frame) (to_object x frame e);
}

-- a point of the world is at most 4096 units from its middle along each axis
abbrev pub in_world : V3 → Result V3 XformFault
in_world p = if is_vector_within (2 ^ 28) p then Ok p else Err AnchorRange

abbrev pub with_anchor : Result V3 XformFault → (V3 → Spot) → Result Spot XformFault
with_anchor (Ok anchor) spot = Ok (spot anchor)
with_anchor (Err fault) spot = Err fault

-- the placing of an object whose middle is c, where that lies in the world
abbrev pub spot_of : Xform → List (List ℤ) → V3 → ℕ → Result Spot XformFault
spot_of x frame c extent =
    with_anchor (in_world (vector (point_of x c))) (λ anchor. spot_at x frame anchor (exponent_of extent))

-- what each spot has: m n and the residual together move nothing, exactly, in each row and column
pub record IsSpot (s : Spot) : Type 0 where
  pub least : 14 ≤ s.e
  pub most : s.e ≤ 32
  pub anchor : IsVectorWithin (2 ^ 28) s.anchor
  pub n : IsMatrixWithin (2 ^ 46) s.n
  pub m : IsMatrixWithin (2 ^ 46) s.m
  pub equation : (i j : ℕ) → i < 3 → j < 3 → times s.m s.n i j +ℤ entry s.residual i j ≡ entry (identity (pos (2 ^ (32 + s.e)))) i j

-- the frame of an axis: its third row is the axis, and the first two stand across it

-- 1 unit along the coordinate axis on which a has its least component in size, the first of equal ones
abbrev pub least_axis : V3 → V3
least_axis a =
    if nat_le (unsigned_abs a.x) (min (unsigned_abs a.y) (unsigned_abs a.z)) then record { x = pos 65536; y = pos 0; z = pos 0 }
    else if nat_le (unsigned_abs a.y) (unsigned_abs a.z) then record { x = pos 0; y = pos 65536; z = pos 0 }
    else record { x = pos 0; y = pos 0; z = pos 65536 }

abbrev pub frame_of : V3 → V3 → V3 → List (List ℤ)
frame_of first second third = row_of (along first) ∷ row_of (along second) ∷ row_of (along third) ∷ []

unfoldable pub axis_frame_of : V3 → List (List ℤ)
axis_frame_of v =
    let a = unit_of v in
    let first = unit_of (cross_of (least_axis a) a) in
    frame_of first (unit_of (cross_of a first)) a
