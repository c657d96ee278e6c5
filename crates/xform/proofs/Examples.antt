-- What a crate above has of an object's place by the laws on places.
use Rattle.std.specs.Prelude.{◌≡◌, ℕ, ℤ, pos, ◌-ℤ◌, ◌*ℤ◌, ◌+◌, ◌*◌, ◌^◌, ◌≤◌, ◌<◌, Ok, unsigned_abs}
use Rattle.fix_math.specs.declared.fix.V3.{V3}
use Rattle.fix_math.specs.Directions.{unit_of}
use Rattle.fix_math.specs.Matrices.{entry, along, row_at, row_of, IsMatrixWithin}
use Rattle.fix_math.specs.MatrixLaws.{entry_within}
use Rattle.fix_math.specs.Vectors.{dot}
use Rattle.xform.specs.declared.transform.Spot.{Spot}
use Rattle.xform.specs.declared.transform.Xform.{Xform}
use Rattle.xform.specs.Placing.{spot_of, axis_frame_of}
use Rattle.xform.specs.SpotLaws.{placing_of, axis_frame_within, nearly_back, third_row, IsPlacingOf}
use Rattle.xform.specs.Transforms.{IsPlaced}

-- an object with an axis v, a middle c and an extent w: it has a spot, and bits enough
with_axis : (x : Xform) (v c : V3) (w : ℕ) (s : Spot) → IsPlaced x → w ≤ 2 ^ 30 → spot_of x (axis_frame_of v) c w ≡ Ok s → IsPlacingOf w s
with_axis x v c w s placed small is = placing_of x (axis_frame_of v) c w s placed (axis_frame_within v) small is

-- the axis that a cone is told by is the third row of its frame
axis_is : (v : V3) → row_at (axis_frame_of v) 2 ≡ row_of (along (unit_of v))
axis_is v = third_row v

-- how far a point of the world may be from what its place along the axes tells of it
box_room : (x : Xform) (v c : V3) (w : ℕ) (s : Spot) → IsPlaced x → w ≤ 2 ^ 30 → spot_of x (axis_frame_of v) c w ≡ Ok s → IsMatrixWithin (2 ^ 78) s.residual
    → (u : ℕ → ℤ) → ((k : ℕ) → k < 3 → unsigned_abs (u k) ≤ 2 ^ 45) → (i : ℕ) → i < 3
    → unsigned_abs (pos (2 ^ (32 + s.e)) *ℤ u i -ℤ dot (entry s.m i) (λ k. dot (entry s.n k) u)) ≤ 3 * (2 ^ 78 * 2 ^ 45)
box_room x v c w s placed small is left u near i lt =
    nearly_back s (with_axis x v c w s placed small is).spot u i lt (2 ^ 45) (2 ^ 78) near (λ k k_in. entry_within s.residual (2 ^ 78) i k left lt k_in)
