-- Boxes of raw numbers.
use Rattle.std.specs.Prelude.{ℕ, ℤ, pos, List, slice_index_or, ◌*ℤ◌, ◌≤ℤ◌}
use Rattle.shapes.specs.Rays.{Position}
use Rattle.box_probe.specs.declared.bounds.Bounds.{Bounds}

-- the lower and the upper end along an axis are its corners 0 and 1
abbrev pub corner_of : List ℤ → ℕ → ℤ
corner_of corners place = slice_index_or corners place (pos 0)

-- a coordinate from one raw number to another, with both
pub record IsBetween (low high coordinate : ℤ) : Type 0 where
  pub above : (pos 65536 *ℤ low) ≤ℤ coordinate
  pub below : coordinate ≤ℤ (pos 65536 *ℤ high)

-- a point is in a box
pub record IsInBounds (b : Bounds) (p : Position) : Type 0 where
  pub x : IsBetween (corner_of b.x 0) (corner_of b.x 1) p.x
  pub y : IsBetween (corner_of b.y 0) (corner_of b.y 1) p.y
  pub z : IsBetween (corner_of b.z 0) (corner_of b.z 1) p.z
