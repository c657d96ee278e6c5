-- At which numbers a ray is between two raw numbers along an axis, to 2^-15 of them.
use Rattle.std.specs.Prelude.{ℕ, ℤ, pos, List, ◌*◌, ◌-◌, ◌^◌, ◌<◌, ◌-ℤ◌, ◌*ℤ◌, ◌≤ℤ◌}
use Rattle.shapes.specs.Rays.{coordinate_at}
use Rattle.shapes.specs.declared.ray.Ray.{Ray}
use Rattle.box_probe.specs.declared.probe.Slope.{Slope}
use Rattle.box_probe.specs.declared.probe.Share.{Share}
use Rattle.box_probe.specs.declared.probe.Probe.{Probe}
use Rattle.box_probe.specs.Boxes.{IsBetween, corner_of}

-- where a raw number is passed, by a share
abbrev pub passed_of : Share → ℤ → ℤ
passed_of s corner = (corner *ℤ s.by) -ℤ s.from

-- where a stretch is entered and left
abbrev pub near_of : Slope → List ℤ → ℤ
near_of s corners = passed_of s.near (corner_of corners s.first)

abbrev pub far_of : Slope → List ℤ → ℤ
far_of s corners = passed_of s.far (corner_of corners (1 - s.first))

-- a number of a ray, counted in 2^-15
abbrev pub fine : ℕ → ℤ
fine t = pos (t * 2 ^ 15)

-- a slope tells of a coordinate no later entry and no earlier exit than there is: at each number at which it is in a stretch
pub record IsSlope (s : Slope) (o d : ℤ) : Type 0 where
  pub near : (corners : List ℤ) (t : ℕ) → t < 2 ^ 31 → IsBetween (corner_of corners 0) (corner_of corners 1) (coordinate_at o d t) → near_of s corners ≤ℤ fine t
  pub far : (corners : List ℤ) (t : ℕ) → t < 2 ^ 31 → IsBetween (corner_of corners 0) (corner_of corners 1) (coordinate_at o d t) → fine t ≤ℤ far_of s corners

-- and of a ray's three coordinates
pub record IsProbe (p : Probe) (ray : Ray) : Type 0 where
  pub x : IsSlope p.x ray.origin.x ray.dir.x
  pub y : IsSlope p.y ray.origin.y ray.dir.y
  pub z : IsSlope p.z ray.origin.z ray.dir.z
