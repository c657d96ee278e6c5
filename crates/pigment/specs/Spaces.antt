-- A point of the world in the space of a pattern.
use Rattle.std.specs.Prelude.{ℕ, ℤ, pos, ◌-ℤ◌, ◌*ℤ◌, List}
use Rattle.fix_math.specs.declared.fix.V3.{V3}
use Rattle.fix_math.specs.Matrices.{component, entry, along, vector}
use Rattle.fix_math.specs.Numbers.{shortened}
use Rattle.fix_math.specs.Vectors.{dot}
use Rattle.xform.specs.declared.transform.Xform.{Xform}

-- a point as seen from an anchor, in units of 2^-32
abbrev pub seen_from : V3 → List ℤ → ℕ → ℤ
seen_from anchor p j = component p j -ℤ pos 65536 *ℤ along anchor j

-- and back through the transform, in raw numbers: each sum is exact before its one rounding
abbrev pub in_pattern : Xform → List ℤ → V3
in_pattern x p = vector (λ i. shortened (dot (entry x.n i) (seen_from x.anchor p)) 48)
