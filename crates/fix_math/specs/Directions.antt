-- Vectors of length 1 unit.
use Rattle.std.specs.Prelude.{ℕ, ℤ, Bool, ◌&&◌, List, pos, ◌*ℤ◌, ◌*◌, ◌^◌, unsigned_abs, nat_eq, max, if◌then◌else◌}
use Rattle.fix_math.specs.declared.fix.V3.{V3}
use Rattle.fix_math.specs.Least.{least_below}
use Rattle.fix_math.specs.Matrices.{component}
use Rattle.fix_math.specs.Numbers.{rnd, shortened, is_raw}
use Rattle.fix_math.specs.Roots.{root}
use Rattle.fix_math.specs.Vectors.{dot_of}

-- a vector's length with 16 fraction bits more than a raw number has: 0 for the zero vector alone
abbrev pub long_length_of : V3 → ℕ
long_length_of v = root (unsigned_abs (dot_of v v) * 2 ^ 32)

-- the vector of length 1 unit in the same direction, each component rounded once; <0, 0, 1> for the zero vector
abbrev pub unit_of : V3 → V3
unit_of v =
    if nat_eq (long_length_of v) 0 then record { x = pos 0; y = pos 0; z = pos 65536 }
    else record {
      x = rnd (v.x *ℤ pos (2 ^ 32)) (pos (long_length_of v));
      y = rnd (v.y *ℤ pos (2 ^ 32)) (pos (long_length_of v));
      z = rnd (v.z *ℤ pos (2 ^ 32)) (pos (long_length_of v));
    }

-- the size of the greatest component
abbrev pub greatest_of : V3 → ℕ
greatest_of v = max (max (unsigned_abs v.x) (unsigned_abs v.y)) (unsigned_abs v.z)

-- ---- vectors of components that may be larger than a raw number

-- the size of the greatest component
abbrev pub widest_of : List ℤ → ℕ
widest_of v = max (max (unsigned_abs (component v 0)) (unsigned_abs (component v 1))) (unsigned_abs (component v 2))

-- without so many bits, each component is a raw number
abbrev pub are_raw : List ℤ → ℕ → Bool
are_raw v bits =
    is_raw (shortened (component v 0) bits) && (is_raw (shortened (component v 1) bits) && is_raw (shortened (component v 2) bits))

-- the least number of bits without which each component is a raw number
abbrev pub excess_of : List ℤ → ℕ
excess_of v = least_below (are_raw v) 128

-- the vector of length 1 unit in the direction of a vector of wide components
abbrev pub unit_wide_of : List ℤ → V3
unit_wide_of v = unit_of (record {
  x = shortened (component v 0) (excess_of v);
  y = shortened (component v 1) (excess_of v);
  z = shortened (component v 2) (excess_of v);
})
