-- Sizes that numbers and vectors of a scene may have, in raw numbers: 1 unit is 65536.
use Rattle.std.specs.Prelude.{ℕ, ℤ, pos, ◌≤ℤ◌, ◌≤◌, ◌^◌, List, unsigned_abs}
use Rattle.fix_math.specs.declared.fix.V3.{V3}
use Rattle.fix_math.specs.Directions.{greatest_of}
use Rattle.fix_math.specs.Matrices.{component}

-- a number from 0 to a greatest one
pub record IsAmount (most : ℕ) (z : ℤ) : Type 0 where
  pub low : pos 0 ≤ℤ z
  pub high : unsigned_abs z ≤ most

-- the same of three numbers, as of red, green and blue
pub record AreAmounts (most : ℕ) (c : List ℤ) : Type 0 where
  pub first : IsAmount most (component c 0)
  pub second : IsAmount most (component c 1)
  pub third : IsAmount most (component c 2)

-- a vector whose greatest component is from half a unit to a unit, up to rounding, as those of length 1 unit are
pub record IsDirection (v : V3) : Type 0 where
  pub long : 32768 ≤ greatest_of v
  pub short : greatest_of v ≤ 65537

-- red, green and blue go to 256 units
abbrev pub IsRgb : List ℤ → Type 0
IsRgb c = AreAmounts (2 ^ 24) c

-- and filter and transmit to 1
pub record IsRgbft (c : List ℤ) : Type 0 where
  pub rgb : IsRgb c
  pub filter : IsAmount 65536 (component c 3)
  pub transmit : IsAmount 65536 (component c 4)

-- an index of refraction, from 1/16 to 16
pub record IsIor (z : ℤ) : Type 0 where
  pub low : pos 4096 ≤ℤ z
  pub high : unsigned_abs z ≤ 2 ^ 20
