-- Numbers from 0 to 1, colours, and the weights of rays.
use Rattle.std.specs.Prelude.{ℕ, ℤ, pos, ◌+ℤ◌, Bool, ◌||◌, List, int_lt, Result, Ok, Err}
use Rattle.std.specs.Int.{int_min, int_max}
use Rattle.std.specs.Ordering.{int_eq}
use Rattle.fix_math.specs.declared.fix.NumFault.{NumFault}
use Rattle.fix_math.specs.Matrices.{component, row_of}
use Rattle.fix_math.specs.Numbers.{product_of}
use Rattle.fix_math.specs.Powers.{power_of}

-- a number, or 0 or 1 where it is below or above
abbrev pub from_0_to_1 : ℤ → ℤ
from_0_to_1 z = int_min (pos 65536) (int_max (pos 0) z)

abbrev pub value_of : Result ℤ NumFault → ℤ
value_of (Ok value) = value
value_of (Err fault) = pos 0

-- the power of a number from 0 to 1
abbrev pub unit_power : ℤ → ℕ → ℤ
unit_power x n = value_of (power_of x n)

abbrev pub black : List ℤ
black = row_of (λ k. pos 0)

-- what shines through a surface of a colour: its filter as it is tinted, and its transmit
abbrev pub let_through : List ℤ → List ℤ
let_through colour = row_of (λ k. product_of (component colour 3) (component colour k) +ℤ component colour 4)

-- light behind such a surface, at most 1 in each channel
abbrev pub filtered : List ℤ → List ℤ → List ℤ
filtered light through = row_of (λ k. int_min (pos 65536) (product_of (component light k) (component through k)))

-- a surface that lets nothing through
abbrev pub is_opaque : List ℤ → Bool
is_opaque colour = int_eq (component colour 3 +ℤ component colour 4) (pos 0)

-- the greatest channel
abbrev pub greatest_channel : List ℤ → ℤ
greatest_channel c = int_max (int_max (component c 0) (component c 1)) (component c 2)

-- what a ray counts of which a share goes on: at most 1
abbrev pub weight_of : ℤ → List ℤ → ℤ
weight_of weight share = int_min (pos 65536) (product_of weight (greatest_channel share))

-- a ray that counts for nothing, or for less than the scene asks for, isn't followed. (Reference manual, adc_bailout)
abbrev pub is_weak : ℤ → ℤ → Bool
is_weak adc weight = int_eq weight (pos 0) || int_lt weight adc
