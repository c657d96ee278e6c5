-- What a calculation with numbers answers: a value, or why there is none.
use Rattle.std.specs.Prelude.{ℤ, pos, Result, Ok, Err, if◌then◌else◌}
use Rattle.std.specs.Ordering.{int_eq}
use Rattle.fix_math.specs.declared.fix.NumFault.{NumFault}
use Rattle.fix_math.specs.declared.fix.NumFault.TheVariants.{Range, ZeroDivisor}
use Rattle.fix_math.specs.Numbers.{is_raw, product_of, quotient_of}

-- the value with this raw number, where there is one
abbrev pub in_range : ℤ → Result ℤ NumFault
in_range raw = if is_raw raw then Ok raw else Err Range

-- what a division answers
abbrev pub divided : ℤ → ℤ → Result ℤ NumFault
divided a b = if int_eq b (pos 0) then Err ZeroDivisor else in_range (quotient_of a b)

-- what a product answers
abbrev pub multiplied : ℤ → ℤ → Result ℤ NumFault
multiplied a b = in_range (product_of a b)

-- a second calculation with the value of the first, or the first's fault
abbrev pub followed_by : Result ℤ NumFault → (ℤ → Result ℤ NumFault) → Result ℤ NumFault
followed_by (Ok value) next = next value
followed_by (Err fault) next = Err fault
