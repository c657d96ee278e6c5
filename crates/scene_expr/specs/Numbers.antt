-- Calls of numbers. (Reference manual, float functions)
use Rattle.std.specs.Prelude.{ℕ, ◌*◌, ◌/◌, ◌%◌, ℤ, pos, neg_ℤ, ◌*ℤ◌, ◌&&◌, nat_eq, nat_le, int_lt, int_le, int_div, int_rem, unsigned_abs, Result, Ok, Err, Option, Some, None, if◌then◌else◌}
use Rattle.std.specs.Int.{int_div_euclid}
use Rattle.std.specs.Ordering.{int_eq}
use Rattle.fix_math.specs.Angles.{sine_of, cosine_of}
use Rattle.fix_math.specs.Numbers.{rnd}
use Rattle.fix_math.specs.Outcomes.{in_range, divided, followed_by}
use Rattle.fix_math.specs.Powers.{power_of}
use Rattle.fix_math.specs.Roots.{root}
use Rattle.fix_math.specs.declared.fix.NumFault.{NumFault}

abbrev pub size_of : ℤ → Result ℤ NumFault
size_of a = Ok (pos (unsigned_abs a))

-- the greatest whole number that isn't greater
abbrev pub floor_of : ℤ → ℤ
floor_of a = int_div_euclid a (pos 65536) *ℤ pos 65536

-- the least whole number that isn't less
abbrev pub ceil_of : ℤ → ℤ
ceil_of a = neg_ℤ (floor_of (neg_ℤ a))

-- cut towards 0
abbrev pub cut : ℤ → ℤ
cut a = int_div a (pos 65536) *ℤ pos 65536

-- the floor of the root, in raw numbers
abbrev pub root_of : ℤ → Result ℤ NumFault
root_of a = if int_lt a (pos 0) then Err NumFault.Range else Ok (pos (root (unsigned_abs a * 65536)))

-- ---- angles

-- radians as degrees: half a turn is pi with 15 decimals
abbrev pub degrees_of : ℤ → Result ℤ NumFault
degrees_of a = in_range (rnd (a *ℤ pos 180000000000000000) (pos 3141592653589793))

abbrev pub radians_of : ℤ → Result ℤ NumFault
radians_of a = in_range (rnd (a *ℤ pos 3141592653589793) (pos 180000000000000000))

-- a number with 32 fraction bits, rounded to 16
abbrev pub narrowed : ℤ → ℤ
narrowed s = rnd s (pos 65536)

abbrev pub sine : ℤ → Result ℤ NumFault
sine a = followed_by (degrees_of a) (λ deg. Ok (narrowed (sine_of deg)))

abbrev pub cosine : ℤ → Result ℤ NumFault
cosine a = followed_by (degrees_of a) (λ deg. Ok (narrowed (cosine_of deg)))

-- the quotient of both
abbrev pub tangent : ℤ → Result ℤ NumFault
tangent a = followed_by (degrees_of a) (λ deg. divided (narrowed (sine_of deg)) (narrowed (cosine_of deg)))

-- ---- two numbers

-- the whole part of the quotient, cut towards 0
abbrev pub whole_quotient : ℤ → ℤ → Result ℤ NumFault
whole_quotient a b =
    if int_eq b (pos 0) then Err NumFault.ZeroDivisor else in_range (int_div a b *ℤ pos 65536)

-- what that leaves of a, with a's sign
abbrev pub remainder : ℤ → ℤ → Result ℤ NumFault
remainder a b = if int_eq b (pos 0) then Err NumFault.ZeroDivisor else Ok (int_rem a b)

-- the natural that a value is, up to so much
abbrev pub natural_of : ℕ → ℤ → Option ℕ
natural_of most a =
    if int_le (pos 0) a && (nat_eq (unsigned_abs a % 65536) 0 && nat_le (unsigned_abs a / 65536) most)
    then Some (unsigned_abs a / 65536) else None

abbrev pub power_by_natural : ℤ → Option ℕ → Result ℤ NumFault
power_by_natural x None = Err NumFault.Range
power_by_natural x (Some n) = power_of x n

abbrev pub power_to : ℤ → ℤ → Result ℤ NumFault
power_to x n = power_by_natural x (natural_of 65535 n)
