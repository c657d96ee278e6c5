-- Numbers with 16 fraction bits. A number stands for its raw whole number: 1 unit is 65536 raw.
use Rattle.std.specs.Prelude.{ℕ, ℤ, Bool, nat_lt, pos, ◌+ℤ◌, ◌*ℤ◌, neg_ℤ, ◌<◌, ◌^◌, unsigned_abs, int_lt, if◌then◌else◌}
use Rattle.std.specs.Int.{int_div_euclid}

-- the quotient of a by b > 0, rounded to the nearest whole number, halves up: the floor of (2a + b) / 2b
abbrev pub rnd : ℤ → ℤ → ℤ
rnd a b = int_div_euclid (a +ℤ a +ℤ b) (b +ℤ b)

-- a number without its last bits, rounded
abbrev pub shortened : ℤ → ℕ → ℤ
shortened a bits = rnd a (pos (2 ^ bits))

-- the rounded quotient by a divisor of either sign: a negative divisor and the dividend are negated first
abbrev pub quotient : ℤ → ℤ → ℤ
quotient a b = if int_lt b (pos 0) then rnd (neg_ℤ a) (neg_ℤ b) else rnd a b

-- the raw numbers that a value may have
abbrev pub IsInRange : ℤ → Type 0
IsInRange z = unsigned_abs z < 2 ^ 47

abbrev pub is_raw : ℤ → Bool
is_raw z = nat_lt (unsigned_abs z) (2 ^ 47)

-- the product of two values, rounded once
abbrev pub product_of : ℤ → ℤ → ℤ
product_of a b = rnd (a *ℤ b) (pos 65536)

-- the quotient of two values, rounded once
abbrev pub quotient_of : ℤ → ℤ → ℤ
quotient_of a b = quotient (a *ℤ pos 65536) b
