-- The value of a number is from 0 on, and in the range of numbers.
use Rattle.std.proofs.Common.{◌≡◌, ◌<◌, ◌^◌, ℕ, ℤ, pos, unsigned_abs, Bool, true, false, ◌||◌, List, length, ◌++◌, ◌-◌, Option, Some, None, Ok, Err, IfSome, refl, arith, neg_ℤ, option_map}
use Rattle.std.specs.Prelude.{◌≤ℤ◌, nat_lt, nat_le, if◌then◌else◌}
use Rattle.std.proofs.lemmas.Bool.Decides.{nat_tests}
use Rattle.std.proofs.lemmas.Int.{ints}
use Rattle.fix_math.specs.Numbers.{rnd, IsInRange}
use Rattle.scene_lexer.specs.Alone.{start, value_in, number_in}
use Rattle.scene_lexer.specs.Spellings.{is_number}
use Rattle.scene_lexer.specs.Tokens.{number_of, is_out_of_range, raw_of, whole_digits, fraction_digits, power_up, power_down}
use Rattle.scene_lexer.specs.declared.token.Kind.TheVariants.{Number}
use Rattle.scene_lexer.specs.declared.token.LexFault.TheVariants.{NumberRange}
use Rattle.options.specs.Values.{IsUnsigned}

-- a quotient of numbers that aren't negative isn't either
rnd_from : (a b : ℕ) → pos 0 ≤ℤ rnd (pos a) (pos b)
rnd_from a b = omega (arith, ints)

last_of : (a b c d : Bool) → (a || (b || (c || d))) ≡ false → d ≡ false
last_of a b c d e = grind arith

above : (m n : ℕ) → nat_le m n ≡ false → n < m
above m n e = grind (arith, nat_tests)

within : (s : List ℕ) → is_out_of_range s ≡ false → IsUnsigned (raw_of s)
within s e = (rnd_from _ _, above (2 ^ 47) (unsigned_abs (raw_of s)) (last_of (nat_lt 30 (length (whole_digits s ++ fraction_digits s))) (nat_lt 30 (power_up s - power_down s)) (nat_lt 30 (power_down s - power_up s)) (nat_le (2 ^ 47) (unsigned_abs (raw_of s))) e))

kept : (over : Bool) (z : ℤ) → (over ≡ false → IsUnsigned z) → IfSome (value_in (if over then Err (NumberRange start) else Ok (Number z))) IsUnsigned
kept true z fits = tt
kept false z fits = fits refl

chosen : (test : Bool) (m : Option ℤ) → IfSome m IsUnsigned → IfSome (if test then m else None) IsUnsigned
chosen true m fits = fits
chosen false m fits = tt

pub number_range : (s : List ℕ) → IfSome (number_in s) IsUnsigned
unfolding number_of
number_range s = chosen (is_number s) _ (kept (is_out_of_range s) (raw_of s) (within s))

pub ranged : (m : Option ℤ) → IfSome m IsUnsigned → IfSome m IsInRange
ranged None fits = tt
ranged (Some z) fits = fits.1

pub negated : (m : Option ℤ) → IfSome m IsUnsigned → IfSome (option_map neg_ℤ m) IsInRange
negated None fits = tt
negated (Some z) fits = omega (arith, ints, fits.1)
