-- The power by the steps of the code.
use Rattle.std.specs.Prelude.{◌≡◌, ◌≢◌, ℕ, ℤ, pos, ◌/◌, ◌%◌, Result, Ok, Err, nat_eq, if◌then◌else◌}
use Rattle.std.proofs.Common.{arith, ap, sym, ◌∙◌}
use Rattle.fix_math.specs.declared.fix.NumFault.{NumFault}
use Rattle.fix_math.specs.Outcomes.{multiplied, followed_by}
use Rattle.fix_math.specs.Powers.{power_of, power_from, power-zero, power-half, from_even, from_odd}

pub power-none : (x : ℤ) (n : ℕ) → n ≡ 0 → Ok (pos 65536) ≡ power_of x n
power-none x n e = rw e (sym (power-zero x))

halved : (x : ℤ) (n : ℕ) (half : Result ℤ NumFault) → n ≢ 0 → half ≡ power_of x (n / 2) → power_from x n half ≡ power_of x n
halved x n half some e = rw e (sym (power-half x n (omega arith)))

pub power-no_half : (x : ℤ) (n : ℕ) (f : NumFault) → n ≢ 0 → Err f ≡ power_of x (n / 2) → Err f ≡ power_of x n
power-no_half x n f some e = halved x n (Err f) some e

pub power-no_square : (x : ℤ) (n : ℕ) (h : ℤ) (f : NumFault) → n ≢ 0 → Ok h ≡ power_of x (n / 2) → Err f ≡ multiplied h h → Err f ≡ power_of x n
power-no_square x n h f some e square = ap (λ (r : Result ℤ NumFault). followed_by r (λ (v : ℤ). if nat_eq (n % 2) 0 then Ok v else multiplied v x)) square ∙ halved x n (Ok h) some e

pub power-square : (x : ℤ) (n : ℕ) (h s : ℤ) → n ≢ 0 → Ok h ≡ power_of x (n / 2) → Ok s ≡ multiplied h h → n % 2 ≡ 0 → Ok s ≡ power_of x n
power-square x n h s some e square even = square ∙ sym (from_even x n (Ok h) even) ∙ halved x n (Ok h) some e

pub power-times : (x : ℤ) (n : ℕ) (h s : ℤ) (r : Result ℤ NumFault) → n ≢ 0 → Ok h ≡ power_of x (n / 2) → Ok s ≡ multiplied h h → n % 2 ≢ 0 → r ≡ multiplied s x → r ≡ power_of x n
power-times x n h s r some e square odd times =
    times ∙ ap (λ (q : Result ℤ NumFault). followed_by q (λ s. multiplied s x)) square ∙ sym (from_odd x n (Ok h) (omega arith)) ∙ halved x n (Ok h) some e
