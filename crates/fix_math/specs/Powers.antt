-- Powers of a value with a natural exponent, each product rounded once.
use Rattle.std.specs.Prelude.{◌≡◌, ℕ, zero, suc, ℤ, pos, ◌+◌, ◌*◌, ◌/◌, ◌%◌, ◌<◌, ◌≤◌, Result, Ok, Err, nat_eq, if◌then◌else◌, refl}
use Rattle.std.proofs.Common.{arith, ap, sym, ◌∙◌}
use Rattle.fix_math.specs.declared.fix.NumFault.{NumFault}
use Rattle.fix_math.specs.Outcomes.{multiplied, followed_by}

-- the square of the power of half the exponent, and for an odd exponent x times that
abbrev pub power_from : ℤ → ℕ → Result ℤ NumFault → Result ℤ NumFault
power_from x n half =
    followed_by half (λ h. followed_by (multiplied h h) (λ square. if nat_eq (n % 2) 0 then Ok square else multiplied square x))

-- the power whose exponent is at most so large
unfoldable pub power_by : ℕ → ℤ → ℕ → Result ℤ NumFault
power_by zero x n = Ok (pos 65536)
power_by (suc most) x zero = Ok (pos 65536)
power_by (suc most) x (suc n) = power_from x (suc n) (power_by most x (suc n / 2))

-- the power of x to n
unfoldable pub power_of : ℤ → ℕ → Result ℤ NumFault
power_of x n = power_by n x n

-- any bound of the exponent will do
power_by-same : (d e : ℕ) (x : ℤ) (n : ℕ) → n ≤ d → n ≤ e → power_by d x n ≡ power_by e x n
unfolding power_by
power_by-same zero zero x n h k = refl
power_by-same zero (suc e) x zero h k = refl
power_by-same zero (suc e) x (suc n) h k = absurd (omega arith)
power_by-same (suc d) zero x zero h k = refl
power_by-same (suc d) zero x (suc n) h k = absurd (omega arith)
power_by-same (suc d) (suc e) x zero h k = refl
power_by-same (suc d) (suc e) x (suc n) h k = ap (power_from x (suc n)) (power_by-same d e x (suc n / 2) (omega arith) (omega arith))

-- the power to 0 is 1
pub power-zero : (x : ℤ) → power_of x 0 ≡ Ok (pos 65536)
unfolding power_of power_by
power-zero x = refl

-- and any other is made from the power of half the exponent
pub power-half : (x : ℤ) (n : ℕ) → 0 < n → power_of x n ≡ power_from x n (power_of x (n / 2))
unfolding power_of power_by
power-half x zero some = absurd (omega arith)
power-half x (suc n) some = ap (power_from x (suc n)) (power_by-same n (suc n / 2) x (suc n / 2) (omega arith) (omega arith))

same_value : (r : Result ℤ NumFault) → followed_by r (λ v. Ok v) ≡ r
same_value (Ok v) = refl
same_value (Err f) = refl

pub from_even : (x : ℤ) (n : ℕ) (half : Result ℤ NumFault) → n % 2 ≡ 0 → power_from x n half ≡ followed_by half (λ h. multiplied h h)
from_even x n (Ok h) e = rw e (same_value (multiplied h h))
from_even x n (Err f) e = refl

pub from_odd : (x : ℤ) (n : ℕ) (half : Result ℤ NumFault) → n % 2 ≡ 1 → power_from x n half ≡ followed_by (followed_by half (λ h. multiplied h h)) (λ square. multiplied square x)
from_odd x n (Ok h) e = rw e refl
from_odd x n (Err f) e = refl

-- for an even exponent: the power of half the exponent, times itself
pub power-even : (x : ℤ) (k : ℕ) → 0 < k → power_of x (2 * k) ≡ followed_by (power_of x k) (λ h. multiplied h h)
power-even x k some =
    let half : 2 * k / 2 ≡ k = omega arith in
    power-half x (2 * k) (omega arith) ∙ from_even x (2 * k) (power_of x (2 * k / 2)) (omega arith) ∙ rw half refl

-- for an odd one: the power before it, times x
pub power-odd : (x : ℤ) (k : ℕ) → power_of x (2 * k + 1) ≡ followed_by (power_of x (2 * k)) (λ before. multiplied before x)
power-odd x k = from_half x k ∙ ap (λ (r : Result ℤ NumFault). followed_by r (λ before. multiplied before x)) (squared x k)
  where
    from_half : (x : ℤ) (k : ℕ) → power_of x (2 * k + 1) ≡ followed_by (followed_by (power_of x k) (λ h. multiplied h h)) (λ before. multiplied before x)
    from_half x k =
        let half : (2 * k + 1) / 2 ≡ k = omega arith in
        power-half x (2 * k + 1) (omega arith) ∙ from_odd x (2 * k + 1) (power_of x ((2 * k + 1) / 2)) (omega arith) ∙ rw half refl

    squared : (x : ℤ) (k : ℕ) → followed_by (power_of x k) (λ h. multiplied h h) ≡ power_of x (2 * k)
    squared x zero = rw (power-zero x) refl
    squared x (suc k) = sym (power-even x (suc k) (omega arith))
