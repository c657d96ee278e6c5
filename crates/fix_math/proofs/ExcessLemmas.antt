-- How many bits are taken from the components of a wide vector.
use Rattle.std.specs.Prelude.{◌≡◌, ℕ, ℤ, ◌+◌, ◌-◌, ◌*◌, ◌^◌, ◌≤◌, ◌<◌, unsigned_abs, max, Bool, true, false, List, ◌&&◌, refl}
use Rattle.std.specs.Int.Count.{count_leading_zeros}
use Rattle.std.proofs.Common.{arith, ap, sym, ◌∙◌, ⊎_elim}
use Rattle.std.proofs.Math.Pow.{pow_mono}
use Rattle.std.proofs.lemmas.Bool.{cases_lt}
use Rattle.std.proofs.lemmas.Bool.Decides.{nat_tests}
use Rattle.std.proofs.lemmas.Nat.{leading_length, pow-add, pow_pos}
use Rattle.fix_math.specs.Directions.{are_raw, excess_of, widest_of}
use Rattle.fix_math.specs.Floor.{rnd_at_least, rnd_within}
use Rattle.fix_math.specs.Least.{least-is}
use Rattle.fix_math.specs.Matrices.{component}
use Rattle.fix_math.specs.Numbers.{is_raw, shortened}

-- g has m digits: those over 47
over_by : (g m r : ℕ) → g < 2 ^ m → 2 ^ m ≤ 2 * g + 1 → r ≡ m - 47 → g < 2 ^ 126 → (g < 2 ^ (47 + r)) × (0 < r → 2 ^ (46 + r) ≤ g) × (r ≤ 79)
over_by g m r above below e small = (
  omega (arith, pow_mono {i = m} {j = 47 + r} (omega arith)),
  (λ some. let same : 2 ^ m ≡ 2 ^ (1 + (46 + r)) = ap (λ (t : ℕ). 2 ^ t) (omega arith) in omega (arith, same, pow-add 2 1 (46 + r))),
  ⊎_elim (λ lt. omega arith) (λ le. absurd (omega (arith, pow_mono {i = 127} {j = m} le))) (cases_lt m 127),
)

pub over : (g r : ℕ) → g < 2 ^ 126 → r ≡ 128 - count_leading_zeros 128 g - 47 → (g < 2 ^ (47 + r)) × (0 < r → 2 ^ (46 + r) ≤ g) × (r ≤ 79)
over g r small e =
    let digits = leading_length 128 g (omega arith) in
    over_by g digits.0 r digits.2 digits.3 (omega (arith, digits.1)) small

-- a component that is too large without so many bits isn't a raw number
too_large : (c : ℤ) (k : ℕ) → 2 ^ (47 + k) ≤ unsigned_abs c → is_raw (shortened c k) ≡ false
too_large c k le = let large = rnd_at_least c (2 ^ k) (2 ^ 47) (pow_pos k) (omega (arith, pow-add 2 47 k)) in grind (arith, nat_tests)

-- and without one bit more than its excess it is
small_enough : (c : ℤ) (k : ℕ) → unsigned_abs c < 2 ^ (47 + k) → is_raw (shortened c (k + 1)) ≡ true
small_enough c k lt = let small = rnd_within c (2 ^ (k + 1)) (2 ^ 46) (pow_pos (k + 1)) (omega (arith, pow-add 2 47 k, pow-add 2 k 1)) in grind (arith, nat_tests)

pub next_small : (c : ℤ) (k : ℕ) → unsigned_abs c < 2 ^ (47 + k) → unsigned_abs (shortened c (k + 1)) < 2 ^ 47
next_small c k lt = omega (arith, rnd_within c (2 ^ (k + 1)) (2 ^ 46) (pow_pos (k + 1)) (omega (arith, pow-add 2 47 k, pow-add 2 k 1)))

all_pass : (p q r : Bool) → p ≡ true → q ≡ true → r ≡ true → (p && (q && r)) ≡ true
all_pass p q r e f h = rw (e, f, h) refl

first_fails : (p q r : Bool) → p ≡ false → (p && (q && r)) ≡ false
first_fails p q r e = rw e refl

second_fails : (p q r : Bool) → q ≡ false → (p && (q && r)) ≡ false
second_fails true q r e = rw e refl
second_fails false q r e = refl

third_fails : (p q r : Bool) → r ≡ false → (p && (q && r)) ≡ false
third_fails true true r e = e
third_fails true false r e = refl
third_fails false q r e = refl

large_one : (x y z : ℤ) (k : ℕ) → 2 ^ (47 + k) ≤ max (max (unsigned_abs x) (unsigned_abs y)) (unsigned_abs z) → (is_raw (shortened x k) && (is_raw (shortened y k) && is_raw (shortened z k))) ≡ false
large_one x y z k le =
    ⊎_elim
    (λ x_lt. ⊎_elim
    (λ y_lt. third_fails (is_raw (shortened x k)) (is_raw (shortened y k)) (is_raw (shortened z k)) (too_large z k (omega arith)))
    (λ y_le. second_fails (is_raw (shortened x k)) (is_raw (shortened y k)) (is_raw (shortened z k)) (too_large y k y_le))
    (cases_lt (unsigned_abs y) (2 ^ (47 + k))))
    (λ x_le. first_fails (is_raw (shortened x k)) (is_raw (shortened y k)) (is_raw (shortened z k)) (too_large x k x_le))
    (cases_lt (unsigned_abs x) (2 ^ (47 + k)))

small_all : (x y z : ℤ) (k : ℕ) → max (max (unsigned_abs x) (unsigned_abs y)) (unsigned_abs z) < 2 ^ (47 + k) → (is_raw (shortened x (k + 1)) && (is_raw (shortened y (k + 1)) && is_raw (shortened z (k + 1)))) ≡ true
small_all x y z k lt =
    all_pass (is_raw (shortened x (k + 1))) (is_raw (shortened y (k + 1))) (is_raw (shortened z (k + 1)))
    (small_enough x k (omega arith)) (small_enough y k (omega arith)) (small_enough z k (omega arith))

before_fail : (v : List ℤ) (k : ℕ) → (0 < k → 2 ^ (46 + k) ≤ widest_of v) → (j : ℕ) → j < k → are_raw v j ≡ false
before_fail v k needed j lt = large_one (component v 0) (component v 1) (component v 2) j (omega (arith, needed (omega arith), pow_mono {i = 47 + j} {j = 46 + k} (omega arith)))

pub excess-here : (v : List ℤ) (k : ℕ) → k ≤ 79 → are_raw v k ≡ true → (0 < k → 2 ^ (46 + k) ≤ widest_of v) → k ≡ excess_of v
excess-here v k small passes needed = sym (least-is (are_raw v) 128 k (omega arith) passes (before_fail v k needed))

pub next_passes : (v : List ℤ) (k : ℕ) → widest_of v < 2 ^ (47 + k) → are_raw v (k + 1) ≡ true
next_passes v k lt = small_all (component v 0) (component v 1) (component v 2) k lt

pub excess-next : (v : List ℤ) (k : ℕ) → k ≤ 79 → are_raw v k ≡ false → widest_of v < 2 ^ (47 + k) → (0 < k → 2 ^ (46 + k) ≤ widest_of v) → k + 1 ≡ excess_of v
excess-next v k small fails above needed =
    sym (least-is (are_raw v) 128 (k + 1) (omega arith) (next_passes v k above)
    (λ j lt. ⊎_elim (λ before. before_fail v k needed j before) (λ here. let same : j ≡ k = omega arith in ap (are_raw v) same ∙ fails) (cases_lt j k)))
