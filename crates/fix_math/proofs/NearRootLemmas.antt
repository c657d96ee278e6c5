-- Newton's step: from a number near the root of the leading digits of m to one near the root of m.
-- Here s is a * h, the half of the old number at the new place, and q what the division gives.
use Rattle.std.specs.Prelude.{◌≡◌, ℕ, suc, ◌+◌, ◌-◌, ◌*◌, ◌/◌, ◌^◌, ◌≤◌, ◌<◌, ◌≢◌, ◌%◌, refl}
use Rattle.std.proofs.Common.{arith, ap, mul-le-mul, ⊎_elim, ◌∙◌}
use Rattle.std.proofs.Math.Nat.{mul-le-mul_left, mul-le-mul_right, div-div-eq-div-mul, div-mul-le_self, mod-eq_of_lt, le_of_mul-le-mul_right}
use Rattle.std.proofs.lemmas.Bool.{cases_lt}
use Rattle.std.proofs.lemmas.Nat.{mod_below, div-add-mod', pow-add, pow_pos, leading_top}
use Rattle.std.specs.Int.Count.{count_leading_zeros}
use Rattle.std.proofs.Math.Pow.{pow_mono}
use Rattle.fix_math.specs.NearRoots.{IsNearRoot}

-- the sum of two numbers has at least twice the root of their product
pub product_below : (x y : ℕ) → 4 * (x * y) ≤ (x + y) * (x + y)
product_below x y = ⊎_elim (λ lt. ordered x (y - x) y (omega arith)) (λ le. turned y (x - y) x (omega arith)) (cases_lt x y)
  where
    ordered : (x d y : ℕ) → x + d ≡ y → 4 * (x * y) ≤ (x + y) * (x + y)
    ordered x d y e = omega (arith, ap (λ (t : ℕ). t * x) e, ap (λ (t : ℕ). t * d) e, ap (λ (t : ℕ). t * y) e)

    turned : (y d x : ℕ) → y + d ≡ x → 4 * (x * y) ≤ (x + y) * (x + y)
    turned y d x e = omega (arith, ap (λ (t : ℕ). t * x) e, ap (λ (t : ℕ). t * d) e, ap (λ (t : ℕ). t * y) e)

-- u is one less than the new number. It isn't as large as the root, or the old number was not near
pub record Step (n s h q u : ℕ) : Type 0 where
  pub sum : s + q ≡ u + 1
  pub quotient : 4 * (s * q) ≤ n
  pub above : n < 4 * (s * s) + 8 * (s * h) + 4 * (h * h)
  pub below : 4 * (s * s) + 8 * (h * h) ≤ n + 8 * (s * h)
  pub coarse : h * h ≤ s
  pub some : 1 ≤ h

far_above : (n s h q u : ℕ) → Step n s h q u → 2 * s + 2 * h ≤ u → ⊥
far_above n s h q u k far =
    let more : s + 2 * h + 1 ≤ q = omega (arith, k.sum) in
    omega (arith, k.quotient, k.above, k.coarse, mul-le-mul_left (4 * s) more)

far_below : (n s h q u t : ℕ) → Step n s h q u → n ≤ u * u → t + 2 * h ≡ 2 * s → u ≤ t → ⊥
far_below n s h q u t k le e far =
    omega (arith, k.below, le, mul-le-mul far far, mul-le-mul k.some k.some, ap (λ (x : ℕ). x * t) e, ap (λ (x : ℕ). x * h) e, ap (λ (x : ℕ). x * s) e)

little_above : (n s h q u x : ℕ) → Step n s h q u → n ≤ u * u → u ≡ 2 * s + x → x + 1 ≤ 2 * h → ⊥
little_above n s h q u x k le e near =
    omega (arith, k.quotient, le, k.coarse, mul-le-mul near near, ap (λ (t : ℕ). s * t) k.sum, ap (λ (t : ℕ). u * t) e, ap (λ (t : ℕ). s * t) e, ap (λ (t : ℕ). x * t) e)

little_below : (n s h q u x : ℕ) → Step n s h q u → n ≤ u * u → u + x ≡ 2 * s → x + 1 ≤ 2 * h → ⊥
little_below n s h q u x k le e near =
    omega (arith, k.quotient, le, k.coarse, mul-le-mul near near, ap (λ (t : ℕ). s * t) k.sum, ap (λ (t : ℕ). u * t) e, ap (λ (t : ℕ). s * t) e, ap (λ (t : ℕ). x * t) e)

pub step_low : (n s h q u : ℕ) → Step n s h q u → u * u < n
step_low n s h q u k =
    ⊎_elim (λ lt. lt)
    (λ le. ⊎_elim
    (λ under. ⊎_elim
    (λ lt. absurd (little_below n s h q u (2 * s - u) k le (omega arith) (omega arith)))
    (λ far. absurd (far_below n s h q u (2 * s - 2 * h) k le (omega arith) (omega arith)))
    (cases_lt (2 * s) (u + 2 * h)))
    (λ over. ⊎_elim
    (λ lt. absurd (little_above n s h q u (u - 2 * s) k le (omega arith) (omega arith)))
    (λ far. absurd (far_above n s h q u k far))
    (cases_lt u (2 * s + 2 * h)))
    (cases_lt u (2 * s)))
    (cases_lt (u * u) n)

scaled_low : (m n a h : ℕ) → a * a + 1 < m + 2 * a → m * (4 * h * h) ≤ n → 4 * (a * h * (a * h)) + 8 * (h * h) ≤ n + 8 * (a * h * h)
scaled_low m n a h low le =
    let more : a * a + 2 ≤ m + 2 * a = omega arith in
    omega (arith, le, mul-le-mul_right (4 * h * h) more)

scaled_high : (m n a h : ℕ) → m < (a + 1) * (a + 1) → n < m * (4 * h * h) + 4 * h * h → n < 4 * (a * h * (a * h)) + 8 * (a * h * h) + 4 * (h * h)
scaled_high m n a h high lt =
    let more : m + 1 ≤ (a + 1) * (a + 1) = omega arith in
    omega (arith, lt, mul-le-mul_right (4 * h * h) more)

new_high : (n s q : ℕ) → n < q * (4 * s) + 4 * s → n < (s + q + 1) * (s + q + 1)
new_high n s q lt = omega (arith, lt, product_below s (q + 1))

new_low : (n s q u : ℕ) → s + q ≡ u + 1 → u * u < n → (s + q) * (s + q) + 1 < n + 2 * (s + q)
new_low n s q u e lt = omega (arith, lt, ap (λ (t : ℕ). t * s) e, ap (λ (t : ℕ). t * q) e, ap (λ (t : ℕ). t * u) e)

positive_product : (a h : ℕ) → 1 ≤ h → h ≤ a → 1 ≤ a * h
positive_product a h one le = omega (arith, mul-le-mul_right h le, mul-le-mul one one)

refined_by : (n a h m q : ℕ) → 1 ≤ h → h ≤ a → IsNearRoot m a → m * (4 * h * h) ≤ n → n < m * (4 * h * h) + 4 * h * h → q * (4 * (a * h)) ≤ n → n < q * (4 * (a * h)) + 4 * (a * h) → IsNearRoot n (a * h + q)
refined_by n a h m q one le near m_least m_most q_least q_most =
    let s_some : 1 ≤ a * h = positive_product a h one le in
    let step : Step n (a * h) h q (a * h + q - 1) = record {
      sum = omega arith;
      quotient = omega (arith, q_least);
      above = omega (arith, scaled_high m n a h near.high m_most);
      below = omega (arith, scaled_low m n a h near.low m_least);
      coarse = mul-le-mul_right h le;
      some = one;
    } in
    record {
      low = new_low n (a * h) q (a * h + q - 1) step.sum (step_low n (a * h) h q (a * h + q - 1) step);
      high = new_high n (a * h) q q_most;
    }

quotient_least : (n d : ℕ) → n / d * d ≤ n
quotient_least n d = div-mul-le_self n d

quotient_most : (n d : ℕ) → 0 < d → n < n / d * d + d
quotient_most n d h = omega (arith, mod_below n d h, div-add-mod' n d)

-- one step of Newton's: h is half of what the old number counts at the new place
pub IsNearRoot-refined : (n a h : ℕ) → 1 ≤ h → h ≤ a → IsNearRoot (n / (4 * h * h)) a → IsNearRoot n (a * h + n / (4 * h) / a)
IsNearRoot-refined n a h one le near =
    let s_some : 1 ≤ a * h = positive_product a h one le in
    let h_some : 1 ≤ h * h = mul-le-mul one one in
    let same : n / (4 * h) / a ≡ n / (4 * (a * h)) = div-div-eq-div-mul n (4 * h) a ∙ ap (λ (d : ℕ). n / d) (omega arith) in
    rw same (refined_by n a h (n / (4 * h * h)) (n / (4 * (a * h))) one le near
    (quotient_least n (4 * h * h))
    (quotient_most n (4 * h * h) (omega arith))
    (quotient_least n (4 * (a * h)))
    (quotient_most n (4 * (a * h)) (omega arith)))

-- the root of a number with 2 k digits more has k digits more
pub shifted_root : (n p r : ℕ) → 0 < p → r * r ≤ n * (p * p) → n * (p * p) < (r + 1) * (r + 1) → (r / p * (r / p) ≤ n) × (n < (r / p + 1) * (r / p + 1))
shifted_root n p r some low high =
    let t_least : r / p * p ≤ r = quotient_least r p in
    let t_most : r + 1 ≤ r / p * p + p = omega (arith, quotient_most r p some) in
    let least : r / p * (r / p) * (p * p) ≤ n * (p * p) = omega (arith, mul-le-mul t_least t_least) in (
      le_of_mul-le-mul_right least (mul-le-mul some some),
      ⊎_elim (λ lt. lt)
          (λ le. absurd (omega (arith, high, mul-le-mul t_most t_most, mul-le-mul_right (p * p) le)))
          (cases_lt n ((r / p + 1) * (r / p + 1))),
    )

-- where the line (m + 147) / 24 stays near the root
pub near_line : (m a : ℕ) → 64 ≤ m → m < 256 → a * 24 ≤ m + 147 → m + 147 < a * 24 + 24 → IsNearRoot m a
near_line m a least most low high =
    ⊎_elim
    (λ lt. let eight : a ≡ 8 = omega arith in record {
      low = omega (arith, ap (λ (t : ℕ). t * t) eight);
      high = omega (arith, ap (λ (t : ℕ). t * t) eight);
    })
    (λ le. record {
      low = from_nine a (a - 9) m (omega arith) (omega arith) low;
      high = omega (arith, product_below a 11);
    })
    (cases_lt a 9)
  where
    from_nine : (a x m : ℕ) → 9 + x ≡ a → x ≤ 8 → a * 24 ≤ m + 147 → a * a + 1 < m + 2 * a
    from_nine a x m e few low = omega (arith, mul-le-mul_right x few, ap (λ (t : ℕ). t * t) e)

-- the next square is what is left beside twice the number
pub next_square : (n near : ℕ) → 1 ≤ near → 2 * (near - 1) < n - (near - 1) * (near - 1) → near * near ≤ n
next_square n near some lt = omega (arith, lt, ap (λ (t : ℕ). t * t) (again near some))
  where
    again : (near : ℕ) → 1 ≤ near → near - 1 + 1 ≡ near
    again near some = omega arith

-- n with an even number of leading zeros taken away has one of its first two digits
pub normal_long : (n z j p : ℕ) → z + suc j ≡ 128 → 2 ^ j ≤ n → n < 2 ^ suc j → p ≡ z / 2 → (2 ^ 126 ≤ n * 2 ^ (2 * p)) × (n * 2 ^ (2 * p) < 2 ^ 128)
normal_long n z j p e low high half = (
  omega (arith, mul-le-mul_right (2 ^ (2 * p)) low, pow-add 2 j (2 * p), pow_mono {i = 126} {j = j + 2 * p} (omega arith)),
  omega (arith, mul-le-mul_right (2 ^ (2 * p)) high, pow-add 2 (suc j) (2 * p), pow_mono {i = suc j + 2 * p} {j = 128} (omega arith), pow_pos (2 * p)),
)

pub square_of_power : (p : ℕ) → 2 ^ (2 * p) ≡ 2 ^ p * 2 ^ p
square_of_power p = ap (λ (t : ℕ). 2 ^ t) (twice p) ∙ pow-add 2 p p
  where
    twice : (p : ℕ) → 2 * p ≡ p + p
    twice p = omega arith

-- what `isqrt` makes of n: it has one of its first two digits, and fits
pub normal : (n : ℕ) → n ≢ 0 → n < 2 ^ 128 → (2 ^ 126 ≤ n * 2 ^ (2 * (count_leading_zeros 128 n / 2))) × (n * 2 ^ (2 * (count_leading_zeros 128 n / 2)) < 2 ^ 128)
normal n some fits =
    let top = leading_top 128 n (omega arith) fits in
    normal_long n (count_leading_zeros 128 n) top.0 (count_leading_zeros 128 n / 2) top.1 top.2 top.3 refl

pub whole : (n p r : ℕ) → n * 2 ^ (2 * p) < 2 ^ 128 → r * r ≤ n * 2 ^ (2 * p) % 2 ^ 128 → n * 2 ^ (2 * p) % 2 ^ 128 < (r + 1) * (r + 1) → (r / 2 ^ p * (r / 2 ^ p) ≤ n) × (n < (r / 2 ^ p + 1) * (r / 2 ^ p + 1))
whole n p r fits low high =
    let same : n * 2 ^ (2 * p) % 2 ^ 128 ≡ n * (2 ^ p * 2 ^ p) = mod-eq_of_lt fits ∙ ap (λ (t : ℕ). n * t) (square_of_power p) in
    shifted_root n (2 ^ p) r (pow_pos p) (omega arith) (omega arith)
