-- 3v² - 2v³ stays between 0 and 1, its roundings too.
use Rattle.std.proofs.Common.{◌≡◌, ℕ, zero, suc, ℤ, pos, negsuc, ◌+ℤ◌, ◌-ℤ◌, ◌*ℤ◌, ◌≤ℤ◌, ◌<ℤ◌, ◌+◌, ◌-◌, ◌*◌, ◌/◌, ◌^◌, ◌≤◌, ◌<◌, List, ap, sym, subst, ◌∙◌, refl, arith}
use Rattle.std.proofs.lemmas.Int.{ints}
use Rattle.std.proofs.Math.Nat.{mul-le-mul_right}
use Rattle.fix_math.specs.Floor.{rnd_exact, rnd_least, rnd_monotone, rnd_not_negative}
use Rattle.fix_math.specs.Numbers.{rnd, product_of}
use Rattle.fix_math.specs.Order.{mul-le_right}
use Rattle.scene_model.specs.Amounts.{IsAmount}
use Rattle.std.specs.Int.{int_min}
use Rattle.fix_math.specs.Matrices.{component}
use Rattle.finish_shade.specs.Amounts.{black}
use Rattle.finish_shade.specs.Finishes.{product3, highlight}
use Rattle.finish_shade.specs.Lamps.{smooth, far_power}

-- e is how much the square is above its tangent at 1, d how far the number is below 1
excess : (d e : ℕ) → d ≤ 65536 → e * 65536 ≤ d * d + 32768 → e * 65536 + 2 * (e * d) ≤ 4 * (d * d) + 32767
excess d zero most h = omega arith
excess d (suc zero) most h = omega (arith, least d most (omega arith))
  where
    least : (d : ℕ) → d ≤ 65536 → 32768 ≤ d * d → 65536 + 2 * d ≤ 4 * (d * d) + 32767
    least zero most h = absurd (omega arith)
    least (suc k) most h = omega arith
excess d (suc (suc e)) most h = omega (arith, mul-le-mul_right (suc (suc e)) most)

square_below : (n d : ℕ) → n + d ≡ 65536 → n * n + 131072 * d ≡ 4294967296 + d * d
square_below n d e = omega (arith, ap (λ (x : ℕ). x * x) e, ap (λ (x : ℕ). x * d) e)

bound : (n d w : ℕ) → n + d ≡ 65536 → w * 131072 ≤ 2 * (n * n) + 65536 → w * (65536 + 2 * d) ≤ 4294967296 + 32767
bound n d w e le =
    let above : ℕ = (d * d + 32768) / 65536 in
    let part : above * 65536 ≤ d * d + 32768 = omega arith in
    let next : d * d + 32768 < above * 65536 + 65536 = omega arith in
    let square = square_below n d e in
    let first : w + 2 * d ≤ 65536 + above = omega arith in
    let second : (w + 2 * d) * d ≤ (65536 + above) * d = mul-le-mul_right d first in
    omega (arith, excess d above (omega arith) part)

slope_is : (n d : ℕ) → n + d ≡ 65536 → pos 196608 -ℤ pos 2 *ℤ pos n ≡ pos (65536 + 2 * d)
slope_is n d e = omega (arith, ints)

product_bound : (n d : ℕ) (w : ℤ) → n + d ≡ 65536 → pos 0 ≤ℤ w → (w *ℤ pos 131072) ≤ℤ pos (2 * (n * n) + 65536) → (w *ℤ pos (65536 + 2 * d)) ≤ℤ pos (4294967296 + 32767)
product_bound n d (pos w) e some le = omega (arith, ints, bound n d w e (omega (arith, ints)))
product_bound n d (negsuc w) e some le = absurd (omega (arith, ints))

rounded_bound : (z r : ℤ) → pos 0 ≤ℤ r → (r *ℤ pos 131072) ≤ℤ (z +ℤ z +ℤ pos 65536) → z ≤ℤ pos (4294967296 + 32767) → IsAmount 65536 r
rounded_bound z r low least most = record { low = low; high = omega (arith, ints) }

of_natural : (n d : ℕ) → n + d ≡ 65536 → IsAmount 65536 (smooth (pos n))
of_natural n d e =
    let unit : pos 0 <ℤ pos 65536 = omega (arith, ints) in
    let w : ℤ = product_of (pos n) (pos n) in
    let some : pos 0 ≤ℤ product_of (pos n) (pos n) = rnd_not_negative (pos n *ℤ pos n) (pos 65536) unit (omega (arith, ints)) in
    let least : (product_of (pos n) (pos n) *ℤ pos 131072) ≤ℤ pos (2 * (n * n) + 65536) = omega (arith, ints, rnd_least (pos n *ℤ pos n) (pos 65536) unit) in
    let most = product_bound n d (product_of (pos n) (pos n)) e some least in
    let z : ℤ = w *ℤ pos (65536 + 2 * d) in
    let not_negative : pos 0 ≤ℤ (product_of (pos n) (pos n) *ℤ pos (65536 + 2 * d)) = omega (arith, ints, mul-le_right (pos 0) (product_of (pos n) (pos n)) (pos (65536 + 2 * d)) (omega (arith, ints)) some) in
    let P : ℤ → Type 0 = λ f. IsAmount 65536 (product_of (product_of (pos n) (pos n)) f) in
    subst P (sym (slope_is n d e))
    (rounded_bound (product_of (pos n) (pos n) *ℤ pos (65536 + 2 * d)) (product_of (product_of (pos n) (pos n)) (pos (65536 + 2 * d)))
    (rnd_not_negative (product_of (pos n) (pos n) *ℤ pos (65536 + 2 * d)) (pos 65536) unit not_negative)
    (rnd_least (product_of (pos n) (pos n) *ℤ pos (65536 + 2 * d)) (pos 65536) unit)
    most)

pub smooth_amount : (v : ℤ) → pos 0 ≤ℤ v → v ≤ℤ pos 65536 → IsAmount 65536 (smooth v)
smooth_amount (pos n) low high = of_natural n (65536 - n) (omega (arith, ints))
smooth_amount (negsuc n) low high = absurd (omega (arith, ints))

-- a share of a way is from 0 to 1
pub share_within : (g outer inner : ℤ) → outer ≤ℤ g → g <ℤ inner → (pos 0 ≤ℤ rnd ((g -ℤ outer) *ℤ pos 65536) (inner -ℤ outer)) × (rnd ((g -ℤ outer) *ℤ pos 65536) (inner -ℤ outer) ≤ℤ pos 65536)
share_within g outer inner low high =
    let some : pos 0 <ℤ (inner -ℤ outer) = omega (arith, ints) in (
      rnd_not_negative ((g -ℤ outer) *ℤ pos 65536) (inner -ℤ outer) some (omega (arith, ints)),
      omega (arith, ints, rnd_monotone ((g -ℤ outer) *ℤ pos 65536) (pos 65536 *ℤ (inner -ℤ outer)) (inner -ℤ outer) some (omega (arith, ints)), rnd_exact (pos 65536) (inner -ℤ outer) some),
    )

-- one more factor of a power
pub far_step : (q : ℤ) (k : ℕ) → 1 ≤ k → far_power q (k + 1) ≡ int_min (pos (2 ^ 46)) (product_of (far_power q k) q)
far_step q zero some = absurd (omega arith)
far_step q (suc k) some = let next : suc k + 1 ≡ suc (suc k) = omega arith in ap (far_power q) next

-- an amount of 0 gives no highlight
pub product_zero : (x : ℤ) → product_of x (pos 0) ≡ pos 0
product_zero x = let none : x *ℤ pos 0 ≡ pos 0 = omega (arith, ints) in ap (λ (z : ℤ). rnd z (pos 65536)) none

pub zero_product : (x : ℤ) → product_of (pos 0) x ≡ pos 0
zero_product x = let none : pos 0 *ℤ x ≡ pos 0 = omega (arith, ints) in ap (λ (z : ℤ). rnd z (pos 65536)) none

dark_channel : (x amount bright : ℤ) → amount ≡ pos 0 → pos 0 ≡ product3 x amount bright
dark_channel x amount bright e =
    let P : ℤ → Type 0 = λ a. pos 0 ≡ product3 x a bright in
    subst P (sym e) (sym (ap (λ (z : ℤ). product_of z bright) (product_zero x) ∙ zero_product bright))

pub dark : (light : List ℤ) (amount bright : ℤ) → amount ≡ pos 0 → black ≡ highlight light amount bright
dark light amount bright e =
    rw (← dark_channel (component light 0) amount bright e, ← dark_channel (component light 1) amount bright e, ← dark_channel (component light 2) amount bright e) refl
