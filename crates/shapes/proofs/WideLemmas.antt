-- Sums of products with the coordinates of a ray: their sizes and values.
use Rattle.std.proofs.Common.{ℤ, ◌≤◌, ◌^◌, ◌+ℤ◌, ◌*ℤ◌, ◌≡◌, arith, unsigned_abs, FitsSigned}
use Rattle.std.proofs.lemmas.Int.{ints, fits_signed_from_abs}
use mir.Syntax.{w128}
use Rattle.fix_math.specs.Order.{mul-within}
use Rattle.fix_math.specs.Ring.{diff-parts, diff-same, ring_rules}

pub factor_at : (f a : ℤ) → unsigned_abs f ≤ 2 ^ 59 → unsigned_abs a ≤ 2 ^ 45 → unsigned_abs (f *ℤ a) ≤ 2 ^ 104
factor_at f a h k = let m : unsigned_abs (f *ℤ a) ≤ 2 ^ 104 = mul-within f a (2 ^ 59) (2 ^ 45) h k in m

pub factor_step : (f s : ℤ) → unsigned_abs f ≤ 2 ^ 59 → unsigned_abs s ≤ 2 ^ 17 → unsigned_abs (f *ℤ s) ≤ 2 ^ 76
factor_step f s h k = let m : unsigned_abs (f *ℤ s) ≤ 2 ^ 76 = mul-within f s (2 ^ 59) (2 ^ 17) h k in m

pub wide_at : (f a : ℤ) → unsigned_abs f ≤ 2 ^ 64 → unsigned_abs a ≤ 2 ^ 45 → unsigned_abs (f *ℤ a) ≤ 2 ^ 109
wide_at f a h k = let m : unsigned_abs (f *ℤ a) ≤ 2 ^ 109 = mul-within f a (2 ^ 64) (2 ^ 45) h k in m

pub wide_step : (f s : ℤ) → unsigned_abs f ≤ 2 ^ 64 → unsigned_abs s ≤ 2 ^ 17 → unsigned_abs (f *ℤ s) ≤ 2 ^ 81
wide_step f s h k = let m : unsigned_abs (f *ℤ s) ≤ 2 ^ 81 = mul-within f s (2 ^ 64) (2 ^ 17) h k in m

pub product_line : (f a s t : ℤ) → (f *ℤ a) +ℤ (t *ℤ (f *ℤ s)) ≡ f *ℤ (a +ℤ (t *ℤ s))
product_line f a s t = rw (diff-parts f, diff-parts a, diff-parts s, diff-parts t) (simp ring_rules (diff-same _ _ _ _ (omega arith)))

pub sum_line : (a b c r s q t : ℤ) → (a +ℤ b +ℤ c) +ℤ (t *ℤ (r +ℤ s +ℤ q)) ≡ (a +ℤ (t *ℤ r)) +ℤ (b +ℤ (t *ℤ s)) +ℤ (c +ℤ (t *ℤ q))
sum_line a b c r s q t = rw (diff-parts a, diff-parts b, diff-parts c, diff-parts r, diff-parts s, diff-parts q, diff-parts t) (simp ring_rules (diff-same _ _ _ _ (omega arith)))

pub sums_fit : (x y z : ℤ) → unsigned_abs x ≤ 2 ^ 109 → unsigned_abs y ≤ 2 ^ 109 → unsigned_abs z ≤ 2 ^ 109 → FitsSigned w128 (x +ℤ y) × FitsSigned w128 (x +ℤ y +ℤ z)
sums_fit x y z h k m = (fits_signed_from_abs w128 _ (omega (arith, ints)), fits_signed_from_abs w128 _ (omega (arith, ints)))
