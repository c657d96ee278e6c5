-- A clock lies between the first one and the last one.
use Rattle.std.proofs.Common.{◌≡◌, ◌*◌, ◌<◌, ◌≤◌, ◌^◌, ℕ, suc, ℤ, pos, negsuc, neg_ℤ, unsigned_abs, refl, arith, FitsSigned, to_z, of_z, w64, ap, sym, subst, ◌∙◌}
use Rattle.std.specs.Prelude.{◌+ℤ◌, ◌-ℤ◌, ◌*ℤ◌, ◌≤ℤ◌, ◌<ℤ◌}
use Rattle.std.proofs.lemmas.Int.{ints, unsigned_abs-mul, to_z-of_z, fits_signed_from_abs}
use mir.Syntax.{w128}
use Rattle.std.proofs.Math.Nat.{mul-le-mul_left, mul-le-mul_right}
use Rattle.fix_math.specs.Numbers.{rnd, IsInRange}
use Rattle.fix_math.specs.Floor.{rnd_monotone, rnd_exact, rnd_within}
use Rattle.fix_math.specs.Ring.{mul-neg_left}

apart : (a b : ℤ) → IsInRange a → IsInRange b → unsigned_abs (b -ℤ a) ≤ 2 ^ 48
apart a b ha hb = omega (arith, ints, ha, hb)

times : (d k n : ℕ) → d ≤ 2 ^ 48 → k ≤ n → d * k ≤ 2 ^ 48 * n
times d k n hd hk = omega (arith, mul-le-mul_right k hd, mul-le-mul_left (2 ^ 48) hk)

way_within : (a b : ℤ) (k n : ℕ) → IsInRange a → IsInRange b → k ≤ n → unsigned_abs ((b -ℤ a) *ℤ pos k) ≤ 2 ^ 48 * n
way_within a b k n ha hb hk = omega (arith, unsigned_abs-mul (b -ℤ a) (pos k), times (unsigned_abs (b -ℤ a)) k n (apart a b ha hb) hk)

pub way_small : (a b : ℤ) (k n : ℕ) → IsInRange a → IsInRange b → k ≤ n → n ≤ 1000000 → unsigned_abs ((b -ℤ a) *ℤ pos k) ≤ 2 ^ 68
way_small a b k n ha hb hk hn = omega (arith, way_within a b k n ha hb hk)

part_small : (a b : ℤ) (k n : ℕ) → IsInRange a → IsInRange b → k ≤ n → 0 < n → unsigned_abs (rnd ((b -ℤ a) *ℤ pos k) (pos n)) ≤ 2 ^ 48
part_small a b k n ha hb hk some = rnd_within ((b -ℤ a) *ℤ pos k) n (2 ^ 48) some (way_within a b k n ha hb hk)

-- some of so many steps upwards, and downwards
up : (m k n : ℕ) → 0 < n → k ≤ n → (pos 0 ≤ℤ rnd (pos m *ℤ pos k) (pos n)) × (rnd (pos m *ℤ pos k) (pos n) ≤ℤ pos m)
up m k n some le =
    let positive : pos 0 <ℤ pos n = omega (arith, ints) in
    let low : rnd (pos 0 *ℤ pos n) (pos n) ≤ℤ rnd (pos m *ℤ pos k) (pos n) = rnd_monotone (pos 0 *ℤ pos n) (pos m *ℤ pos k) (pos n) positive (omega (arith, ints)) in
    let high : rnd (pos m *ℤ pos k) (pos n) ≤ℤ rnd (pos m *ℤ pos n) (pos n) = rnd_monotone (pos m *ℤ pos k) (pos m *ℤ pos n) (pos n) positive (omega (arith, ints, mul-le-mul_left m le)) in
    (omega (arith, ints, low, rnd_exact (pos 0) (pos n) positive), omega (arith, ints, high, rnd_exact (pos m) (pos n) positive))

down : (m k n : ℕ) → 0 < n → k ≤ n → (neg_ℤ (pos m) ≤ℤ rnd (neg_ℤ (pos m) *ℤ pos k) (pos n)) × (rnd (neg_ℤ (pos m) *ℤ pos k) (pos n) ≤ℤ pos 0)
down m k n some le =
    let positive : pos 0 <ℤ pos n = omega (arith, ints) in
    let far = mul-neg_left (pos m) (pos n) in
    let near = mul-neg_left (pos m) (pos k) in
    let low : rnd (neg_ℤ (pos m) *ℤ pos n) (pos n) ≤ℤ rnd (neg_ℤ (pos m) *ℤ pos k) (pos n) = rnd_monotone (neg_ℤ (pos m) *ℤ pos n) (neg_ℤ (pos m) *ℤ pos k) (pos n) positive (omega (arith, ints, far, near, mul-le-mul_left m le)) in
    let high : rnd (neg_ℤ (pos m) *ℤ pos k) (pos n) ≤ℤ rnd (pos 0 *ℤ pos n) (pos n) = rnd_monotone (neg_ℤ (pos m) *ℤ pos k) (pos 0 *ℤ pos n) (pos n) positive (omega (arith, ints, near)) in
    (omega (arith, ints, low, rnd_exact (neg_ℤ (pos m)) (pos n) positive), omega (arith, ints, high, rnd_exact (pos 0) (pos n) positive))

moved : (a b d : ℤ) (k n : ℕ) → d ≡ b -ℤ a → IsInRange a → IsInRange b → 0 < n → k ≤ n → IsInRange (a +ℤ rnd (d *ℤ pos k) (pos n))
moved a b (pos m) k n e ha hb some le = omega (arith, ints, e, ha, hb, (up m k n some le).0, (up m k n some le).1)
moved a b (negsuc m) k n e ha hb some le = omega (arith, ints, e, ha, hb, (down (suc m) k n some le).0, (down (suc m) k n some le).1)

pub between : (a b : ℤ) (k n : ℕ) → IsInRange a → IsInRange b → 0 < n → k ≤ n → IsInRange (a +ℤ rnd ((b -ℤ a) *ℤ pos k) (pos n))
between a b k n ha hb some le = moved a b (b -ℤ a) k n refl ha hb some le

-- what the rounding answers in 128 bits: the part of the way, which fits 64 bits
pub part_facts : (a b : ℤ) (k n : ℕ) (way from r : ℤ) → IsInRange a → IsInRange b → k ≤ n → 0 < n → FitsSigned w128 way → FitsSigned w128 from
    → way ≡ (b -ℤ a) *ℤ pos k → from ≡ pos n → r ≡ rnd (to_z w128 (of_z w128 way)) (to_z w128 (of_z w128 from))
    → (r ≡ rnd ((b -ℤ a) *ℤ pos k) (pos n)) × (unsigned_abs r ≤ 2 ^ 48) × FitsSigned w64 r
part_facts a b k n way from r ha hb hk some fits_way fits_from is_way is_from is =
    let part : r ≡ rnd ((b -ℤ a) *ℤ pos k) (pos n) = simp to_z-of_z at is ∙ ap (λ z. rnd z from) is_way ∙ ap (rnd ((b -ℤ a) *ℤ pos k)) is_from in
    let small : unsigned_abs r ≤ 2 ^ 48 = subst (λ z. unsigned_abs z ≤ 2 ^ 48) (sym part) (part_small a b k n ha hb hk some) in
    (part, small, fits_signed_from_abs w64 r (omega (arith, small)))
