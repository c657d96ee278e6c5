-- Where a ray is in the world: numbers at which it is there are small, and it is there before them too.
use Rattle.std.proofs.Common.{ℕ, zero, suc, ℤ, pos, negsuc, ◌*◌, ◌-◌, ◌<◌, ◌≤◌, ◌^◌, ◌+ℤ◌, ◌*ℤ◌, ◌≤ℤ◌, ◌≡◌, max, arith, ◌⊎◌, inl, inr, ⊎_elim, unsigned_abs, mul-le-mul_left, subst, sym}
use Rattle.std.proofs.lemmas.Int.{ints, unsigned_abs-mul}
use Rattle.std.proofs.lemmas.Bool.{cases_lt}
use Rattle.fix_math.specs.declared.fix.V3.{V3}
use Rattle.fix_math.specs.Floor.{rnd_within}
use Rattle.fix_math.specs.Matrices.{IsVectorWithin}
use Rattle.fix_math.specs.Numbers.{rnd}
use Rattle.shapes.specs.declared.ray.Ray.{Ray}
use Rattle.shapes.specs.Rays.{IsInWorld, IsRayDirection, coordinate_at, point_at}

zero_step : (d : ℤ) → pos 0 *ℤ d ≡ pos 0
zero_step (pos n) = omega (arith, ints)
zero_step (negsuc n) = omega (arith, ints)

next_step : (t : ℕ) (d : ℤ) → pos (suc t) *ℤ d ≡ pos t *ℤ d +ℤ d
next_step t (pos n) = omega (arith, ints)
next_step t (negsuc n) = omega (arith, ints)

size_of_part : (a b : ℤ) → unsigned_abs a ≤ 2 ^ 44 → unsigned_abs (a +ℤ b) ≤ 2 ^ 44 → unsigned_abs b ≤ 2 ^ 45
size_of_part a b h k = omega (arith, ints)

leaves : (o d : ℤ) (t : ℕ) → unsigned_abs (coordinate_at o d 0) ≤ 2 ^ 44 → unsigned_abs (coordinate_at o d t) ≤ 2 ^ 44 → 32768 ≤ unsigned_abs d → t < 2 ^ 31
leaves o d t near h long =
    let z = zero_step d in
    let e : unsigned_abs (pos t *ℤ d) ≡ t * unsigned_abs d = unsigned_abs-mul (pos t) d in
    let k : t * 32768 ≤ t * unsigned_abs d = mul-le-mul_left t long in
    let m : unsigned_abs (pos t *ℤ d) ≤ 2 ^ 45 = size_of_part (pos 65536 *ℤ o) (pos t *ℤ d) (omega (arith, ints)) h in
    omega arith

greatest_cases : (a b c : ℕ) → 32768 ≤ max (max a b) c → (32768 ≤ a) ⊎ ((32768 ≤ b) ⊎ (32768 ≤ c))
greatest_cases a b c h = ⊎_elim (λ lt. ⊎_elim (λ lt'. inr (inr (omega arith))) (λ k. inr (inl k)) (cases_lt b 32768)) inl (cases_lt a 32768)

pub early : (ray : Ray) (t : ℕ) → IsRayDirection ray.dir → IsInWorld (point_at ray 0) → IsInWorld (point_at ray t) → t < 2 ^ 31
early ray t d w h =
    ⊎_elim (λ k. leaves ray.origin.x ray.dir.x t w.x h.x k)
    (⊎_elim (λ k. leaves ray.origin.y ray.dir.y t w.y h.y k) (λ k. leaves ray.origin.z ray.dir.z t w.z h.z k))
    (greatest_cases (unsigned_abs ray.dir.x) (unsigned_abs ray.dir.y) (unsigned_abs ray.dir.z) d.long)

on_the_way : (a x d : ℤ) → (pos 0 ≤ℤ x) × (pos 0 ≤ℤ d) ⊎ ((x ≤ℤ pos 0) × (d ≤ℤ pos 0)) → unsigned_abs a ≤ 2 ^ 44 → unsigned_abs (a +ℤ (x +ℤ d)) ≤ 2 ^ 44 → unsigned_abs (a +ℤ x) ≤ 2 ^ 44
on_the_way a x d (inl up) h k = let low = up.0 in let high = up.1 in omega (arith, ints)
on_the_way a x d (inr down) h k = let low = down.0 in let high = down.1 in omega (arith, ints)

same_side : (t : ℕ) (d : ℤ) → (pos 0 ≤ℤ (pos t *ℤ d)) × (pos 0 ≤ℤ d) ⊎ (((pos t *ℤ d) ≤ℤ pos 0) × (d ≤ℤ pos 0))
same_side t (pos n) = inl (omega (arith, ints), omega (arith, ints))
same_side t (negsuc n) = inr (omega (arith, ints), omega (arith, ints))

coordinate_before : (o d : ℤ) (t : ℕ) → unsigned_abs (coordinate_at o d 0) ≤ 2 ^ 44 → unsigned_abs (coordinate_at o d (suc t)) ≤ 2 ^ 44 → unsigned_abs (coordinate_at o d t) ≤ 2 ^ 44
coordinate_before o d t near h =
    let z = zero_step d in
    let P : ℤ → Type 0 = λ x. unsigned_abs (pos 65536 *ℤ o +ℤ x) ≤ 2 ^ 44 in
    on_the_way (pos 65536 *ℤ o) (pos t *ℤ d) d (same_side t d) (omega (arith, ints)) (subst P (next_step t d) h)

pub before : (ray : Ray) (t : ℕ) → 1 ≤ t → IsInWorld (point_at ray 0) → IsInWorld (point_at ray t) → IsInWorld (point_at ray (t - 1))
before ray zero some w h = absurd (omega arith)
before ray (suc t) some w h =
    let e : suc t - 1 ≡ t = omega arith in
    let P : ℕ → Type 0 = λ k. IsInWorld (point_at ray k) in
    subst P (sym e) (record {
      x = coordinate_before ray.origin.x ray.dir.x t w.x h.x;
      y = coordinate_before ray.origin.y ray.dir.y t w.y h.y;
      z = coordinate_before ray.origin.z ray.dir.z t w.z h.z;
    })

-- the components of a ray's direction
pub direction_within : (v : V3) → IsRayDirection v → IsVectorWithin 65537 v
direction_within v d = let short = d.short in record { first = omega arith; second = omega arith; third = omega arith }

pub raw_within : (z : ℤ) → unsigned_abs z ≤ 2 ^ 44 → unsigned_abs (rnd z (pos 65536)) ≤ 2 ^ 28
raw_within z h = rnd_within z 65536 (2 ^ 28) (omega arith) (omega arith)
