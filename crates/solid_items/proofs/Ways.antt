-- The way between two points that differ has a length, from 1 to 2^30.
use Rattle.std.proofs.Common.{◌≡◌, ◌≢◌, ◌≤◌, ◌<◌, ◌+◌, ◌*◌, ℕ, zero, suc, ℤ, pos, negsuc, refl, sym, ap, ◌∙◌, arith}
use Rattle.std.proofs.lemmas.Int.{ints}
use Rattle.std.specs.Prelude.{◌+ℤ◌, ◌-ℤ◌, ◌*ℤ◌, ◌≤ℤ◌, unsigned_abs}
use Rattle.fix_math.specs.declared.fix.V3.{V3}
use Rattle.fix_math.specs.Matrices.{IsVectorWithin}
use Rattle.fix_math.specs.Order.{square-not_negative, mul-within}
use Rattle.fix_math.specs.RootLaws.{root_order}
use Rattle.fix_math.specs.Vectors.{dot_of}
use Rattle.solid_items.specs.Solids.{origin, way_of}

-- the square of a number that isn't 0 isn't 0
some_square : (z : ℤ) → (z *ℤ z) ≤ℤ pos 0 → z ≡ pos 0
some_square (pos zero) h = refl
some_square (pos (suc n)) h = absurd (omega (arith, ints, h))
some_square (negsuc n) h = absurd (omega (arith, ints, h))

joined : (x y z : ℤ) → x ≡ pos 0 → y ≡ pos 0 → z ≡ pos 0 → ◌≡◌ {A = V3} (record { x = x; y = y; z = z }) origin
joined x y z a b c = rw (a, b, c) refl

by_count : (n : ℕ) → (n ≡ 0 → ⊥) → 1 ≤ n
by_count zero none = absurd (none refl)
by_count (suc n) none = omega arith

some_sum : (a b c : ℤ) → pos 0 ≤ℤ a → pos 0 ≤ℤ b → pos 0 ≤ℤ c → (a ≤ℤ pos 0 → b ≤ℤ pos 0 → c ≤ℤ pos 0 → ⊥) → 1 ≤ unsigned_abs (a +ℤ b +ℤ c)
some_sum a b c x y z none = by_count _ (λ e. none (omega (arith, ints, x, y, z, e)) (omega (arith, ints, x, y, z, e)) (omega (arith, ints, x, y, z, e)))

-- the square of a way that isn't <0, 0, 0> is at least 1
pub dot_some : (v : V3) → v ≢ origin → 1 ≤ unsigned_abs (dot_of v v)
dot_some v some = some_sum (v.x *ℤ v.x) (v.y *ℤ v.y) (v.z *ℤ v.z) (square-not_negative v.x) (square-not_negative v.y) (square-not_negative v.z)
    (λ a b c. some (joined v.x v.y v.z (some_square v.x a) (some_square v.y b) (some_square v.z c)))

sums : (a b c : ℤ) → unsigned_abs a ≤ 288230376151711744 → unsigned_abs b ≤ 288230376151711744 → unsigned_abs c ≤ 288230376151711744 → unsigned_abs (a +ℤ b +ℤ c) ≤ 864691128455135232
sums a b c x y z = omega (arith, ints, x, y, z)

pub dot_most : (v : V3) → IsVectorWithin 536870912 v → unsigned_abs (dot_of v v) ≤ 864691128455135232
dot_most v h = sums (v.x *ℤ v.x) (v.y *ℤ v.y) (v.z *ℤ v.z)
    (mul-within v.x v.x 536870912 536870912 h.first h.first) (mul-within v.y v.y 536870912 536870912 h.second h.second) (mul-within v.z v.z 536870912 536870912 h.third h.third)

-- a root of such a square
pub root_some : (n h : ℕ) → 1 ≤ n → n < (h + 1) * (h + 1) → 1 ≤ h
root_some n zero some most = absurd (omega (arith, some, most))
root_some n (suc h) some most = omega arith

pub root_most : (n h : ℕ) → n ≤ 864691128455135232 → h * h ≤ n → h ≤ 1073741824
root_most n h most least = omega (arith, root_order h 1073741823 (omega (arith, most, least)))

-- ends that differ have a way between them
from_nothing : (a b : ℤ) → b -ℤ a ≡ pos 0 → b ≡ a
from_nothing a b h = omega (arith, ints, h)

same : (x y z a b c : ℤ) → x ≡ a → y ≡ b → z ≡ c → ◌≡◌ {A = V3} (record { x = x; y = y; z = z }) (record { x = a; y = b; z = c })
same x y z a b c e f g = rw (e, f, g) refl

pub way_some : (a b : V3) → b ≢ a → way_of a b ≢ origin
way_some a b other is = other (same b.x b.y b.z a.x a.y a.z
    (from_nothing a.x b.x (ap (λ (v : V3). v.x) is)) (from_nothing a.y b.y (ap (λ (v : V3). v.y) is)) (from_nothing a.z b.z (ap (λ (v : V3). v.z) is)))

-- and so has one that is made part by part
pub made_some : (a b : V3) (x y z : ℤ) → x ≡ b.x -ℤ a.x → y ≡ b.y -ℤ a.y → z ≡ b.z -ℤ a.z → b ≢ a → ◌≢◌ {A = V3} (record { x = x; y = y; z = z }) origin
made_some a b x y z ex ey ez other is = way_some a b other (sym (same x y z (b.x -ℤ a.x) (b.y -ℤ a.y) (b.z -ℤ a.z) ex ey ez) ∙ is)
