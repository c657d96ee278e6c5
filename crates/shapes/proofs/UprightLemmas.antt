-- Solids whose axes are those of the world, as seen along those.
use Rattle.std.proofs.Common.{ℕ, ℤ, pos, negsuc, ◌*◌, ◌/◌, ◌<◌, ◌≤◌, ◌+ℤ◌, ◌-ℤ◌, ◌*ℤ◌, ◌≤ℤ◌, ◌<ℤ◌, ◌≡◌, ◌↔◌, ◌∙◌, refl, arith, unsigned_abs, int_le, Bool, true, ◌&&◌, nat_lt, [], ◌∷◌, ◌++◌, ap}
use Rattle.std.proofs.Math.Nat.{le-div_iff_mul-le}
use Rattle.std.proofs.lemmas.Int.{ints}
use Rattle.fix_math.specs.declared.fix.V3.{V3}
use Rattle.fix_math.specs.Order.{mul-le_right, le_from_mul-le_right}
use Rattle.fix_math.specs.Ring.{diff-parts, diff-same, ring_rules}
use Rattle.shapes.specs.Bodies.{form_at, own_of}
use Rattle.shapes.specs.Faces.{seen_from, in_ball, ends, all_hold}
use Rattle.shapes.specs.Lines.{IsInStretches, is_in_stretches, value_at, sight_at, square_distance_at}
use Rattle.shapes.specs.Rays.{Position}
use Rattle.shapes.specs.Spheres.{square, offset_from, IsInSphere}
use Rattle.shapes.specs.Upright.{IsForm, IsUpright, IsPlainBall, IsBetween, IsInUpright, IsPlainBox}
use Rattle.shapes.specs.declared.axes.Axes.{Axes}
use Rattle.shapes.specs.declared.axes.Form.{Form}
use Rattle.shapes.specs.declared.parts.Stretches.{Stretches}
use Rattle.shapes.specs.declared.sight.Sight.{Sight}
use Rattle.shapes.specs.declared.sphere.Sphere.{Sphere}
use Rattle.shapes.specs.declared.upright.Upright.{Upright}
use Rattle.shapes.proofs.Slabs.{near_from_squares}
use Rattle.shapes.proofs.Told.{told, same_test, and_test, int_test, end_test, ends_test, ball_test, InBall, Between}

along_first : (f : Form) (k : ℤ) (u : V3) → IsForm f k (pos 0) (pos 0) → form_at f u ≡ u.x *ℤ k
along_first f k u h = rw (h.x, h.y, h.z) (omega (arith, ints))

along_second : (f : Form) (k : ℤ) (u : V3) → IsForm f (pos 0) k (pos 0) → form_at f u ≡ u.y *ℤ k
along_second f k u h = rw (h.x, h.y, h.z) (omega (arith, ints))

along_third : (f : Form) (k : ℤ) (u : V3) → IsForm f (pos 0) (pos 0) k → form_at f u ≡ u.z *ℤ k
along_third f k u h = rw (h.x, h.y, h.z) (omega (arith, ints))

-- ---- spheres

squares_scaled : (x y z k : ℤ) → square (x *ℤ k) +ℤ square (y *ℤ k) +ℤ square (z *ℤ k) ≡ (square x +ℤ square y +ℤ square z) *ℤ (k *ℤ k)
squares_scaled x y z k = rw (diff-parts x, diff-parts y, diff-parts z, diff-parts k) (simp ring_rules (diff-same _ _ _ _ (omega arith)))

square_scaled : (r k : ℤ) → square (k *ℤ r) ≡ square r *ℤ (k *ℤ k)
square_scaled r k = rw (diff-parts r, diff-parts k) (simp ring_rules (diff-same _ _ _ _ (omega arith)))

some_square : (k : ℕ) → 0 < k → pos 0 <ℤ (pos k *ℤ pos k)
some_square k h = grind (arith, ints)

ball_iff : (k : ℕ) (x y z r : ℤ) → 0 < k → InBall (pos k *ℤ r) (x *ℤ pos k) (y *ℤ pos k) (z *ℤ pos k) ↔ ((square x +ℤ square y +ℤ square z) ≤ℤ square r)
ball_iff k x y z r some =
    let e = squares_scaled x y z (pos k) in
    let f = square_scaled r (pos k) in
    let low = some_square k some in (
      λ h. le_from_mul-le_right (square x +ℤ square y +ℤ square z) (square r) (pos k *ℤ pos k) low (rw (e, f) at h.1.1.1),
      λ h. let m = mul-le_right (square x +ℤ square y +ℤ square z) (square r) (pos k *ℤ pos k) (omega (arith, ints)) h in
          let n : (square (x *ℤ pos k) +ℤ square (y *ℤ pos k) +ℤ square (z *ℤ pos k)) ≤ℤ square (pos k *ℤ r) = rw (e, f) m in
          let i = near_from_squares (x *ℤ pos k) (y *ℤ pos k) (z *ℤ pos k) (pos k *ℤ r) n in
          (i.0, (i.1, (i.2, n))),
    )

ball_along : (axes : Axes) (k : ℕ) (r : ℤ) (u : V3) → IsUpright axes k k k → (in_ball (pos k *ℤ r) (own_of axes u) ≡ true) ↔ ((square u.x +ℤ square u.y +ℤ square u.z) ≤ℤ square r)
ball_along axes k r u h =
    let q = ball_test (pos k *ℤ r) (own_of axes u) in
    let i = ball_iff k u.x u.y u.z r h.first_some in
    let ex = along_first axes.first (pos k) u h.first in
    let ey = along_second axes.second (pos k) u h.second in
    let ez = along_third axes.third (pos k) u h.third in (
      λ b. i.0 (rw (ex, ey, ez) at (q.0 b)),
      λ s. q.1 (rw (ex, ey, ez) (i.1 s)),
    )

ball_at : (axes : Axes) (length : ℤ) (sphere : Sphere) (p : Position) → IsPlainBall axes length sphere → (in_ball length (own_of axes (seen_from axes.anchor p)) ≡ true) ↔ IsInSphere sphere.centre sphere.radius p
ball_at axes length sphere p h =
    let i = ball_along axes (unsigned_abs axes.first.x.value) (pos 65536 *ℤ sphere.radius) (seen_from axes.anchor p) h.upright in
    rw (h.x, h.y, h.z, h.radius) i

-- the numbers of a path in a sphere
pub plain_ball_told : (s : Stretches) (t end : ℕ) (a : Type 0) (axes : Axes) (length : ℤ) (sphere : Sphere) (p : Position) → IsPlainBall axes length sphere
    → IsInStretches s t ↔ a → a ↔ ((t < end) × IsInSphere sphere.centre sphere.radius p)
    → is_in_stretches s t ≡ (nat_lt t end && all_hold (in_ball length (own_of axes (seen_from axes.anchor p)) ∷ []))
plain_ball_told s t end a axes length sphere p h f g =
    told s t end _ (IsInSphere sphere.centre sphere.radius p) (end_test _ _ (ball_at axes length sphere p h)) (
      λ i. g.0 (f.0 i),
      λ k. f.1 (g.1 k),
    )

-- a point at a sight's start, by the square of its distance
pub in_sphere_test : (d : Sight) (centre : V3) (radius value limit long : ℤ) (p : Position) → value ≡ square_distance_at d.x d.y d.z 0
    → sight_at d 0 ≡ seen_from centre p → limit ≡ square long → long ≡ pos 65536 *ℤ radius → (int_le value limit ≡ true) ↔ IsInSphere centre radius p
in_sphere_test d centre radius value limit long p is seen most scaled =
    let x : value_at d.x 0 ≡ offset_from centre.x p.x = ap (λ (v : V3). v.x) seen in
    let y : value_at d.y 0 ≡ offset_from centre.y p.y = ap (λ (v : V3). v.y) seen in
    let z : value_at d.z 0 ≡ offset_from centre.z p.z = ap (λ (v : V3). v.z) seen in
    rw (is, x, y, z, most, scaled) (int_test _ _)

-- whether a point is in a sphere
pub plain_ball_has : (b : Bool) (axes : Axes) (length : ℤ) (sphere : Sphere) (p : Position) → IsPlainBall axes length sphere
    → (b ≡ true) ↔ IsInSphere sphere.centre sphere.radius p → b ≡ in_ball length (own_of axes (seen_from axes.anchor p))
plain_ball_has b axes length sphere p h f =
    let i = ball_at axes length sphere p h in
    same_test _ _ (λ e. i.1 (f.0 e)) (λ e. f.1 (i.0 e))

same_scales : (axes : Axes) (a b c k m n : ℕ) → IsUpright axes a b c → a ≡ k → b ≡ m → c ≡ n → IsUpright axes k m n
same_scales axes a b c k m n h e f g = rw (e, f, g) at h

size_is : (v : ℤ) (n : ℕ) → v ≡ pos n → n ≡ unsigned_abs v
size_is v n e = rw e refl

scaled_radius : (length raw : ℤ) (k long n : ℕ) → pos 0 ≤ℤ length → unsigned_abs length ≡ long * k → long ≡ n * 65536 → raw ≡ pos n → length ≡ pos k *ℤ (pos 65536 *ℤ raw)
scaled_radius (negsuc m) raw k long n low e f g = absurd (omega (arith, ints))
scaled_radius (pos m) raw k long n low e f g = let d : m ≡ (n * 65536) * k = rw f at e in rw g (omega (arith, ints, d))

-- a sphere of the world from what is left of its radius
pub plain_ball : (axes : Axes) (length : ℤ) (sphere : Sphere) (k b c long n : ℕ) → IsUpright axes k b c → b ≡ k → c ≡ k → pos 0 ≤ℤ length
    → unsigned_abs length ≡ long * k → long ≡ n * 65536 → sphere.centre ≡ axes.anchor → sphere.radius ≡ pos n → IsPlainBall axes length sphere
plain_ball axes length sphere k b c long n h eb ec low el er centre radius =
    let s = size_is axes.first.x.value k h.first.x in record {
      upright = same_scales axes k b c _ _ _ h s (eb ∙ s) (ec ∙ s);
      x = ap (λ (v : V3). v.x) centre;
      y = ap (λ (v : V3). v.y) centre;
      z = ap (λ (v : V3). v.z) centre;
      radius = rw (← s) (scaled_radius length sphere.radius k long n low el er radius);
    }

-- ---- boxes

low_iff : (k : ℕ) (u : ℤ) → 0 < k → (pos 0 ≤ℤ (u *ℤ pos k)) ↔ (pos 0 ≤ℤ u)
low_iff k u some = (
  λ h. le_from_mul-le_right (pos 0) u (pos k) (omega (arith, ints)) (omega (arith, ints)),
  λ h. let m = mul-le_right (pos 0) u (pos k) (omega (arith, ints)) h in omega (arith, ints),
)

high_iff : (k : ℕ) (side u : ℤ) → 0 < k → pos 0 ≤ℤ side → pos 0 ≤ℤ u → ((u *ℤ pos k) ≤ℤ side) ↔ (u ≤ℤ pos (unsigned_abs side / k))
high_iff k (negsuc n) u some low up = absurd (omega (arith, ints))
high_iff k side (negsuc m) some low up = absurd (omega (arith, ints))
high_iff k (pos n) (pos m) some low up =
    let i : (m ≤ n / k) ↔ (m * k ≤ n) = le-div_iff_mul-le some in (
      λ h. let j : m * k ≤ n = omega (arith, ints) in omega (arith, ints, i.1 j),
      λ h. let j : m ≤ n / k = omega (arith, ints) in omega (arith, ints, i.0 j),
    )

side_iff : (k : ℕ) (side u v length : ℤ) → 0 < k → pos 0 ≤ℤ side → v ≡ u *ℤ pos k → length ≡ pos (unsigned_abs side / k) → Between side v ↔ IsBetween length u
side_iff k side u v length some low e f =
    let a = low_iff k u some in (
      λ b. let i = a.0 (rw (← e) b.0) in record { low = i; high = rw f ((high_iff k side u some low i).0 (rw (← e) b.1)) },
      λ b. let i : u ≤ℤ pos (unsigned_abs side / k) = rw (← f) b.high in rw e (a.1 b.low, (high_iff k side u some low b.low).1 i),
    )

-- a box of the world from what is left of its sides
pub plain_box : (axes : Axes) (x y z : ℤ) (upright : Upright) (a b c : ℕ) → IsUpright axes a b c
    → upright.x.length ≡ pos (unsigned_abs x / a) → upright.y.length ≡ pos (unsigned_abs y / b) → upright.z.length ≡ pos (unsigned_abs z / c) → IsPlainBox axes x y z upright
plain_box axes x y z upright a b c h ex ey ez =
    let p = size_is axes.first.x.value a h.first.x in
    let q = size_is axes.second.y.value b h.second.y in
    let r = size_is axes.third.z.value c h.third.z in record {
      along = same_scales axes a b c _ _ _ h p q r;
      x = rw (← p) ex;
      y = rw (← q) ey;
      z = rw (← r) ez;
    }

-- the numbers of a path in a box
pub plain_box_told : (s : Stretches) (t end : ℕ) (a : Type 0) (axes : Axes) (x y z : ℤ) (upright : Upright) (u : V3) → IsPlainBox axes x y z upright
    → pos 0 ≤ℤ x → pos 0 ≤ℤ y → pos 0 ≤ℤ z → IsInStretches s t ↔ a → a ↔ ((t < end) × IsInUpright upright u)
    → is_in_stretches s t ≡ (nat_lt t end && all_hold (ends x (own_of axes u).x ++ (ends y (own_of axes u).y ++ ends z (own_of axes u).z)))
plain_box_told s t end a axes x y z upright u h low_x low_y low_z f g =
    let l = own_of axes u in
    let w = h.along in
    let i = side_iff (unsigned_abs axes.first.x.value) x u.x l.x _ w.first_some low_x (along_first axes.first (pos (unsigned_abs axes.first.x.value)) u w.first) h.x in
    let j = side_iff (unsigned_abs axes.second.y.value) y u.y l.y _ w.second_some low_y (along_second axes.second (pos (unsigned_abs axes.second.y.value)) u w.second) h.y in
    let k = side_iff (unsigned_abs axes.third.z.value) z u.z l.z _ w.third_some low_z (along_third axes.third (pos (unsigned_abs axes.third.z.value)) u w.third) h.z in
    told s t end _ ((pos 0 ≤ℤ l.x) × ((l.x ≤ℤ x) × ((pos 0 ≤ℤ l.y) × ((l.y ≤ℤ y) × Between z l.z))))
    (and_test _ _ _ _ (int_test (pos 0) l.x) (and_test _ _ _ _ (int_test l.x x) (and_test _ _ _ _ (int_test (pos 0) l.y) (and_test _ _ _ _ (int_test l.y y) (ends_test z l.z))))) (
      λ v. let q = g.0 (f.0 v) in let bx = i.1 q.1.x in let by = j.1 q.1.y in let bz = k.1 q.1.z in
          (q.0, (bx.0, (bx.1, (by.0, (by.1, bz))))),
      λ v. let q = v.1 in f.1 (g.1 (v.0, record { x = i.0 (q.0, q.1.0); y = j.0 (q.1.1.0, q.1.1.1.0); z = k.0 q.1.1.1.1 })),
    )

-- ---- lines that fall

pub turned_line : (a l s : ℤ) (t : ℕ) → s <ℤ pos 0 → (l -ℤ a) +ℤ pos (t * unsigned_abs s) ≡ l -ℤ (a +ℤ pos t *ℤ s)
turned_line a l (pos n) t h = absurd (omega (arith, ints))
turned_line a l (negsuc n) t h = omega (arith, ints)

pub straight_line : (a s : ℤ) (t : ℕ) → pos 0 ≤ℤ s → a +ℤ pos (t * unsigned_abs s) ≡ a +ℤ pos t *ℤ s
straight_line a (pos n) t h = omega (arith, ints)
straight_line a (negsuc n) t h = absurd (omega (arith, ints))

pub turned_iff : (length u v : ℤ) → v ≡ length -ℤ u → IsBetween length v ↔ IsBetween length u
turned_iff length u v e = (
  λ b. let p = b.low in let q = b.high in record { low = omega (arith, ints, e, q); high = omega (arith, ints, e, p) },
  λ b. let p = b.low in let q = b.high in record { low = omega (arith, ints, e, q); high = omega (arith, ints, e, p) },
)

pub same_iff : (length u v : ℤ) → v ≡ u → IsBetween length v ↔ IsBetween length u
same_iff length u v e = (λ b. rw e at b, λ b. rw e b)
