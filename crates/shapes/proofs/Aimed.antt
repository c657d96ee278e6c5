-- A ray that passes a sphere: the square of the distance as a polynomial.
use Rattle.std.proofs.Common.{ℕ, ℤ, pos, ◌*◌, ◌^◌, ◌≤◌, ◌+ℤ◌, ◌-ℤ◌, ◌*ℤ◌, ◌≤ℤ◌, ◌<ℤ◌, ◌≡◌, FitsSigned, unsigned_abs, arith}
use Rattle.std.proofs.lemmas.Int.{ints, by_lt_z, fits_signed_from_abs}
use mir.Syntax.{w128}
use Rattle.fix_math.specs.Order.{square-not_negative, mul-within, mul-le_left}
use Rattle.fix_math.specs.Ring.{diff-parts, diff-same, ring_rules, mul-add_left}
use Rattle.shapes.specs.Spheres.{square}
use Rattle.shapes.specs.Aims.{dot_of, length_square_of}
use Rattle.shapes.specs.Spheres.{offset_from, IsInSphere}
use Rattle.shapes.specs.Rays.{coordinate_at, point_at}
use Rattle.shapes.specs.declared.ray.Ray.{Ray}
use Rattle.fix_math.specs.declared.fix.V3.{V3}

-- the polynomial times the square of the direction's length
completed : (a b g t p q r : ℤ) → r ≡ p *ℤ p → q ≡ p +ℤ p → a *ℤ (r *ℤ g +ℤ q *ℤ (t *ℤ b) +ℤ (t *ℤ t) *ℤ a) ≡ ((a *ℤ t +ℤ p *ℤ b) *ℤ (a *ℤ t +ℤ p *ℤ b)) +ℤ (r *ℤ (a *ℤ g -ℤ b *ℤ b))
completed a b g t p q r e f = rw (e, f, diff-parts a, diff-parts b, diff-parts g, diff-parts t, diff-parts p) (simp ring_rules (diff-same _ _ _ _ (omega arith)))

pub beside : (a b g : ℤ) (t : ℕ) → pos 0 ≤ℤ a → (b *ℤ b) <ℤ (a *ℤ g) → pos 0 <ℤ ((pos (2 ^ 32) *ℤ g) +ℤ (pos (2 ^ 17) *ℤ (pos t *ℤ b)) +ℤ ((pos t *ℤ pos t) *ℤ a))
beside a b g t sign h =
    let f : ℤ = (pos (2 ^ 32) *ℤ g) +ℤ (pos (2 ^ 17) *ℤ (pos t *ℤ b)) +ℤ ((pos t *ℤ pos t) *ℤ a) in
    let e = completed a b g (pos t) (pos 65536) (pos (2 ^ 17)) (pos (2 ^ 32)) (omega (arith, ints)) (omega (arith, ints)) in
    let s = square-not_negative (a *ℤ pos t +ℤ pos 65536 *ℤ b) in
    by_lt_z (pos 0) f (λ lt. lt) (λ le.
    let k : (a *ℤ f) ≤ℤ (a *ℤ pos 0) = mul-le_left f (pos 0) a sign le in
    absurd (omega (arith, ints)))

pub behind : (a b g : ℤ) (t : ℕ) → pos 0 ≤ℤ a → pos 0 <ℤ g → pos 0 ≤ℤ b → pos 0 <ℤ ((pos (2 ^ 32) *ℤ g) +ℤ (pos (2 ^ 17) *ℤ (pos t *ℤ b)) +ℤ ((pos t *ℤ pos t) *ℤ a))
behind a b g t sign some ahead =
    let k : (pos t *ℤ pos 0) ≤ℤ (pos t *ℤ b) = mul-le_left (pos 0) b (pos t) (omega (arith, ints)) ahead in
    let m : ((pos t *ℤ pos t) *ℤ pos 0) ≤ℤ ((pos t *ℤ pos t) *ℤ a) = mul-le_left (pos 0) a (pos t *ℤ pos t) (square-not_negative (pos t)) sign in
    omega (arith, ints)

axis_square : (w d t p q r : ℤ) → r ≡ p *ℤ p → q ≡ p +ℤ p → (p *ℤ w +ℤ t *ℤ d) *ℤ (p *ℤ w +ℤ t *ℤ d) ≡ r *ℤ (w *ℤ w) +ℤ q *ℤ (t *ℤ (w *ℤ d)) +ℤ (t *ℤ t) *ℤ (d *ℤ d)
axis_square w d t p q r e f = rw (e, f, diff-parts w, diff-parts d, diff-parts t, diff-parts p) (simp ring_rules (diff-same _ _ _ _ (omega arith)))

pub products_fit : (a b g : ℤ) → unsigned_abs a ≤ 2 ^ 48 → unsigned_abs b ≤ 2 ^ 48 → unsigned_abs g ≤ 2 ^ 61 → FitsSigned w128 (b *ℤ b) × FitsSigned w128 (a *ℤ g)
products_fit a b g ha hb hg =
    let k : unsigned_abs (b *ℤ b) ≤ 2 ^ 48 * 2 ^ 48 = mul-within b b _ _ hb hb in
    let m : unsigned_abs (a *ℤ g) ≤ 2 ^ 48 * 2 ^ 61 = mul-within a g _ _ ha hg in
    (fits_signed_from_abs w128 _ (omega (arith, ints)), fits_signed_from_abs w128 _ (omega (arith, ints)))

collected : (p q a b c r x y z u v w : ℤ) → ((p *ℤ a +ℤ q *ℤ x +ℤ u) +ℤ (p *ℤ b +ℤ q *ℤ y +ℤ v) +ℤ (p *ℤ c +ℤ q *ℤ z +ℤ w)) -ℤ (p *ℤ r) ≡ p *ℤ ((a +ℤ b +ℤ c) -ℤ r) +ℤ q *ℤ (x +ℤ y +ℤ z) +ℤ (u +ℤ v +ℤ w)
collected p q a b c r x y z u v w = rw (diff-parts p, diff-parts q, diff-parts a, diff-parts b, diff-parts c, diff-parts r, diff-parts x, diff-parts y, diff-parts z, diff-parts u, diff-parts v, diff-parts w) (simp ring_rules (diff-same _ _ _ _ (omega arith)))

long_square' : (r p q : ℤ) → q ≡ p *ℤ p → (p *ℤ r) *ℤ (p *ℤ r) ≡ q *ℤ (r *ℤ r)
long_square' r p q e = rw (e, diff-parts r, diff-parts p) (simp ring_rules (diff-same _ _ _ _ (omega arith)))

long_square : (r : ℤ) → (pos 65536 *ℤ r) *ℤ (pos 65536 *ℤ r) ≡ pos (2 ^ 32) *ℤ (r *ℤ r)
long_square r = let e : pos (2 ^ 32) ≡ pos 65536 *ℤ pos 65536 = omega (arith, ints) in long_square' r (pos 65536) _ e

-- the square of the distance of a ray's point from a centre, less the radius's
pub distance_square : (x y z a b c r : ℤ) (t : ℕ) → ((square (pos 65536 *ℤ x +ℤ pos t *ℤ a)) +ℤ (square (pos 65536 *ℤ y +ℤ pos t *ℤ b)) +ℤ (square (pos 65536 *ℤ z +ℤ pos t *ℤ c))) -ℤ square (pos 65536 *ℤ r)
    ≡ (pos (2 ^ 32) *ℤ (dot_of x y z x y z -ℤ (r *ℤ r))) +ℤ (pos (2 ^ 17) *ℤ (pos t *ℤ dot_of x y z a b c)) +ℤ ((pos t *ℤ pos t) *ℤ dot_of a b c a b c)
distance_square x y z a b c r t =
    let ex = axis_square x a (pos t) (pos 65536) (pos (2 ^ 17)) (pos (2 ^ 32)) (omega (arith, ints)) (omega (arith, ints)) in
    let ey = axis_square y b (pos t) (pos 65536) (pos (2 ^ 17)) (pos (2 ^ 32)) (omega (arith, ints)) (omega (arith, ints)) in
    let ez = axis_square z c (pos t) (pos 65536) (pos (2 ^ 17)) (pos (2 ^ 32)) (omega (arith, ints)) (omega (arith, ints)) in
    let er = long_square r in
    let d1 = mul-add_left (pos t) (x *ℤ a +ℤ y *ℤ b) (z *ℤ c) in
    let d2 = mul-add_left (pos t) (x *ℤ a) (y *ℤ b) in
    let d3 = mul-add_left (pos t *ℤ pos t) (a *ℤ a +ℤ b *ℤ b) (c *ℤ c) in
    let d4 = mul-add_left (pos t *ℤ pos t) (a *ℤ a) (b *ℤ b) in
    rw (ex, ey, ez, er, d1, d2, d3, d4) (collected (pos (2 ^ 32)) (pos (2 ^ 17)) (x *ℤ x) (y *ℤ y) (z *ℤ z) (r *ℤ r) (pos t *ℤ (x *ℤ a)) (pos t *ℤ (y *ℤ b)) (pos t *ℤ (z *ℤ c)) (pos t *ℤ pos t *ℤ (a *ℤ a)) (pos t *ℤ pos t *ℤ (b *ℤ b)) (pos t *ℤ pos t *ℤ (c *ℤ c)))

pub length-not_negative : (v : V3) → pos 0 ≤ℤ length_square_of v
length-not_negative v = let x = square-not_negative v.x in let y = square-not_negative v.y in let z = square-not_negative v.z in omega (arith, ints)

offset_side : (o k d : ℤ) (t : ℕ) → offset_from k (coordinate_at o d t) ≡ (pos 65536 *ℤ (o -ℤ k)) +ℤ (pos t *ℤ d)
offset_side o k d t = omega (arith, ints)

less_absurd : (p q : ℤ) → pos 0 <ℤ (p -ℤ q) → p ≤ℤ q → ⊥
less_absurd p q h k = absurd (omega (arith, ints))

-- a ray that is away from a sphere is in it nowhere
pub away : (ray : Ray) (centre : V3) (r x y z b g a : ℤ) (t : ℕ) → x ≡ ray.origin.x -ℤ centre.x → y ≡ ray.origin.y -ℤ centre.y → z ≡ ray.origin.z -ℤ centre.z
    → b ≡ dot_of x y z ray.dir.x ray.dir.y ray.dir.z → g ≡ dot_of x y z x y z -ℤ (r *ℤ r) → a ≡ length_square_of ray.dir
    → pos 0 <ℤ ((pos (2 ^ 32) *ℤ g) +ℤ (pos (2 ^ 17) *ℤ (pos t *ℤ b)) +ℤ ((pos t *ℤ pos t) *ℤ a)) → ¬ IsInSphere centre r (point_at ray t)
away ray centre r x y z b g a t ex ey ez eb eg ea h inside =
    let e = distance_square x y z ray.dir.x ray.dir.y ray.dir.z r t in
    let k : pos 0 <ℤ (((square (pos 65536 *ℤ x +ℤ pos t *ℤ ray.dir.x)) +ℤ (square (pos 65536 *ℤ y +ℤ pos t *ℤ ray.dir.y)) +ℤ (square (pos 65536 *ℤ z +ℤ pos t *ℤ ray.dir.z))) -ℤ square (pos 65536 *ℤ r)) = rw e (rw (eb, eg, ea) at h) in
    let m : ((square (pos 65536 *ℤ x +ℤ pos t *ℤ ray.dir.x)) +ℤ (square (pos 65536 *ℤ y +ℤ pos t *ℤ ray.dir.y)) +ℤ (square (pos 65536 *ℤ z +ℤ pos t *ℤ ray.dir.z))) ≤ℤ square (pos 65536 *ℤ r) =
    rw (ex, ey, ez) (rw (offset_side ray.origin.x centre.x ray.dir.x t, offset_side ray.origin.y centre.y ray.dir.y t, offset_side ray.origin.z centre.z ray.dir.z t) at inside) in
    less_absurd _ _ k m
