-- The curves of solids along a ray, and how they bend.
use Rattle.std.specs.Prelude.{ℕ, ℤ, pos, ◌+ℤ◌, ◌-ℤ◌, ◌*ℤ◌}
use Rattle.shapes.specs.Bends.{HasBend, HasBend-add, HasBend-sub, HasBend-constant, HasBend-product, HasBend-line, HasBend-times, line_at}
use Rattle.shapes.specs.Lines.{wide_at}
use Rattle.shapes.specs.Spheres.{square}
use Rattle.shapes.specs.Bodies.{terms_at}
use Rattle.shapes.specs.Lines.{sight_at}
use Rattle.shapes.specs.declared.conic.Terms.{Terms}
use Rattle.shapes.specs.declared.sight.Sight.{Sight}
use Rattle.shapes.specs.declared.wide.Length.{Length}
use Rattle.shapes.specs.declared.wide.WideLine.{WideLine}

abbrev pub twice_square : ℤ → ℤ
twice_square s = s *ℤ s +ℤ s *ℤ s

-- the square of a distance from an axis, less that of a radius
abbrev pub pipe_value : WideLine → WideLine → Length → ℕ → ℤ
pipe_value x y r t = square (wide_at x t) +ℤ square (wide_at y t) -ℤ square r.value

abbrev pub pipe_bend : WideLine → WideLine → ℤ
pipe_bend x y = (twice_square x.step +ℤ twice_square y.step) -ℤ pos 0

pub pipe-bends : (x y : WideLine) (r : Length) → HasBend (pipe_value x y r) (pipe_bend x y)
pipe-bends x y r =
    HasBend-sub (λ t. square (line_at x.at x.step t) +ℤ square (line_at y.at y.step t)) (λ t. square r.value) _ _
    (HasBend-add (λ t. square (line_at x.at x.step t)) (λ t. square (line_at y.at y.step t)) _ _ (HasBend-product x.at x.step x.at x.step) (HasBend-product y.at y.step y.at y.step))
    (HasBend-constant (square r.value))

-- the square of a distance from a point, less that of a radius
abbrev pub ball_value : WideLine → WideLine → WideLine → Length → ℕ → ℤ
ball_value x y z r t = square (wide_at x t) +ℤ square (wide_at y t) +ℤ square (wide_at z t) -ℤ square r.value

abbrev pub ball_bend : WideLine → WideLine → WideLine → ℤ
ball_bend x y z = (twice_square x.step +ℤ twice_square y.step +ℤ twice_square z.step) -ℤ pos 0

pub ball-bends : (x y z : WideLine) (r : Length) → HasBend (ball_value x y z r) (ball_bend x y z)
ball-bends x y z r =
    HasBend-sub (λ t. square (line_at x.at x.step t) +ℤ square (line_at y.at y.step t) +ℤ square (line_at z.at z.step t)) (λ t. square r.value) _ _
    (HasBend-add (λ t. square (line_at x.at x.step t) +ℤ square (line_at y.at y.step t)) (λ t. square (line_at z.at z.step t)) _ _
    (HasBend-add (λ t. square (line_at x.at x.step t)) (λ t. square (line_at y.at y.step t)) _ _ (HasBend-product x.at x.step x.at x.step) (HasBend-product y.at y.step y.at y.step))
    (HasBend-product z.at z.step z.at z.step))
    (HasBend-constant (square r.value))

-- the square of a distance from an axis, less that of a radius that changes
abbrev pub taper_value : WideLine → WideLine → WideLine → ℕ → ℤ
taper_value x y r t = square (wide_at x t) +ℤ square (wide_at y t) -ℤ square (wide_at r t)

abbrev pub taper_bend : WideLine → WideLine → WideLine → ℤ
taper_bend x y r = (twice_square x.step +ℤ twice_square y.step) -ℤ twice_square r.step

pub taper-bends : (x y r : WideLine) → HasBend (taper_value x y r) (taper_bend x y r)
taper-bends x y r =
    HasBend-sub (λ t. square (line_at x.at x.step t) +ℤ square (line_at y.at y.step t)) (λ t. square (line_at r.at r.step t)) _ _
    (HasBend-add (λ t. square (line_at x.at x.step t)) (λ t. square (line_at y.at y.step t)) _ _ (HasBend-product x.at x.step x.at x.step) (HasBend-product y.at y.step y.at y.step))
    (HasBend-product r.at r.step r.at r.step)

-- a sum of ten terms of the second degree
abbrev pub terms_bend : Terms → Sight → ℤ
terms_bend q u =
    let twice : ℤ → ℤ → ℤ = λ a b. a *ℤ b +ℤ a *ℤ b in
    q.xx.value *ℤ twice u.x.step u.x.step +ℤ q.yy.value *ℤ twice u.y.step u.y.step +ℤ q.zz.value *ℤ twice u.z.step u.z.step
    +ℤ q.xy.value *ℤ twice u.x.step u.y.step +ℤ q.xz.value *ℤ twice u.x.step u.z.step +ℤ q.yz.value *ℤ twice u.y.step u.z.step
    +ℤ q.x.value *ℤ pos 0 +ℤ q.y.value *ℤ pos 0 +ℤ q.z.value *ℤ pos 0 +ℤ pos 0

pub terms-bends : (q : Terms) (u : Sight) → HasBend (λ t. terms_at q (sight_at u t)) (terms_bend q u)
terms-bends q u =
    HasBend-add _ _ _ _ (HasBend-add _ _ _ _ (HasBend-add _ _ _ _ (HasBend-add _ _ _ _ (HasBend-add _ _ _ _ (HasBend-add _ _ _ _ (HasBend-add _ _ _ _ (HasBend-add _ _ _ _ (HasBend-add _ _ _ _
    (HasBend-times q.xx.value _ _ (HasBend-product u.x.at u.x.step u.x.at u.x.step))
    (HasBend-times q.yy.value _ _ (HasBend-product u.y.at u.y.step u.y.at u.y.step)))
    (HasBend-times q.zz.value _ _ (HasBend-product u.z.at u.z.step u.z.at u.z.step)))
    (HasBend-times q.xy.value _ _ (HasBend-product u.x.at u.x.step u.y.at u.y.step)))
    (HasBend-times q.xz.value _ _ (HasBend-product u.x.at u.x.step u.z.at u.z.step)))
    (HasBend-times q.yz.value _ _ (HasBend-product u.y.at u.y.step u.z.at u.z.step)))
    (HasBend-times q.x.value _ _ (HasBend-line u.x.at u.x.step)))
    (HasBend-times q.y.value _ _ (HasBend-line u.y.at u.y.step)))
    (HasBend-times q.z.value _ _ (HasBend-line u.z.at u.z.step)))
    (HasBend-constant q.one.value)
