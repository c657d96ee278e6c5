-- Spheres and boxes whose axes are those of the world.
use Rattle.std.specs.Prelude.{◌≡◌, ℕ, ℤ, pos, ◌+ℤ◌, ◌*ℤ◌, ◌*◌, ◌≤ℤ◌, ◌<◌, ◌/◌, unsigned_abs}
use Rattle.fix_math.specs.declared.fix.V3.{V3}
use Rattle.shapes.specs.declared.axes.Axes.{Axes}
use Rattle.shapes.specs.declared.axes.Form.{Form}
use Rattle.shapes.specs.declared.sphere.Sphere.{Sphere}
use Rattle.shapes.specs.declared.upright.Rise.{Rise}
use Rattle.shapes.specs.declared.upright.Upright.{Upright}

-- a form takes so much of each coordinate
pub record IsForm (form : Form) (a b c : ℤ) : Type 0 where
  pub x : form.x.value ≡ a
  pub y : form.y.value ≡ b
  pub z : form.z.value ≡ c

-- the axes of a solid are those of the world, by so much longer
pub record IsUpright (axes : Axes) (a b c : ℕ) : Type 0 where
  pub first : IsForm axes.first (pos a) (pos 0) (pos 0)
  pub second : IsForm axes.second (pos 0) (pos b) (pos 0)
  pub third : IsForm axes.third (pos 0) (pos 0) (pos c)
  pub first_some : 0 < a
  pub second_some : 0 < b
  pub third_some : 0 < c

-- what a radius along such axes of one length is in the world
pub record IsPlainBall (axes : Axes) (length : ℤ) (sphere : Sphere) : Type 0 where
  pub upright : IsUpright axes (unsigned_abs axes.first.x.value) (unsigned_abs axes.first.x.value) (unsigned_abs axes.first.x.value)
  pub x : sphere.centre.x ≡ axes.anchor.x
  pub y : sphere.centre.y ≡ axes.anchor.y
  pub z : sphere.centre.z ≡ axes.anchor.z
  pub radius : length ≡ pos (unsigned_abs axes.first.x.value) *ℤ (pos 65536 *ℤ sphere.radius)

-- from 0 to a length
pub record IsBetween (length z : ℤ) : Type 0 where
  pub low : pos 0 ≤ℤ z
  pub high : z ≤ℤ length

-- a number that doesn't fall, at t
abbrev pub rise_at : Rise → ℕ → ℤ
rise_at rise t = rise.at +ℤ pos (t * rise.step)

-- a point as seen from the anchor is in the box
pub record IsInUpright (upright : Upright) (u : V3) : Type 0 where
  pub x : IsBetween upright.x.length u.x
  pub y : IsBetween upright.y.length u.y
  pub z : IsBetween upright.z.length u.z

-- what a box along such axes is in the world, from its anchor on
pub record IsPlainBox (axes : Axes) (p q r : ℤ) (upright : Upright) : Type 0 where
  pub along : IsUpright axes (unsigned_abs axes.first.x.value) (unsigned_abs axes.second.y.value) (unsigned_abs axes.third.z.value)
  pub x : upright.x.length ≡ pos (unsigned_abs p / unsigned_abs axes.first.x.value)
  pub y : upright.y.length ≡ pos (unsigned_abs q / unsigned_abs axes.second.y.value)
  pub z : upright.z.length ≡ pos (unsigned_abs r / unsigned_abs axes.third.z.value)
