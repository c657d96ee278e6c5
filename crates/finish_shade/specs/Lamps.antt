-- How strong a lamp's light is: within the cone of a spotlight, and by the distance. (Reference manual, spotlights and light fading)
use Rattle.std.specs.Prelude.{ℕ, zero, suc, ℤ, pos, neg_ℤ, ◌+ℤ◌, ◌-ℤ◌, ◌*ℤ◌, ◌*◌, ◌^◌, ◌||◌, int_lt, int_le, if◌then◌else◌, Option, Some, None}
use Rattle.std.specs.Int.{int_min}
use Rattle.fix_math.specs.declared.fix.V3.{V3}
use Rattle.fix_math.specs.Numbers.{rnd, product_of}
use Rattle.fix_math.specs.Vectors.{dot_of}
use Rattle.scene_model.specs.declared.light.Fade.{Fade}
use Rattle.scene_model.specs.declared.light.Spotlight.{Spotlight}
use Rattle.finish_shade.specs.Amounts.{from_0_to_1, unit_power}

-- the cosine between a spotlight's axis and the way from the lamp, by the direction to the lamp
abbrev pub along_axis : Spotlight → V3 → ℤ
along_axis s ld = rnd (neg_ℤ (dot_of ld s.axis)) (pos 65536)

-- 3v² - 2v³, which goes smoothly from 0 to 1
abbrev pub smooth : ℤ → ℤ
smooth v = product_of (product_of v v) (pos 196608 -ℤ pos 2 *ℤ v)

-- how strong the light is between the outer cosine and the inner one, by the cosine
abbrev pub between_cones : Spotlight → ℤ → ℤ
between_cones s g =
    if int_le s.inner g || int_le s.inner s.outer then pos 65536
    else smooth (rnd ((g -ℤ s.outer) *ℤ pos 65536) (s.inner -ℤ s.outer))

abbrev pub cone_at : Spotlight → ℤ → ℤ
cone_at s g = if int_lt g s.outer then pos 0 else product_of (between_cones s g) (unit_power (from_0_to_1 g) s.tightness)

abbrev pub cone_of : Spotlight → V3 → ℤ
cone_of s ld = cone_at s (along_axis s ld)

-- how many fade distances a length is, at most 2^14 units, and a power of that, at most 2^30 units
abbrev pub distances : Fade → ℕ → ℤ
distances f length = int_min (pos (2 ^ 30)) (rnd (pos (length * 65536)) f.distance)

abbrev pub far_power : ℤ → ℕ → ℤ
far_power q zero = q
far_power q (suc zero) = q
far_power q (suc (suc k)) = int_min (pos (2 ^ 46)) (product_of (far_power q (suc k)) q)

-- light at the fade distance is as strong as the lamp's colour: 2 / (1 + distances^power)
abbrev pub fading_of : Fade → ℕ → ℤ
fading_of f length = rnd (pos (2 ^ 33)) (pos 65536 +ℤ far_power (distances f length) f.power)

-- the factors of a lamp: 1 where it isn't a spotlight, and 1 where it doesn't fade
abbrev pub cone_factor : Option Spotlight → V3 → ℤ
cone_factor None ld = pos 65536
cone_factor (Some s) ld = cone_of s ld

abbrev pub fading_factor : Option Fade → ℕ → ℤ
fading_factor None length = pos 65536
fading_factor (Some f) length = fading_of f length
