-- The colour that a ray shows. (Reference manual, finish, max_trace_level and adc_bailout)
use Rattle.std.specs.Prelude.{ℕ, zero, suc, ℤ, ◌≡◌, true, false, List, Some}
use Rattle.scene_model.specs.declared.scene.Scene.{Scene}
use Rattle.shapes.specs.declared.ray.Ray.{Ray}
use Rattle.csg_hits.specs.declared.world.Hit.{Hit}
use Rattle.csg_hits.specs.Hits.{IsHit, IsNearest}
use Rattle.csg_hits.specs.Surfaces.{Surfaces}
use Rattle.finish_shade.specs.Amounts.{black, is_weak, let_through, weight_of}
use Rattle.finish_shade.specs.declared.lit.Lit.{Lit}
use Rattle.finish_shade.specs.declared.met.Met.{Met}
use Rattle.finish_shade.specs.Arrivals.{IsLit, unlit}
use Rattle.finish_shade.specs.Finishes.{opacity, shown}
use Rattle.finish_shade.specs.Meetings.{met_at, ray_back, ray_on}

-- what a surface shows: of its own light, the highlights, and the two rays that go on
abbrev pub shown_by : Met → Lit → List ℤ → List ℤ → List ℤ
shown_by met lit thrown passed =
    shown (opacity met.look.colour) lit.own lit.highlights met.look.finish.reflection thrown (let_through met.look.colour) passed

-- a ray of this weight, behind which so many levels of rays are left, shows this colour: none where no level is left or where it counts
-- for too little, the background where it meets nothing, and else what the surface shows that it meets first
pub data IsShade (s : Surfaces) (scene : Scene) : ℕ → Ray → ℤ → List ℤ → Type 0 where
  spent : (ray : Ray) (weight : ℤ) → IsShade s scene zero ray weight black
  weak : (levels : ℕ) (ray : Ray) (weight : ℤ) → is_weak scene.adc weight ≡ true → IsShade s scene levels ray weight black
  missed : (levels : ℕ) (ray : Ray) (weight : ℤ) → is_weak scene.adc weight ≡ false → ((t object leaf : ℕ) → ¬ IsHit s ray 63 false t object leaf)
      → IsShade s scene (suc levels) ray weight scene.background
  struck : (levels : ℕ) (ray : Ray) (weight : ℤ) (hit : Hit) (met : Met) (lit : Lit) (thrown passed : List ℤ) → is_weak scene.adc weight ≡ false
      → IsNearest s ray 63 false hit → met_at scene ray hit ≡ Some met → IsLit s scene ray.dir met (unlit scene met) scene.lights.items lit
      → IsShade s scene levels (ray_back ray met) (weight_of weight met.look.finish.reflection) thrown
      → IsShade s scene levels (ray_on ray met) (weight_of weight (let_through met.look.colour)) passed
      → IsShade s scene (suc levels) ray weight (shown_by met lit thrown passed)
