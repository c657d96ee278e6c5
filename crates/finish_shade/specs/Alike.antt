-- Scenes that look alike: rays meet the same in both, and it looks the same.
use Rattle.std.specs.Prelude.{ℕ, Bool, ◌≡◌}
use Rattle.scene_model.specs.declared.scene.Scene.{Scene}
use Rattle.shapes.specs.declared.ray.Ray.{Ray}
use Rattle.shapes.specs.Rays.{Position}
use Rattle.csg_hits.specs.Surfaces.{Surfaces, is_struck, surfaces_of, without_sheets}
use Rattle.finish_shade.specs.Meetings.{look_in}

-- what rays meet of a scene's solids
abbrev pub solids_of : Scene → Surfaces
solids_of scene = without_sheets (surfaces_of scene)

pub record LookAlike (a b : Scene) : Type 0 where
  pub leaves : a.leaves.items ≡ b.leaves.items
  pub lights : a.lights.items ≡ b.lights.items
  pub struck : (ray : Ray) (shadow : Bool) (t object leaf : ℕ) → is_struck (solids_of a) ray shadow t object leaf ≡ is_struck (solids_of b) ray shadow t object leaf
  pub looks : (n : ℕ) (p : Position) → look_in a n p ≡ look_in b n p
  pub background : a.background ≡ b.background
  pub ambient_light : a.ambient_light ≡ b.ambient_light
  pub levels : a.levels ≡ b.levels
  pub adc : a.adc ≡ b.adc
