-- What a ray shows that has a level left.
use Rattle.std.proofs.Common.{ℕ, suc, ◌-◌, ◌<◌, ◌≡◌, false, ℤ, List, Some, ap, sym, subst, ◌∙◌, arith}
use Rattle.scene_model.specs.declared.scene.Scene.{Scene}
use Rattle.shapes.specs.declared.ray.Ray.{Ray}
use Rattle.csg_hits.specs.declared.world.Hit.{Hit}
use Rattle.csg_hits.specs.Hits.{IsHit, IsNearest}
use Rattle.csg_hits.specs.Surfaces.{Surfaces}
use Rattle.finish_shade.specs.declared.lit.Lit.{Lit}
use Rattle.finish_shade.specs.declared.met.Met.{Met}
use Rattle.finish_shade.specs.Amounts.{is_weak, let_through, weight_of}
use Rattle.finish_shade.specs.Arrivals.{IsLit, unlit}
use Rattle.finish_shade.specs.Finishes.{opacity, shown}
use Rattle.finish_shade.specs.Meetings.{met_at, ray_back, ray_on}
use Rattle.finish_shade.specs.Shades.{IsShade, shown_by}

pub level_left : (levels : ℕ) → 0 < levels → suc (levels - 1) ≡ levels
level_left levels some = omega arith

pub misses : (s : Surfaces) (scene : Scene) (levels : ℕ) (ray : Ray) (weight : ℤ) → 0 < levels → is_weak scene.adc weight ≡ false → ((t object leaf : ℕ) → ¬ IsHit s ray 63 false t object leaf) → IsShade s scene levels ray weight scene.background
misses s scene levels ray weight some strong free =
    let P : ℕ → Type 0 = λ n. IsShade s scene n ray weight scene.background in subst P (level_left levels some) (IsShade.missed (levels - 1) ray weight strong free)

pub meets : (s : Surfaces) (scene : Scene) (levels : ℕ) (ray : Ray) (weight : ℤ) (hit : Hit) (met : Met) (lit : Lit) (thrown passed colour : List ℤ) (opaque : ℤ) (through : List ℤ) → 0 < levels → is_weak scene.adc weight ≡ false
    → IsNearest s ray 63 false hit → met_at scene ray hit ≡ Some met → IsLit s scene ray.dir met (unlit scene met) scene.lights.items lit
    → IsShade s scene (levels - 1) (ray_back ray met) (weight_of weight met.look.finish.reflection) thrown
    → IsShade s scene (levels - 1) (ray_on ray met) (weight_of weight (let_through met.look.colour)) passed
    → opaque ≡ opacity met.look.colour → through ≡ let_through met.look.colour → colour ≡ shown opaque lit.own lit.highlights met.look.finish.reflection thrown through passed
    → IsShade s scene levels ray weight colour
meets s scene levels ray weight hit met lit thrown passed colour opaque through some strong near at lights back on o t is =
    let P : ℕ → Type 0 = λ n. IsShade s scene n ray weight (shown_by met lit thrown passed) in
    let Q : List ℤ → Type 0 = λ c. IsShade s scene levels ray weight c in
    let same : colour ≡ shown_by met lit thrown passed =
    is ∙ (ap (λ (z : ℤ). shown z lit.own lit.highlights met.look.finish.reflection thrown through passed) o ∙ ap (λ (c : List ℤ). shown (opacity met.look.colour) lit.own lit.highlights met.look.finish.reflection thrown c passed) t) in
    subst Q (sym same) (subst P (level_left levels some) (IsShade.struck (levels - 1) ray weight hit met lit thrown passed strong near at lights back on))
