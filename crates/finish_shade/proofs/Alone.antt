-- What a ray shows of a surface that shows no more than its own light.
use Rattle.std.proofs.Common.{ℕ, ◌-◌, ◌<◌, ◌≡◌, ℤ, Bool, true, false, ◌&&◌, nat_eq, Option, Some, None, List, [], ◌∷◌, length, slice_get, refl, ap, sym, subst, ⊎_elim, ◌∙◌, arith}
use Rattle.std.proofs.lemmas.Bool.{and_parts, eqb-true, or_cases}
use Rattle.scene_model.specs.declared.light.Light.{Light}
use Rattle.scene_model.specs.declared.scene.Scene.{Scene}
use Rattle.scene_model.specs.declared.shape.Leaf.{Leaf}
use Rattle.shapes.specs.declared.ray.Ray.{Ray}
use Rattle.shapes.specs.Rays.{point_at}
use Rattle.csg_hits.specs.declared.world.Hit.{Hit}
use Rattle.csg_hits.specs.Hits.{IsNearest}
use Rattle.csg_hits.specs.Surfaces.{Surfaces}
use Rattle.finish_shade.specs.declared.met.Look.{Look}
use Rattle.finish_shade.specs.declared.met.Met.{Met}
use Rattle.finish_shade.specs.Alone.{is_dull, is_end, is_unlit, shows_itself}
use Rattle.finish_shade.specs.Amounts.{black, is_weak, let_through, weight_of}
use Rattle.finish_shade.specs.Arrivals.{IsLit, unlit}
use Rattle.finish_shade.specs.Finishes.{ambient_part, opacity, shown}
use Rattle.finish_shade.specs.Meetings.{CanShow, leaf_look, leaf_outward, look_at, met_at, met_by, met_leaf, raw_point, ray_back, ray_on}
use Rattle.finish_shade.specs.Directions.{turned_against}
use Rattle.finish_shade.specs.Shades.{IsShade, shown_by}
use Rattle.finish_shade.proofs.Crossed.{solids}
use Rattle.finish_shade.proofs.Dull.{unlit_by_all}
use Rattle.finish_shade.proofs.Shown.{level_left}

-- the surface that looks so
abbrev Meets : Scene → Ray → Hit → Look → Type 0
Meets scene ray hit look = (met : Met) × (met_at scene ray hit ≡ Some met) × (met.look ≡ look)

met_so : (scene : Scene) (ray : Ray) (hit : Hit) (look : Look) (o : Option Leaf) → slice_get scene.leaves.items hit.leaf ≡ o → leaf_look scene (point_at ray hit.t) o ≡ Some look → Meets scene ray hit look
met_so scene ray hit look None at h = absurd cc
met_so scene ray hit look (Some leaf) at h =
    let met : Met = record { from = raw_point (point_at ray hit.t); normal = turned_against ray.dir (leaf_outward leaf ray hit); look = look; ior = leaf.ior; entering = hit.entering } in
    let P : Option Leaf → Type 0 = λ o. met_by scene ray hit o ≡ Some met in
    (met, subst P (sym at) (ap (met_leaf ray hit leaf) h), refl)

pub meets_so : (scene : Scene) (ray : Ray) (hit : Hit) (look : Look) → look_at scene ray hit ≡ Some look → Meets scene ray hit look
meets_so scene ray hit look h = met_so scene ray hit look (slice_get scene.leaves.items hit.leaf) refl h

-- ---- no lamp adds anything

no_lamps : (lamps : List Light) → nat_eq (length lamps) 0 ≡ true → lamps ≡ []
no_lamps [] h = refl
no_lamps (lamp ∷ lamps) h = let none : length (lamp ∷ lamps) ≡ 0 = eqb-true (length (lamp ∷ lamps)) 0 h in absurd (omega arith)

unlit_there : (s : Surfaces) (scene : Scene) (ray : Ray) (met : Met) → s ≡ solids scene → CanShow scene → is_unlit scene met.look ≡ true → IsLit s scene ray.dir met (unlit scene met) scene.lights.items (unlit scene met)
unlit_there s scene ray met stands can h =
    let P : List Light → Type 0 = λ lamps. IsLit s scene ray.dir met (unlit scene met) lamps (unlit scene met) in
    ⊎_elim (λ (none : nat_eq (length scene.lights.items) 0 ≡ true). subst P (sym (no_lamps scene.lights.items none)) (IsLit.all (unlit scene met)))
    (λ (dull : is_dull met.look.finish ≡ true). unlit_by_all s scene ray.dir met scene.lights.items stands can dull)
    (or_cases (nat_eq (length scene.lights.items) 0) (is_dull met.look.finish) h)

-- ---- no ray goes on

spent : (s : Surfaces) (scene : Scene) (levels : ℕ) (ray : Ray) (weight : ℤ) → nat_eq levels 1 ≡ true → IsShade s scene (levels - 1) ray weight black
spent s scene levels ray weight h =
    let one : levels ≡ 1 = eqb-true levels 1 h in
    let none : 0 ≡ levels - 1 = omega arith in
    let P : ℕ → Type 0 = λ n. IsShade s scene n ray weight black in subst P none (IsShade.spent ray weight)

abbrev AreBlack : Surfaces → Scene → ℕ → Ray → ℤ → Ray → ℤ → Type 0
AreBlack s scene levels back weight on share = IsShade s scene (levels - 1) back weight black × IsShade s scene (levels - 1) on share black

both_black : (s : Surfaces) (scene : Scene) (look : Look) (levels : ℕ) (weight : ℤ) (back on : Ray) → is_end scene look levels weight ≡ true
    → AreBlack s scene levels back (weight_of weight look.finish.reflection) on (weight_of weight (let_through look.colour))
both_black s scene look levels weight back on h =
    let thrown = weight_of weight look.finish.reflection in
    let passed = weight_of weight (let_through look.colour) in
    let both : Bool = is_weak scene.adc thrown && is_weak scene.adc passed in
    ⊎_elim (λ (last : nat_eq levels 1 ≡ true). (spent s scene levels back thrown last, spent s scene levels on passed last))
    (λ (weak : both ≡ true). let p = and_parts (is_weak scene.adc thrown) (is_weak scene.adc passed) weak in (IsShade.weak (levels - 1) back thrown p.0, IsShade.weak (levels - 1) on passed p.1))
    (or_cases (nat_eq levels 1) both h)

-- ---- together

pub shows_alone : (s : Surfaces) (scene : Scene) (levels : ℕ) (ray : Ray) (weight : ℤ) (hit : Hit) (look : Look) (colour : List ℤ) → s ≡ solids scene → CanShow scene → 0 < levels → is_weak scene.adc weight ≡ false
    → IsNearest s ray 63 false hit → look_at scene ray hit ≡ Some look → shows_itself scene look levels weight ≡ true
    → colour ≡ shown (opacity look.colour) (ambient_part look.colour look.finish.ambient scene.ambient_light) black look.finish.reflection black (let_through look.colour) black
    → IsShade s scene levels ray weight colour
shows_alone s scene levels ray weight hit look colour stands can some strong near at alone is =
    let parts = and_parts (is_unlit scene look) (is_end scene look levels weight) alone in
    let m = meets_so scene ray hit look at in
    let met = m.0 in
    let unlit_so : is_unlit scene met.look ≡ true = ap (is_unlit scene) m.2 ∙ parts.0 in
    let end_so : is_end scene met.look levels weight ≡ true = ap (λ (l : Look). is_end scene l levels weight) m.2 ∙ parts.1 in
    let rays = both_black s scene met.look levels weight (ray_back ray met) (ray_on ray met) end_so in
    let same : shown_by met (unlit scene met) black black ≡ colour =
    ap (λ (l : Look). shown (opacity l.colour) (ambient_part l.colour l.finish.ambient scene.ambient_light) black l.finish.reflection black (let_through l.colour) black) m.2 ∙ sym is in
    let P : ℕ → Type 0 = λ n. IsShade s scene n ray weight (shown_by met (unlit scene met) black black) in
    let Q : List ℤ → Type 0 = λ c. IsShade s scene levels ray weight c in
    subst Q same (subst P (level_left levels some) (IsShade.struck (levels - 1) ray weight hit met (unlit scene met) black black strong near m.1 (unlit_there s scene ray met stands can unlit_so) rays.0 rays.1))
