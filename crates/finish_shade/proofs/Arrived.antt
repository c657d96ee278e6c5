-- Some light of each lamp arrives, by what its shadow ray meets.
use Rattle.std.proofs.Common.{ℕ, zero, suc, ◌+◌, ◌<◌, ◌≤◌, ◌≡◌, ℤ, Bool, true, false, Option, Some, List, [], ◌∷◌, length, slice_get, refl, sym, subst, arith}
use Rattle.std.proofs.lemmas.Option.{get_or_from_slice_get}
use Rattle.scene_model.specs.declared.light.Light.{Light}
use Rattle.scene_model.specs.declared.scene.Scene.{Scene}
use Rattle.scene_model.specs.declared.shape.Leaf.{Leaf}
use Rattle.scene_model.specs.declared.texture.Texture.{Texture}
use Rattle.shapes.specs.declared.ray.Ray.{Ray}
use Rattle.shapes.specs.Rays.{point_at}
use Rattle.csg_hits.specs.declared.world.Hit.{Hit}
use Rattle.csg_hits.specs.Hits.{IsNearest}
use Rattle.finish_shade.specs.declared.met.Look.{Look}
use Rattle.finish_shade.specs.Amounts.{is_opaque}
use Rattle.finish_shade.specs.Arrivals.{AreBetween, Arrives, Passes, light_behind, white}
use Rattle.finish_shade.specs.Meetings.{CanShow, leaf_look, look_at, look_of}
use Rattle.finish_shade.proofs.Crossed.{leaf_there, solids, there}
use Rattle.finish_shade.proofs.Nearest.{IsSought, nearest_before}

pub present : {X : Type 0} (xs : List X) (i : ℕ) → i < length xs → (x : X) × (slice_get xs i ≡ Some x)
present [] i lt = absurd (omega arith)
present (x ∷ xs) zero lt = (x, refl)
present (x ∷ xs) (suc i) lt = present xs i (omega arith)

-- what is hit looks somehow
some_look : (scene : Scene) → CanShow scene → (ray : Ray) (hit : Hit) → hit.leaf < length scene.leaves.items → (look : Look) × (look_at scene ray hit ≡ Some look)
some_look scene can ray hit lt =
    let leaf = present scene.leaves.items hit.leaf lt in
    let here = there (λ (l : Leaf). l.texture < length scene.textures.items) scene.leaves.items hit.leaf leaf.0 lt (sym (get_or_from_slice_get scene.leaves.items hit.leaf leaf.0 leaf.0 leaf.1)) can.leaf_textures in
    let texture = present scene.textures.items leaf.0.texture here in
    let P : Option Leaf → Type 0 = λ o. (look : Look) × (leaf_look scene (point_at ray hit.t) o ≡ Some look) in
    let Q : Option Texture → Type 0 = λ o. (look : Look) × (look_of o (point_at ray hit.t) ≡ Some look) in
    subst P (sym leaf.1) (subst Q (sym texture.1) (_, refl))

-- ---- what a shadow ray meets

abbrev Between : Scene → Ray → ℕ → ℕ → Type 0
Between scene ray end after = (colours : List (List ℤ)) × AreBetween (solids scene) scene ray end after colours

met_one : (scene : Scene) (ray : Ray) (end after : ℕ) (hit : Hit) (look : Look) → IsNearest (solids scene) ray after true hit → hit.t < end → look_at scene ray hit ≡ Some look → Between scene ray end hit.t
    → (opaque : Bool) → is_opaque look.colour ≡ opaque → Between scene ray end after
met_one scene ray end after hit look near lt at more true is = (look.colour ∷ [], AreBetween.opaque_one after hit look near lt at is)
met_one scene ray end after hit look near lt at more false is = (look.colour ∷ more.0, AreBetween.clear_one after hit look more.0 near lt at is more.1)

met_next : (scene : Scene) → CanShow scene → (ray : Ray) (end after : ℕ) → ((n : ℕ) → after < n → Between scene ray end n) → IsSought scene ray after true end → Between scene ray end after
met_next scene can ray end after more (IsSought.none free) = ([], AreBetween.none_left after free)
met_next scene can ray end after more (IsSought.found hit lt near) =
    let look = some_look scene can ray hit (leaf_there scene ray true hit.t hit.object hit.leaf near.found.struck) in
    met_one scene ray end after hit look.0 near lt look.1 (more hit.t near.found.behind) (is_opaque look.0.colour) refl

between : (scene : Scene) → CanShow scene → (ray : Ray) (end steps after : ℕ) → end ≤ after + steps → Between scene ray end after
between scene can ray end zero after le = ([], AreBetween.none_left after (λ t object leaf h. let behind = h.behind in omega arith))
between scene can ray end (suc steps) after le = met_next scene can ray end after (λ n lt. between scene can ray end steps n (omega arith)) (nearest_before scene ray after true end)

pub some_light : (scene : Scene) → CanShow scene → (lamp : Light) (ray : Ray) (distance : ℕ) → (light : List ℤ) × Arrives (solids scene) scene lamp ray distance light
some_light scene can lamp ray distance = by_shadow lamp.shadowless refl
  where
    by_shadow : (b : Bool) → lamp.shadowless ≡ b → (light : List ℤ) × Arrives (solids scene) scene lamp ray distance light
    by_shadow true is = (white, Arrives.whole is)
    by_shadow false is =
        let met = between scene can ray distance distance 63 (omega arith) in
        (light_behind white met.0, Arrives.part (light_behind white met.0) is (Passes.passes met.0 met.1))
