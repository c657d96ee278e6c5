-- Light between a surface and a lamp: what comes of the surfaces that are left comes of all.
use Rattle.std.proofs.Common.{ℕ, ◌<◌, ◌≤◌, ◌≡◌, Bool, true, false, if◌then◌else◌, List, [], ◌∷◌, ℤ, pos, Some, subst, arith}
use Rattle.std.proofs.lemmas.Int.{ints}
use Rattle.scene_model.specs.Amounts.{AreAmounts, IsAmount}
use Rattle.scene_model.specs.declared.scene.Scene.{Scene}
use Rattle.shapes.specs.declared.ray.Ray.{Ray}
use Rattle.csg_hits.specs.declared.world.Hit.{Hit}
use Rattle.csg_hits.specs.Hits.{IsHit, IsNearest}
use Rattle.csg_hits.specs.Surfaces.{Surfaces}
use Rattle.finish_shade.specs.declared.met.Look.{Look}
use Rattle.finish_shade.specs.Amounts.{black, filtered, is_opaque, let_through}
use Rattle.finish_shade.specs.Arrivals.{AreBetween, Passes, light_behind, white}
use Rattle.finish_shade.specs.Meetings.{look_at}

abbrev pub Leads : Surfaces → Scene → Ray → ℕ → ℕ → List ℤ → Type 0
Leads s scene ray end after light = (colours : List (List ℤ)) → AreBetween s scene ray end after colours → Passes s scene ray end (light_behind light colours)

pub begun : (s : Surfaces) (scene : Scene) (ray : Ray) (end : ℕ) → Leads s scene ray end 63 white
begun s scene ray end colours h = Passes.passes colours h

pub reached : (s : Surfaces) (scene : Scene) (ray : Ray) (end after : ℕ) (light : List ℤ) → Leads s scene ray end after light → ((t object leaf : ℕ) → IsHit s ray after true t object leaf → end ≤ t) → Passes s scene ray end light
reached s scene ray end after light leads free = leads [] (AreBetween.none_left after free)

pub darkened : (s : Surfaces) (scene : Scene) (ray : Ray) (end after : ℕ) (light : List ℤ) (hit : Hit) (look : Look) → Leads s scene ray end after light → IsNearest s ray after true hit → hit.t < end → look_at scene ray hit ≡ Some look
    → is_opaque look.colour ≡ true → Passes s scene ray end black
darkened s scene ray end after light hit look leads near lt at dark =
    let P : Bool → Type 0 = λ b. Passes s scene ray end (if b then black else filtered light (let_through look.colour)) in
    subst P dark (leads (look.colour ∷ []) (AreBetween.opaque_one after hit look near lt at dark))

pub further : (s : Surfaces) (scene : Scene) (ray : Ray) (end after : ℕ) (light : List ℤ) (hit : Hit) (look : Look) → Leads s scene ray end after light → IsNearest s ray after true hit → hit.t < end → look_at scene ray hit ≡ Some look
    → is_opaque look.colour ≡ false → Leads s scene ray end hit.t (filtered light (let_through look.colour))
further s scene ray end after light hit look leads near lt at clear colours h =
    let P : Bool → Type 0 = λ b. Passes s scene ray end (if b then black else light_behind (filtered light (let_through look.colour)) colours) in
    subst P clear (leads (look.colour ∷ colours) (AreBetween.clear_one after hit look colours near lt at clear h))

pub white_amounts : AreAmounts 65536 white
white_amounts = let one : IsAmount 65536 (pos 65536) = record { low = omega (arith, ints); high = omega (arith, ints) } in record { first = one; second = one; third = one }
