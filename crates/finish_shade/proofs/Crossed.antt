-- The leaf that a hit names: it is there, and its solid holds at exactly one of the two points.
use Rattle.std.proofs.Common.{ℕ, ◌-◌, ◌<◌, ◌≡◌, Bool, true, false, not, Option, Some, List, get_or, length, slice_get, refl, ap, sym, subst, ⊎_elim, ◌∙◌, ℤ}
use Rattle.std.specs.Bool.{beq}
use Rattle.std.proofs.lemmas.Bool.{cases_lt, false≢true}
use Rattle.std.proofs.lemmas.List.Elements.{All-get_or}
use Rattle.std.proofs.lemmas.Option.{slice_get_past, slice_get_read}
use Rattle.std.specs.List.{All}
use Rattle.fix_math.specs.declared.fix.V3.{V3}
use Rattle.fix_math.specs.DirectionLaws.{unit_within}
use Rattle.fix_math.specs.Directions.{excess_of, unit_wide_of}
use Rattle.fix_math.specs.Matrices.{IsVectorWithin, along, component, row_of}
use Rattle.fix_math.specs.Numbers.{shortened}
use Rattle.scene_model.specs.declared.scene.Scene.{Scene}
use Rattle.scene_model.specs.declared.shape.Leaf.{Leaf}
use Rattle.shapes.specs.declared.ray.Ray.{Ray}
use Rattle.shapes.specs.Rays.{Position, point_at}
use Rattle.csg_hits.specs.declared.world.Hit.{Hit}
use Rattle.csg_hits.specs.Hits.{IsNearest}
use Rattle.csg_hits.specs.Sides.{differ}
use Rattle.csg_hits.specs.Surfaces.{Surfaces, crossing_of, enters_of, is_struck, solid_holds, surfaces_of, without_sheets}
use Rattle.csg_hits.proofs.Numbered.{crossed}
use Rattle.finish_shade.proofs.Strikes.{struck_case}
use Rattle.finish_shade.specs.declared.met.Look.{Look}
use Rattle.finish_shade.specs.declared.met.Met.{Met}
use Rattle.finish_shade.specs.Directions.{turned_against}
use Rattle.finish_shade.specs.Meetings.{inner_of, leaf_look, leaf_outward, look_at, look_in, met_at, met_by, met_leaf, raw_point}

abbrev pub solids : Scene → Surfaces
solids scene = without_sheets (surfaces_of scene)

pub leaf_there : (scene : Scene) (ray : Ray) (shadow : Bool) (t object n : ℕ) → is_struck (solids scene) ray shadow t object n ≡ true → n < length scene.leaves.items
leaf_there scene ray shadow t object n struck =
    let s : Surfaces = solids scene in
    let P : Option Leaf → Type 0 = λ o. (crossing_of o (point_at ray (t - 1)) (point_at ray t)).struck ≡ true in
    let k = struck_case s ray shadow t (object - length s.objects) n (slice_get s.objects object) refl struck in
    ⊎_elim (λ lt. lt) (λ past. absurd (false≢true (subst P (slice_get_past scene.leaves.items n past) k))) (cases_lt n (length scene.leaves.items))

pub leaf_is : (scene : Scene) (n : ℕ) (leaf : Leaf) → n < length scene.leaves.items → leaf ≡ get_or scene.leaves.items n leaf → slice_get scene.leaves.items n ≡ Some leaf
leaf_is scene n leaf lt e = slice_get_read scene.leaves.items (length scene.leaves.items) n leaf refl lt e

pub leaf_crossed : (scene : Scene) (ray : Ray) (shadow : Bool) (t object n : ℕ) (leaf : Leaf) → is_struck (solids scene) ray shadow t object n ≡ true → slice_get scene.leaves.items n ≡ Some leaf
    → differ (solid_holds leaf (point_at ray (t - 1))) (solid_holds leaf (point_at ray t)) ≡ true
leaf_crossed scene ray shadow t object n leaf struck at = crossed (solids scene) ray shadow t object n leaf (point_at ray (t - 1)) (point_at ray t) refl struck at refl refl

pub entered : (scene : Scene) (ray : Ray) (t n : ℕ) (leaf : Leaf) (entering : Bool) → slice_get scene.leaves.items n ≡ Some leaf → entering ≡ enters_of (solids scene) n (slice_get scene.leaves.items n) (point_at ray t)
    → entering ≡ differ (solid_holds leaf (point_at ray t)) leaf.negated
entered scene ray t n leaf entering at e = let P : Option Leaf → Type 0 = λ o. entering ≡ enters_of (solids scene) n o (point_at ray t) in subst P at e

-- ---- the point inside

turned_back : (holds negated entering : Bool) → entering ≡ differ holds negated → not (beq entering negated) ≡ holds
turned_back true true entering e = subst (λ b. not (beq b true) ≡ true) (sym e) refl
turned_back true false entering e = subst (λ b. not (beq b false) ≡ true) (sym e) refl
turned_back false true entering e = subst (λ b. not (beq b true) ≡ false) (sym e) refl
turned_back false false entering e = subst (λ b. not (beq b false) ≡ false) (sym e) refl

pub now_inside : (leaf : Leaf) (q : Position) (entering : Bool) → entering ≡ differ (solid_holds leaf q) leaf.negated → not (beq entering leaf.negated) ≡ true → solid_holds leaf q ≡ true
now_inside leaf q entering e h = sym (turned_back (solid_holds leaf q) leaf.negated entering e) ∙ h

other_side : (a b : Bool) → differ a b ≡ true → b ≡ false → a ≡ true
other_side true b d e = refl
other_side false true d e = absurd (false≢true (sym e))
other_side false false d e = absurd (false≢true d)

pub now_outside : (leaf : Leaf) (q : Position) (entering : Bool) → entering ≡ differ (solid_holds leaf q) leaf.negated → not (beq entering leaf.negated) ≡ false → solid_holds leaf q ≡ false
now_outside leaf q entering e h = sym (turned_back (solid_holds leaf q) leaf.negated entering e) ∙ h

pub before_inside : (leaf : Leaf) (p q : Position) → differ (solid_holds leaf p) (solid_holds leaf q) ≡ true → solid_holds leaf q ≡ false → solid_holds leaf p ≡ true
before_inside leaf p q d e = other_side (solid_holds leaf p) (solid_holds leaf q) d e

pub inner_now : (leaf : Leaf) (p q : Position) → solid_holds leaf q ≡ true → q ≡ inner_of (solid_holds leaf q) p q
inner_now leaf p q e = let P : Bool → Type 0 = λ b. q ≡ inner_of b p q in subst P (sym e) refl

pub inner_before : (leaf : Leaf) (p q : Position) → solid_holds leaf q ≡ false → p ≡ inner_of (solid_holds leaf q) p q
inner_before leaf p q e = let P : Bool → Type 0 = λ b. p ≡ inner_of b p q in subst P (sym e) refl

-- ---- what is there

pub there : {X : Type 0} (P : X → Type 0) (xs : List X) (i : ℕ) (x : X) → i < length xs → x ≡ get_or xs i x → All P xs → P x
there P xs i x lt is all = subst P (sym is) (All-get_or P xs i x lt all)

pub wide_within : (v : V3) → IsVectorWithin 65536 (unit_wide_of (row_of (along v)))
wide_within v =
    let w : List ℤ = row_of (along v) in
    unit_within (record { x = shortened (component w 0) (excess_of w); y = shortened (component w 1) (excess_of w); z = shortened (component w 2) (excess_of w) })

pub look_there : (scene : Scene) (ray : Ray) (hit : Hit) (leaf : Leaf) (p : Position) (look : Look) → slice_get scene.leaves.items hit.leaf ≡ Some leaf → p ≡ point_at ray hit.t → look_in scene leaf.texture p ≡ Some look
    → look_at scene ray hit ≡ Some look
look_there scene ray hit leaf p look at e h =
    let P : Option Leaf → Type 0 = λ o. leaf_look scene (point_at ray hit.t) o ≡ Some look in
    let Q : Position → Type 0 = λ q. look_in scene leaf.texture q ≡ Some look in subst P (sym at) (subst Q e h)

pub looks_there : (scene : Scene) (ray : Ray) (hit : Hit) (leaf : Leaf) (p : Position) (look : Look) → slice_get scene.leaves.items hit.leaf ≡ Some leaf → p ≡ point_at ray hit.t → look_at scene ray hit ≡ Some look
    → look_in scene leaf.texture p ≡ Some look
looks_there scene ray hit leaf p look at e h =
    let P : Option Leaf → Type 0 = λ o. leaf_look scene (point_at ray hit.t) o ≡ Some look in
    let Q : Position → Type 0 = λ q. look_in scene leaf.texture q ≡ Some look in subst Q (sym e) (subst P at h)

pub met_there : (scene : Scene) (ray : Ray) (hit : Hit) (leaf : Leaf) (p : Position) (from normal outward : V3) (look : Look) → slice_get scene.leaves.items hit.leaf ≡ Some leaf → p ≡ point_at ray hit.t → from ≡ raw_point p
    → normal ≡ turned_against ray.dir outward → outward ≡ leaf_outward leaf ray hit → look_in scene leaf.texture p ≡ Some look
    → met_at scene ray hit ≡ Some (record { from = from; normal = normal; look = look; ior = leaf.ior; entering = hit.entering })
met_there scene ray hit leaf p from normal outward look at e f n o h =
    let met : V3 → V3 → Option Met = λ a b. Some (record { from = a; normal = b; look = look; ior = leaf.ior; entering = hit.entering }) in
    let P : Option Leaf → Type 0 = λ o. met_by scene ray hit o ≡ met from normal in
    let Q : Option Look → Type 0 = λ o. met_leaf ray hit leaf o ≡ met from normal in
    let R : Position → Type 0 = λ q. look_in scene leaf.texture q ≡ Some look in
    let begins : raw_point (point_at ray hit.t) ≡ from = sym (f ∙ ap raw_point e) in
    let turned : turned_against ray.dir (leaf_outward leaf ray hit) ≡ normal = sym (n ∙ ap (turned_against ray.dir) o) in
    subst P (sym at) (subst Q (sym (subst R e h))
    (ap (λ (a : V3). met a (turned_against ray.dir (leaf_outward leaf ray hit))) begins ∙ ap (λ (b : V3). met from b) turned))

-- ---- what a world hits that stands for a scene

pub hit_in : (s : Surfaces) (scene : Scene) (ray : Ray) (after : ℕ) (shadow : Bool) (hit : Hit) → s ≡ solids scene → IsNearest s ray after shadow hit → IsNearest (solids scene) ray after shadow hit
hit_in s scene ray after shadow hit e h = let P : Surfaces → Type 0 = λ x. IsNearest x ray after shadow hit in subst P e h

pub leaf_hit : (s : Surfaces) (scene : Scene) (ray : Ray) (after : ℕ) (shadow : Bool) (hit : Hit) → s ≡ solids scene → IsNearest s ray after shadow hit → hit.leaf < length scene.leaves.items
leaf_hit s scene ray after shadow hit e h = leaf_there scene ray shadow hit.t hit.object hit.leaf (hit_in s scene ray after shadow hit e h).found.struck
