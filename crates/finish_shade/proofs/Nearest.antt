-- Of all that a ray hits before an end, one is the nearest.
use Rattle.std.proofs.Common.{ℕ, ◌-◌, ◌+◌, ◌<◌, ◌≤◌, ◌^◌, ◌≡◌, Bool, true, false, Option, Some, None, List, [], ◌∷◌, length, slice_get, ◌⊎◌, inl, inr, ⊎_elim, refl, sym, subst, arith}
use Rattle.std.proofs.lemmas.Bool.{cases_lt, false≢true}
use Rattle.std.proofs.lemmas.Option.{slice_get_past}
use Rattle.scene_model.specs.declared.scene.Object.{Object}
use Rattle.scene_model.specs.declared.scene.Scene.{Scene}
use Rattle.scene_model.specs.declared.shape.Leaf.{Leaf}
use Rattle.shapes.specs.declared.ray.Ray.{Ray}
use Rattle.shapes.specs.Faces.{all_hold, faces_of, first_failing_from}
use Rattle.shapes.specs.Rays.{IsInWorld, Position, point_at}
use Rattle.csg_hits.specs.declared.world.Hit.{Hit}
use Rattle.csg_hits.specs.Hits.{IsHit, IsNearest}
use Rattle.csg_hits.specs.Sides.{differ}
use Rattle.csg_hits.specs.Surfaces.{Surfaces, enters_at, face_at, face_of, is_struck, outer_of, solid_holds, struck_of}
use Rattle.finish_shade.proofs.Crossed.{leaf_crossed, leaf_there, solids}
use Rattle.finish_shade.proofs.Sought.{Below, all_five, all_three, is_at_most, is_true, least}

in_world : (p : Position) → IsInWorld p ⊎ (¬ IsInWorld p)
in_world p =
    all_three (λ x y z. record { x = x; y = y; z = z }) (λ (w : IsInWorld p). w.x) (λ w. w.y) (λ w. w.z)
    (is_at_most _ (2 ^ 44)) (is_at_most _ (2 ^ 44)) (is_at_most _ (2 ^ 44))

told : (s : Surfaces) (ray : Ray) (after : ℕ) (shadow : Bool) (t object leaf : ℕ) → IsHit s ray after shadow t object leaf ⊎ (¬ IsHit s ray after shadow t object leaf)
told s ray after shadow t object leaf =
    all_five (λ a b c d e. record { origin = a; place = b; near = c; behind = d; struck = e }) (λ (h : IsHit s ray after shadow t object leaf). h.origin) (λ h. h.place) (λ h. h.near) (λ h. h.behind) (λ h. h.struck)
    (in_world (point_at ray 0)) (in_world (point_at ray t)) (is_at_most 64 t) (is_less after t) (is_true (is_struck s ray shadow t object leaf))
  where
    is_less : (a b : ℕ) → (a < b) ⊎ (¬ (a < b))
    is_less a b = ⊎_elim (λ (lt : a < b). inl lt) (λ (le : b ≤ a). inr (λ (lt : a < b). omega arith)) (cases_lt a b)

-- ---- the first leaf of an object that is hit at t, and the first object

abbrev HitsObject : Scene → Ray → ℕ → Bool → ℕ → ℕ → Type 0
HitsObject scene ray after shadow t object = (leaf : ℕ) × IsHit (solids scene) ray after shadow t object leaf

abbrev HitsAt : Scene → Ray → ℕ → Bool → ℕ → Type 0
HitsAt scene ray after shadow t = (object : ℕ) × HitsObject scene ray after shadow t object

first_leaf : (scene : Scene) (ray : Ray) (after : ℕ) (shadow : Bool) (t object : ℕ) → Below (λ leaf. IsHit (solids scene) ray after shadow t object leaf) (length scene.leaves.items)
first_leaf scene ray after shadow t object = least (λ leaf. IsHit (solids scene) ray after shadow t object leaf) (told (solids scene) ray after shadow t object) (length scene.leaves.items)

-- where anything is hit, a leaf with a number is
some_leaf : (scene : Scene) (ray : Ray) (after : ℕ) (shadow : Bool) (t object : ℕ) → ((leaf : ℕ) → IsHit (solids scene) ray after shadow t object leaf → length scene.leaves.items ≤ leaf) → ¬ HitsObject scene ray after shadow t object
some_leaf scene ray after shadow t object free h =
    let there = leaf_there scene ray shadow t object h.0 h.1.struck in
    let past = free h.0 h.1 in omega arith

object_told : (scene : Scene) (ray : Ray) (after : ℕ) (shadow : Bool) (t object : ℕ) → HitsObject scene ray after shadow t object ⊎ (¬ HitsObject scene ray after shadow t object)
object_told scene ray after shadow t object = by_first (first_leaf scene ray after shadow t object)
  where
    by_first : Below (λ leaf. IsHit (solids scene) ray after shadow t object leaf) (length scene.leaves.items) → HitsObject scene ray after shadow t object ⊎ (¬ HitsObject scene ray after shadow t object)
    by_first (Below.found leaf lt hit low) = inl (leaf, hit)
    by_first (Below.none free) = inr (some_leaf scene ray after shadow t object free)

object_there : (scene : Scene) (ray : Ray) (shadow : Bool) (t object leaf : ℕ) → is_struck (solids scene) ray shadow t object leaf ≡ true → object < length scene.objects.items
object_there scene ray shadow t object leaf struck =
    let P : Option Object → Type 0 = λ o. struck_of (solids scene) ray shadow t (object - length scene.objects.items) leaf o ≡ true in
    ⊎_elim (λ (lt : object < length scene.objects.items). lt) (λ (past : length scene.objects.items ≤ object). absurd (false≢true (subst P (slice_get_past scene.objects.items object past) struck))) (cases_lt object (length scene.objects.items))

some_object : (scene : Scene) (ray : Ray) (after : ℕ) (shadow : Bool) (t : ℕ) → ((object : ℕ) → HitsObject scene ray after shadow t object → length scene.objects.items ≤ object) → ¬ HitsAt scene ray after shadow t
some_object scene ray after shadow t free h =
    let there = object_there scene ray shadow t h.0 h.1.0 h.1.1.struck in
    let past = free h.0 h.1 in omega arith

first_object : (scene : Scene) (ray : Ray) (after : ℕ) (shadow : Bool) (t : ℕ) → Below (HitsObject scene ray after shadow t) (length scene.objects.items)
first_object scene ray after shadow t = least (HitsObject scene ray after shadow t) (object_told scene ray after shadow t) (length scene.objects.items)

hit_told : (scene : Scene) (ray : Ray) (after : ℕ) (shadow : Bool) (t : ℕ) → HitsAt scene ray after shadow t ⊎ (¬ HitsAt scene ray after shadow t)
hit_told scene ray after shadow t = by_first (first_object scene ray after shadow t)
  where
    by_first : Below (HitsObject scene ray after shadow t) (length scene.objects.items) → HitsAt scene ray after shadow t ⊎ (¬ HitsAt scene ray after shadow t)
    by_first (Below.found object lt hit low) = inl (object, hit)
    by_first (Below.none free) = inr (some_object scene ray after shadow t free)

-- ---- the face at which a leaf is struck

failing : (n : ℕ) (faces : List Bool) → all_hold faces ≡ false → (k : ℕ) × (Some k ≡ first_failing_from n faces)
failing n [] e = absurd (false≢true (sym e))
failing n (true ∷ faces) e = failing (n + 1) faces e
failing n (false ∷ faces) e = (n, refl)

outer_fails : (leaf : Leaf) (p q : Position) (holds : Bool) → solid_holds leaf q ≡ holds → differ (solid_holds leaf p) holds ≡ true → solid_holds leaf (outer_of holds p q) ≡ false
outer_fails leaf p q true here crossed = other_side (solid_holds leaf p) crossed
  where
    other_side : (a : Bool) → differ a true ≡ true → a ≡ false
    other_side false d = refl
    other_side true d = absurd (false≢true d)
outer_fails leaf p q false here crossed = here

face_between : (leaf : Leaf) (p q : Position) → differ (solid_holds leaf p) (solid_holds leaf q) ≡ true → (k : ℕ) × (Some k ≡ face_of (Some leaf) p q)
face_between leaf p q crossed = failing 0 (faces_of leaf (outer_of (solid_holds leaf q) p q)) (outer_fails leaf p q (solid_holds leaf q) refl crossed)

some_face : (scene : Scene) (ray : Ray) (shadow : Bool) (t object leaf : ℕ) → is_struck (solids scene) ray shadow t object leaf ≡ true → (k : ℕ) × (Some k ≡ face_at (solids scene) ray t leaf)
some_face scene ray shadow t object leaf struck = by_leaf (slice_get scene.leaves.items leaf) refl
  where
    by_leaf : (o : Option Leaf) → slice_get scene.leaves.items leaf ≡ o → (k : ℕ) × (Some k ≡ face_of o (point_at ray (t - 1)) (point_at ray t))
    by_leaf None at = (0, refl)
    by_leaf (Some x) at = face_between x (point_at ray (t - 1)) (point_at ray t) (leaf_crossed scene ray shadow t object leaf x struck at)

-- ---- the nearest hit of all

pub data IsSought (scene : Scene) (ray : Ray) (after : ℕ) (shadow : Bool) (end : ℕ) : Type 0 where
  found : (hit : Hit) → hit.t < end → IsNearest (solids scene) ray after shadow hit → IsSought scene ray after shadow end
  none : ((t object leaf : ℕ) → IsHit (solids scene) ray after shadow t object leaf → end ≤ t) → IsSought scene ray after shadow end

pub nearest_before : (scene : Scene) (ray : Ray) (after : ℕ) (shadow : Bool) (end : ℕ) → IsSought scene ray after shadow end
nearest_before scene ray after shadow end = by_time (least (HitsAt scene ray after shadow) (hit_told scene ray after shadow) end)
  where
    by_leaf : (t object : ℕ) → t < end → ((j : ℕ) → HitsAt scene ray after shadow j → t ≤ j) → HitsObject scene ray after shadow t object → ((j : ℕ) → HitsObject scene ray after shadow t j → object ≤ j)
        → Below (λ leaf. IsHit (solids scene) ray after shadow t object leaf) (length scene.leaves.items) → IsSought scene ray after shadow end
    by_leaf t object lt first here first_one (Below.found leaf leaf_lt hit low) =
        let face = some_face scene ray shadow t object leaf hit.struck in
        IsSought.found (record { t = t; object = object; leaf = leaf; face = face.0; entering = enters_at (solids scene) ray t leaf }) lt (record {
          found = hit;
          nearest = λ j o l h. first j (o, (l, h));
          first = λ o l h. first_one o (l, h);
          first_leaf = low;
          face = face.1;
          entering = refl;
        })
    by_leaf t object lt first here first_one (Below.none free) = absurd (some_leaf scene ray after shadow t object free here)

    by_object : (t : ℕ) → t < end → ((j : ℕ) → HitsAt scene ray after shadow j → t ≤ j) → HitsAt scene ray after shadow t → Below (HitsObject scene ray after shadow t) (length scene.objects.items) → IsSought scene ray after shadow end
    by_object t lt first here (Below.found object object_lt hit low) = by_leaf t object lt first hit low (first_leaf scene ray after shadow t object)
    by_object t lt first here (Below.none free) = absurd (some_object scene ray after shadow t free here)

    by_time : Below (HitsAt scene ray after shadow) end → IsSought scene ray after shadow end
    by_time (Below.found t lt here first) = by_object t lt first here (first_object scene ray after shadow t)
    by_time (Below.none free) = IsSought.none (λ t o l h. free t (o, (l, h)))
