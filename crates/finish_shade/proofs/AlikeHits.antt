-- In scenes that look alike rays meet the same, and one surface first at most.
use Rattle.std.proofs.Common.{ℕ, ◌-◌, ◌≤◌, ◌≡◌, Bool, List, Option, Some, None, slice_get, refl, ap, sym, subst, ◌∙◌, arith}
use Rattle.scene_model.specs.declared.scene.Scene.{Scene}
use Rattle.scene_model.specs.declared.shape.Leaf.{Leaf}
use Rattle.shapes.specs.declared.ray.Ray.{Ray}
use Rattle.shapes.specs.Rays.{Position, point_at}
use Rattle.csg_hits.specs.declared.world.Hit.{Hit}
use Rattle.csg_hits.specs.Hits.{IsHit, IsNearest}
use Rattle.csg_hits.specs.Surfaces.{Surfaces, enters_at, enters_of, face_at, face_of}
use Rattle.finish_shade.specs.Alike.{LookAlike, solids_of}
use Rattle.finish_shade.specs.Meetings.{leaf_look, look_at, met_at, met_by, met_leaf}

pub turned : (a b : Scene) → LookAlike a b → LookAlike b a
turned a b h = record {
  leaves = sym h.leaves;
  lights = sym h.lights;
  struck = λ ray shadow t object leaf. sym (h.struck ray shadow t object leaf);
  looks = λ n p. sym (h.looks n p);
  background = sym h.background;
  ambient_light = sym h.ambient_light;
  levels = sym h.levels;
  adc = sym h.adc;
}

pub alike_hit : (a b : Scene) → LookAlike a b → (ray : Ray) (after : ℕ) (shadow : Bool) (t object leaf : ℕ) → IsHit (solids_of a) ray after shadow t object leaf → IsHit (solids_of b) ray after shadow t object leaf
alike_hit a b h ray after shadow t object leaf k = record {
  origin = k.origin;
  place = k.place;
  near = k.near;
  behind = k.behind;
  struck = sym (h.struck ray shadow t object leaf) ∙ k.struck;
}

enters_alike : (a b : Scene) (leaf : ℕ) (o : Option Leaf) (q : Position) → enters_of (solids_of a) leaf o q ≡ enters_of (solids_of b) leaf o q
enters_alike a b leaf (Some found) q = refl
enters_alike a b leaf None q = refl

pub alike_nearest : (a b : Scene) → LookAlike a b → (ray : Ray) (after : ℕ) (shadow : Bool) (hit : Hit) → IsNearest (solids_of a) ray after shadow hit → IsNearest (solids_of b) ray after shadow hit
alike_nearest a b h ray after shadow hit k =
    let back = alike_hit b a (turned a b h) ray after shadow in
    let before : Position = point_at ray (hit.t - 1) in
    let here : Position = point_at ray hit.t in
    let P : List Leaf → Type 0 = λ xs. Some hit.face ≡ face_of (slice_get xs hit.leaf) before here in
    let Q : List Leaf → Type 0 = λ xs. hit.entering ≡ enters_of (solids_of b) hit.leaf (slice_get xs hit.leaf) here in
    record {
      found = alike_hit a b h ray after shadow hit.t hit.object hit.leaf k.found;
      nearest = λ t object leaf m. k.nearest t object leaf (back t object leaf m);
      first = λ object leaf m. k.first object leaf (back hit.t object leaf m);
      first_leaf = λ leaf m. k.first_leaf leaf (back hit.t hit.object leaf m);
      face = subst P h.leaves k.face;
      entering = subst Q h.leaves (k.entering ∙ enters_alike a b hit.leaf (slice_get a.leaves.items hit.leaf) here);
    }

look_alike : (a b : Scene) → LookAlike a b → (p : Position) (o : Option Leaf) → leaf_look a p o ≡ leaf_look b p o
look_alike a b h p None = refl
look_alike a b h p (Some leaf) = h.looks leaf.texture p

pub alike_look : (a b : Scene) → LookAlike a b → (ray : Ray) (hit : Hit) → look_at a ray hit ≡ look_at b ray hit
alike_look a b h ray hit =
    ap (λ (xs : List Leaf). leaf_look a (point_at ray hit.t) (slice_get xs hit.leaf)) h.leaves ∙ look_alike a b h (point_at ray hit.t) (slice_get b.leaves.items hit.leaf)

met_alike : (a b : Scene) → LookAlike a b → (ray : Ray) (hit : Hit) (o : Option Leaf) → met_by a ray hit o ≡ met_by b ray hit o
met_alike a b h ray hit None = refl
met_alike a b h ray hit (Some leaf) = ap (met_leaf ray hit leaf) (h.looks leaf.texture (point_at ray hit.t))

pub alike_met : (a b : Scene) → LookAlike a b → (ray : Ray) (hit : Hit) → met_at a ray hit ≡ met_at b ray hit
alike_met a b h ray hit = ap (λ (xs : List Leaf). met_by a ray hit (slice_get xs hit.leaf)) h.leaves ∙ met_alike a b h ray hit (slice_get b.leaves.items hit.leaf)

-- ---- one nearest hit

same_hit : (g h : Hit) → g.t ≡ h.t → g.object ≡ h.object → g.leaf ≡ h.leaf → g.face ≡ h.face → g.entering ≡ h.entering → g ≡ h
same_hit g h t object leaf face entering =
    let made : ℕ → ℕ → ℕ → ℕ → Bool → Hit = λ t o l f e. record { t = t; object = o; leaf = l; face = f; entering = e } in
    ap (λ x. made x g.object g.leaf g.face g.entering) t ∙ (ap (λ x. made h.t x g.leaf g.face g.entering) object ∙ (ap (λ x. made h.t h.object x g.face g.entering) leaf
    ∙ (ap (λ x. made h.t h.object h.leaf x g.entering) face ∙ ap (λ x. made h.t h.object h.leaf h.face x) entering)))

order_is : (x y : ℕ) → x ≤ y → y ≤ x → x ≡ y
order_is x y le ge = omega arith

pub one_nearest : (s : Surfaces) (ray : Ray) (after : ℕ) (shadow : Bool) (g h : Hit) → IsNearest s ray after shadow g → IsNearest s ray after shadow h → g ≡ h
one_nearest s ray after shadow g h p q =
    let t : g.t ≡ h.t = order_is g.t h.t (p.nearest h.t h.object h.leaf q.found) (q.nearest g.t g.object g.leaf p.found) in
    let P : ℕ → Type 0 = λ t. IsHit s ray after shadow t g.object g.leaf in
    let Q : ℕ → Type 0 = λ t. IsHit s ray after shadow t h.object h.leaf in
    let there : IsHit s ray after shadow h.t g.object g.leaf = subst P t p.found in
    let here : IsHit s ray after shadow g.t h.object h.leaf = subst Q (sym t) q.found in
    let object : g.object ≡ h.object = order_is g.object h.object (p.first h.object h.leaf here) (q.first g.object g.leaf there) in
    let R : ℕ → Type 0 = λ o. IsHit s ray after shadow h.t o g.leaf in
    let S : ℕ → Type 0 = λ o. IsHit s ray after shadow g.t o h.leaf in
    let leaf : g.leaf ≡ h.leaf = order_is g.leaf h.leaf (p.first_leaf h.leaf (subst S (sym object) here)) (q.first_leaf g.leaf (subst R object there)) in
    let faces : Some g.face ≡ Some h.face = p.face ∙ (ap (λ n. face_at s ray n g.leaf) t ∙ (ap (λ n. face_at s ray h.t n) leaf ∙ sym q.face)) in
    let face : g.face ≡ h.face = cc faces in
    let entering : g.entering ≡ h.entering = p.entering ∙ (ap (λ n. enters_at s ray n g.leaf) t ∙ (ap (λ n. enters_at s ray h.t n) leaf ∙ sym q.entering)) in
    same_hit g h t object leaf face entering
