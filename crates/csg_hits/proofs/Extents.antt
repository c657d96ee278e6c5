-- The boxes of leaves that are kept, and those of the objects made of them.
use Rattle.std.proofs.Common.{ℕ, zero, suc, ◌-◌, ◌<◌, ◌≤◌, ◌≡◌, Bool, true, false, ◌⊎◌, inl, inr, Option, Some, None, List, [], ◌∷◌, length, get_or, map, slice_get, refl, ap, sym, subst, ◌∙◌, ⊎_elim}
use Rattle.std.specs.List.{All}
use Rattle.std.specs.Option.{option_map}
use Rattle.std.proofs.lemmas.Bool.{and_parts, false≢true}
use Rattle.std.proofs.lemmas.List.Elements.{All-get_or}
use Rattle.std.proofs.lemmas.Option.{slice_get_past, slice_get_read, slice_get-map}
use Rattle.scene_model.specs.declared.scene.Object.{Object}
use Rattle.scene_model.specs.declared.shape.Leaf.{Leaf}
use Rattle.scene_model.specs.declared.shape.Shape.{Shape}
use Rattle.shapes.specs.declared.ray.Ray.{Ray}
use Rattle.shapes.specs.Rays.{Position, IsInWorld, point_at}
use Rattle.leaf_boxes.specs.declared.bounds.Box3.{Box3}
use Rattle.leaf_boxes.specs.Boxes.{IsInBox, box_of}
use Rattle.leaf_boxes.specs.Groups.{AreHeld, box_numbered, shape_box_of}
use Rattle.leaf_boxes.specs.Holding.{leaf_holds, shape_holds}
use Rattle.csg_hits.specs.declared.piece.Piece.{Piece}
use Rattle.csg_hits.specs.declared.ready.ReadyLeaf.{ReadyLeaf}
use Rattle.csg_hits.specs.declared.ready.ReadyObject.{ReadyObject}
use Rattle.csg_hits.specs.Bounds.{IsBounded, HoldsInside, HoldsStruck, bounds_of, box_of_object, box_of_piece, holds_of, leaf_at, piece_bounds_of}
use Rattle.csg_hits.specs.Kept.{IsBoxed}
use Rattle.csg_hits.specs.Ready.{leaves_of, objects_of}
use Rattle.csg_hits.specs.Pieces.{piece_struck, strikes_of}
use Rattle.csg_hits.specs.Sides.{differ, sides}
use Rattle.csg_hits.specs.Surfaces.{counts, crossing_of, is_gate, leaf_on, object_strikes, struck_of}
use Rattle.csg_hits.proofs.Bounded.{AreBoxed, around}
use Rattle.csg_hits.proofs.Numbered.{plain}

abbrev pub extents : List ReadyLeaf → List Box3
extents leaves = map (λ leaf. leaf.bounds) leaves

pub same_boxes : (xs : List ReadyLeaf) → extents xs ≡ map box_of (leaves_of xs)
same_boxes [] = refl
same_boxes (x ∷ xs) = ap (λ (b : Box3). b ∷ extents xs) x.is_bounds ∙ ap (λ (bs : List Box3). box_of x.leaf.value ∷ bs) (same_boxes xs)

-- a leaf's box holds the points at which the leaf does
pub held : (xs : List ReadyLeaf) (p : Position) → IsInWorld p → (n : ℕ) → leaf_at (leaves_of xs) p n ≡ true → IsInBox (box_numbered (extents xs) n) p
held [] p within n h = absurd (false≢true h)
held (x ∷ xs) p within zero h = x.inside p within h
held (x ∷ xs) p within (suc n) h = held xs p within n h

-- ---- from one point to the next

either : (a b : Bool) → differ a b ≡ true → (a ≡ true) ⊎ (b ≡ true)
either true b e = inl refl
either false true e = inr refl
either false false e = absurd (false≢true e)

abbrev crossing : List ReadyLeaf → Position → Position → ℕ → Bool
crossing xs p q n = (crossing_of (slice_get (leaves_of xs) n) p q).struck

before_held : (xs : List ReadyLeaf) (p q : Position) → IsInWorld p → (n : ℕ) → (crossing_of (slice_get (leaves_of xs) n) p q).before ≡ true → IsInBox (box_numbered (extents xs) n) p
before_held [] p q within n h = absurd (false≢true h)
before_held (x ∷ xs) p q within zero h = x.inside p within h
before_held (x ∷ xs) p q within (suc n) h = before_held xs p q within n h

now_held : (xs : List ReadyLeaf) (p q : Position) → IsInWorld q → (n : ℕ) → (crossing_of (slice_get (leaves_of xs) n) p q).now ≡ true → IsInBox (box_numbered (extents xs) n) q
now_held [] p q within n h = absurd (false≢true h)
now_held (x ∷ xs) p q within zero h = x.inside q within h
now_held (x ∷ xs) p q within (suc n) h = now_held xs p q within n h

struck_held : (xs : List ReadyLeaf) (p q : Position) → IsInWorld p → IsInWorld q → (n : ℕ) → crossing xs p q n ≡ true → IsInBox (box_numbered (extents xs) n) p ⊎ IsInBox (box_numbered (extents xs) n) q
struck_held [] p q here there n h = absurd (false≢true h)
struck_held (x ∷ xs) p q here there zero h =
    let leaf : Leaf = x.leaf.value in
    let m = and_parts (differ (leaf_holds leaf p) (leaf_holds leaf q)) (is_gate leaf p q) h in
    ⊎_elim (λ k. inl (x.inside p here k)) (λ k. inr (x.inside q there k)) (either (leaf_holds leaf p) (leaf_holds leaf q) m.0)
struck_held (x ∷ xs) p q here there (suc n) h = struck_held xs p q here there n h

pub boxed : (xs : List ReadyLeaf) (ray : Ray) (t : ℕ) → IsInWorld (point_at ray (t - 1)) → IsInWorld (point_at ray t) → AreBoxed (extents xs) (leaf_on (leaves_of xs) ray t) (point_at ray (t - 1)) (point_at ray t)
boxed xs ray t here there = record {
  first = here;
  second = there;
  before = before_held xs (point_at ray (t - 1)) (point_at ray t) here;
  now = now_held xs (point_at ray (t - 1)) (point_at ray t) there;
  struck = struck_held xs (point_at ray (t - 1)) (point_at ray t) here there;
}

-- ---- objects by their numbers

object_at : (objects : List ReadyObject) (n : ℕ) (x : ReadyObject) → n < length objects → x ≡ get_or objects n x → slice_get (objects_of objects) n ≡ Some x.object.value
object_at objects n x lt e =
    let v : ReadyObject → Object = λ o. o.object.value in
    slice_get-map v objects n ∙ ap (λ (o : Option ReadyObject). option_map v o) (slice_get_read objects (length objects) n x refl lt e)

no_object_at : (objects : List ReadyObject) (n : ℕ) → length objects ≤ n → slice_get (objects_of objects) n ≡ None
no_object_at objects n past =
    let v : ReadyObject → Object = λ o. o.object.value in
    slice_get-map v objects n ∙ ap (λ (o : Option ReadyObject). option_map v o) (slice_get_past objects n past)

-- an object with its box
pub object_boxed : (leaves : List ReadyLeaf) (object : Object) (kept : ReadyObject) → kept.object.value ≡ object → kept.bounds ≡ shape_box_of (extents leaves) object.shape
    → ((leaf : ℕ → Bool) (p : Position) → IsInWorld p → AreHeld leaf (extents leaves) p → shape_holds leaf object.shape ≡ true → IsInBox kept.bounds p) → IsBoxed (leaves_of leaves) kept
object_boxed leaves object kept is value inside = record {
  value =
      value ∙ ap (λ (bs : List Box3). shape_box_of bs object.shape) (same_boxes leaves)
      ∙ ap (λ (o : Object). box_of_object (leaves_of leaves) (Some o)) (sym is);
  inside = λ p within has.
      let leaf : ℕ → Bool = leaf_at (leaves_of leaves) p in
      inside leaf p within (held leaves p within) (ap (λ (o : Object). shape_holds leaf o.shape) (sym is) ∙ has);
}

-- the box is the one that its definition says
pub value_there : (leaves : List Leaf) (objects : List ReadyObject) (n : ℕ) (x : ReadyObject) → n < length objects → x ≡ get_or objects n x → IsBoxed leaves x → x.bounds ≡ bounds_of (plain leaves objects) n
value_there leaves objects n x lt e h = h.value ∙ ap (λ (o : Option Object). box_of_object leaves o) (sym (object_at objects n x lt e))

pub value_nowhere : (leaves : List Leaf) (objects : List ReadyObject) (n : ℕ) (found : Box3) → length objects ≤ n → found ≡ box_of_object leaves None → found ≡ bounds_of (plain leaves objects) n
value_nowhere leaves objects n found past h = h ∙ ap (λ (o : Option Object). box_of_object leaves o) (sym (no_object_at objects n past))

-- it holds each point of the world at which the object does
pub inside_there : (leaves : List Leaf) (objects : List ReadyObject) (n : ℕ) (x : ReadyObject) → n < length objects → x ≡ get_or objects n x → IsBoxed leaves x → HoldsInside (plain leaves objects) n x.bounds
inside_there leaves objects n x lt e h = λ p within has.
    let P : Option Object → Type 0 = λ o. holds_of leaves o p ≡ true in
    h.inside p within (subst P (object_at objects n x lt e) has)

pub inside_nowhere : (leaves : List Leaf) (objects : List ReadyObject) (n : ℕ) (found : Box3) → length objects ≤ n → HoldsInside (plain leaves objects) n found
inside_nowhere leaves objects n found past = λ p within has.
    let P : Option Object → Type 0 = λ o. holds_of leaves o p ≡ true in absurd (false≢true (subst P (no_object_at objects n past) has))

-- the box of a shape holds one of the two points between which the shape is struck
struck_between : (leaves : List ReadyLeaf) (ray : Ray) (shape : Shape) (found : Box3) (t m : ℕ) → found ≡ shape_box_of (extents leaves) shape → IsInWorld (point_at ray (t - 1)) → IsInWorld (point_at ray t)
    → (sides (leaf_on (leaves_of leaves) ray t) shape).strikes m ≡ true → IsInBox found (point_at ray (t - 1)) ⊎ IsInBox found (point_at ray t)
struck_between leaves ray shape found t m is here there h =
    let P : Box3 → Type 0 = λ b. IsInBox b (point_at ray (t - 1)) ⊎ IsInBox b (point_at ray t) in
    subst P (sym is) ((around (extents leaves) (leaf_on (leaves_of leaves) ray t) (point_at ray (t - 1)) (point_at ray t) (boxed leaves ray t here there) shape).struck m h)

-- and so it does of an object
pub struck_there : (leaves : List ReadyLeaf) (objects : List ReadyObject) (n : ℕ) (x : ReadyObject) → n < length objects → x ≡ get_or objects n x → IsBoxed (leaves_of leaves) x
    → HoldsStruck (plain (leaves_of leaves) objects) n x.bounds
struck_there leaves objects n x lt e boxed = λ ray shadow t m positive here there h.
    let s = plain (leaves_of leaves) objects in
    let o : Object = x.object.value in
    let O : Option Object → Type 0 = λ c. struck_of s ray shadow t (n - length s.objects) m c ≡ true in
    let k : object_strikes s.leaves ray shadow o t m ≡ true = subst O (object_at objects n x lt e) h in
    struck_between leaves ray o.shape x.bounds t m (boxed.value ∙ ap (λ (bs : List Box3). shape_box_of bs o.shape) (sym (same_boxes leaves))) here there
    (and_parts (counts shadow o.no_shadow) ((sides (leaf_on (leaves_of leaves) ray t) o.shape).strikes m) k).1

pub struck_nowhere : (leaves : List Leaf) (objects : List ReadyObject) (n : ℕ) (found : Box3) → length objects ≤ n → HoldsStruck (plain leaves objects) n found
struck_nowhere leaves objects n found past = λ ray shadow t m positive here there h.
    let s = plain leaves objects in
    let O : Option Object → Type 0 = λ c. struck_of s ray shadow t (n - length s.objects) m c ≡ true in
    absurd (false≢true (subst O (no_object_at objects n past) h))

-- the objects of a scene that are kept, with their boxes
pub boxed_at : (leaves : List Leaf) (objects : List ReadyObject) (n : ℕ) (x : ReadyObject) → All (IsBoxed leaves) objects → n < length objects → x ≡ get_or objects n x → IsBoxed leaves x
boxed_at leaves objects n x all lt e = subst (IsBoxed leaves) (sym e) (All-get_or (IsBoxed leaves) objects n x lt all)

-- ---- pieces

-- the box of a piece is the one that its definition says
pub piece_value : (leaves : List ReadyLeaf) (pieces : List Piece) (n : ℕ) (x : Piece) (found : Box3) → n < length pieces → x ≡ get_or pieces n x → found ≡ shape_box_of (extents leaves) x.shape
    → found ≡ piece_bounds_of (record { leaves = leaves_of leaves; pieces = pieces }) n
piece_value leaves pieces n x found lt e is =
    is ∙ ap (λ (bs : List Box3). shape_box_of bs x.shape) (same_boxes leaves)
    ∙ ap (λ (o : Option Piece). box_of_piece (leaves_of leaves) o) (sym (slice_get_read pieces (length pieces) n x refl lt e))

pub none_value : (leaves : List Leaf) (pieces : List Piece) (n : ℕ) (found : Box3) → length pieces ≤ n → found ≡ box_of_piece leaves None → found ≡ piece_bounds_of (record { leaves = leaves; pieces = pieces }) n
none_value leaves pieces n found past h = h ∙ ap (λ (o : Option Piece). box_of_piece leaves o) (sym (slice_get_past pieces n past))

-- the box of a piece's shape has one of the two points between which the piece is struck
pub piece_bounded : (leaves : List ReadyLeaf) (pieces : List Piece) (n : ℕ) (x : Piece) (found : Box3) → n < length pieces → x ≡ get_or pieces n x → found ≡ shape_box_of (extents leaves) x.shape
    → IsBounded (record { leaves = leaves_of leaves; pieces = pieces }) n found
piece_bounded leaves pieces n x found lt e is = λ ray shadow t m positive here there h.
    let f = leaf_on (leaves_of leaves) ray t in
    let at : slice_get pieces n ≡ Some x = slice_get_read pieces (length pieces) n x refl lt e in
    let O : Option Piece → Type 0 = λ o. piece_struck f shadow m o ≡ true in
    let k : strikes_of f shadow x m ≡ true = subst O at h in
    struck_between leaves ray x.shape found t m is here there (and_parts (counts shadow x.no_shadow) ((sides f x.shape).strikes m) k).1

pub none_bounded : (leaves : List Leaf) (pieces : List Piece) (n : ℕ) (found : Box3) → length pieces ≤ n → IsBounded (record { leaves = leaves; pieces = pieces }) n found
none_bounded leaves pieces n found past = λ ray shadow t m positive here there h.
    let O : Option Piece → Type 0 = λ o. piece_struck (leaf_on leaves ray t) shadow m o ≡ true in absurd (false≢true (subst O (slice_get_past pieces n past) h))
