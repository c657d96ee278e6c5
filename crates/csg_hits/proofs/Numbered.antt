-- A leaf of a shape that is struck is struck itself; and objects by their numbers.
use lib.Dec.{eqb}
use Rattle.std.proofs.Common.{ℕ, ◌+◌, ◌-◌, ◌<◌, ◌≤◌, ◌≡◌, Bool, true, false, ◌&&◌, not, Option, Some, None, List, [], ◌∷◌, length, get_or, map, slice_get, refl, ap, sym, subst, ◌∙◌, ⊎_elim}
use Rattle.std.specs.Bool.{beq}
use Rattle.std.specs.List.{list_any}
use Rattle.std.proofs.lemmas.Bool.{and_parts, eqb-true, false≢true, or_cases}
use Rattle.std.proofs.lemmas.Option.{slice_get_read}
use Rattle.scene_model.specs.declared.scene.Object.{Object}
use Rattle.scene_model.specs.declared.scene.Sheet.{Sheet}
use Rattle.scene_model.specs.declared.shape.Leaf.{Leaf}
use Rattle.scene_model.specs.declared.shape.Shape.{Shape}
use Rattle.scene_model.specs.declared.shape.Shape.TheOpen.{Shape-F}
use Rattle.scene_model.specs.declared.shape.Shape.TheViews.{roll-Shape}
use Rattle.scene_model.specs.declared.shape.Shape.TheFolds.{fold-roll-Shape, ind-Shape, map-Shape}
use Rattle.shapes.specs.declared.ray.Ray.{Ray}
use Rattle.shapes.specs.Rays.{Position, point_at}
use Rattle.csg_hits.specs.declared.piece.Piece.{Piece}
use Rattle.csg_hits.specs.declared.ready.ReadyObject.{ReadyObject}
use Rattle.csg_hits.specs.Pieces.{Pieces, is_piece_struck, owner, owner_of, piece_struck}
use Rattle.csg_hits.specs.Ready.{objects_of}
use Rattle.csg_hits.specs.Sides.{Crossing, Sides, differ, keeps, sides, sides_step, together}
use Rattle.csg_hits.specs.Surfaces.{Surfaces, counts, crossing_of, enters_at, enters_of, enters_sheet, face_at, face_of, is_gate, is_struck, leaf_holds, leaf_on, sheet_struck, shape_on, solid_holds, struck_of}

abbrev IsTold : (ℕ → Crossing) → ℕ → Shape → Type 0
IsTold leaf n shape = (sides leaf shape).strikes n ≡ true → (leaf n).struck ≡ true

parts_told : (leaf : ℕ → Crossing) (n : ℕ) (xs : List ((s : Shape) × IsTold leaf n s)) → list_any (λ v. v.strikes n) (map (sides leaf) (map (λ e. e.0) xs)) ≡ true → (leaf n).struck ≡ true
parts_told leaf n [] h = absurd (false≢true h)
parts_told leaf n (e ∷ es) h = ⊎_elim (λ k. e.1 k) (λ k. parts_told leaf n es k) (or_cases ((sides leaf e.0).strikes n) (list_any (λ v. v.strikes n) (map (sides leaf) (map (λ e. e.0) es))) h)

layer_told : (leaf : ℕ → Crossing) (n : ℕ) (y : Shape-F ((s : Shape) × IsTold leaf n s)) → IsTold leaf n (roll-Shape (map-Shape _ Shape (λ e. e.0) y))
layer_told leaf n (Shape-F.Leaf m) h =
    let e = fold-roll-Shape Sides (sides_step leaf) (Shape-F.Leaf m) in
    let k : ((leaf m).struck && eqb n m) ≡ true = sym (ap (λ (v : Sides). v.strikes n) e) ∙ h in
    let p = and_parts (leaf m).struck (eqb n m) k in
    let q : n ≡ m = eqb-true n m p.1 in
    let P : ℕ → Type 0 = λ z. (leaf z).struck ≡ true in subst P (sym q) p.0
layer_told leaf n (Shape-F.Group op parts inverse) h =
    let whole : Shape-F Shape = map-Shape _ Shape (λ e. e.0) (Shape-F.Group op parts inverse) in
    let e = fold-roll-Shape Sides (sides_step leaf) whole in
    let all = together op (map (sides leaf) (map (λ e. e.0) parts.items)) in
    let k : (keeps op all.before all.now && list_any (λ v. v.strikes n) (map (sides leaf) (map (λ e. e.0) parts.items))) ≡ true = sym (ap (λ (v : Sides). v.strikes n) e) ∙ h in
    let p = and_parts (keeps op all.before all.now) (list_any (λ v. v.strikes n) (map (sides leaf) (map (λ e. e.0) parts.items))) k in
    parts_told leaf n parts.items p.1

told : (leaf : ℕ → Crossing) (n : ℕ) (shape : Shape) → IsTold leaf n shape
told leaf n = ind-Shape (IsTold leaf n) (λ x y is. subst (λ z. IsTold leaf n (roll-Shape z)) is (layer_told leaf n y))

struck_case : (s : Surfaces) (ray : Ray) (shadow : Bool) (t i leaf : ℕ) (o : Option Object) → s.sheets ≡ [] → struck_of s ray shadow t i leaf o ≡ true → (leaf_on s.leaves ray t leaf).struck ≡ true
struck_case s ray shadow t i leaf (Some o) none h =
    let p = and_parts (counts shadow o.no_shadow) ((shape_on s.leaves ray o.shape t).strikes leaf) h in told (leaf_on s.leaves ray t) leaf o.shape p.1
struck_case s ray shadow t i leaf None none h =
    let P : List Sheet → Type 0 = λ xs. (sheet_struck shadow ray t (slice_get xs i) && eqb leaf (length s.leaves + i)) ≡ true in absurd (false≢true (subst P none h))

unflip : (a b inverse : Bool) → differ (differ a inverse) (differ b inverse) ≡ true → differ a b ≡ true
unflip true true true e = absurd (false≢true e)
unflip true true false e = absurd (false≢true e)
unflip true false true e = refl
unflip true false false e = refl
unflip false true true e = refl
unflip false true false e = refl
unflip false false true e = absurd (false≢true e)
unflip false false false e = absurd (false≢true e)

-- the solid of a struck leaf holds at exactly one of the two points
pub crossed : (s : Surfaces) (ray : Ray) (shadow : Bool) (t object n : ℕ) (x : Leaf) (p q : Position) → s.sheets ≡ [] → is_struck s ray shadow t object n ≡ true → slice_get s.leaves n ≡ Some x
    → p ≡ point_at ray (t - 1) → q ≡ point_at ray t → differ (solid_holds x p) (solid_holds x q) ≡ true
crossed s ray shadow t object n x p q none h at e f =
    let a = point_at ray (t - 1) in
    let b = point_at ray t in
    let k = struck_case s ray shadow t (object - length s.objects) n (slice_get s.objects object) none h in
    let P : Option Leaf → Type 0 = λ o. (crossing_of o a b).struck ≡ true in
    let m : (differ (leaf_holds x a) (leaf_holds x b) && is_gate x a b) ≡ true = subst P at k in
    let r = and_parts (differ (leaf_holds x a) (leaf_holds x b)) (is_gate x a b) m in
    let u : differ (solid_holds x a) (solid_holds x b) ≡ true = unflip (solid_holds x a) (solid_holds x b) x.inverse r.0 in
    let Q : Position → Type 0 = λ v. differ (solid_holds x v) (solid_holds x b) ≡ true in
    let R : Position → Type 0 = λ v. differ (solid_holds x p) (solid_holds x v) ≡ true in
    subst R (sym f) (subst Q (sym e) u)

pub face_there : (s : Surfaces) (ray : Ray) (t n : ℕ) (x : Leaf) (p q : Position) (k : ℕ) → slice_get s.leaves n ≡ Some x → p ≡ point_at ray (t - 1) → q ≡ point_at ray t → Some k ≡ face_of (Some x) p q → Some k ≡ face_at s ray t n
face_there s ray t n x p q k at e f h =
    let P : Option Leaf → Type 0 = λ o. Some k ≡ face_of o (point_at ray (t - 1)) (point_at ray t) in
    let Q : Position → Type 0 = λ v. Some k ≡ face_of (Some x) v q in
    let R : Position → Type 0 = λ v. Some k ≡ face_of (Some x) (point_at ray (t - 1)) v in
    subst P (sym at) (subst R f (subst Q e h))

pub enters_there : (s : Surfaces) (ray : Ray) (t n : ℕ) (x : Leaf) (q : Position) (holds negated entering : Bool) → slice_get s.leaves n ≡ Some x → q ≡ point_at ray t → holds ≡ solid_holds x q → negated ≡ x.negated
    → entering ≡ not (beq holds negated) → entering ≡ enters_at s ray t n
enters_there s ray t n x q holds negated entering at f h k e =
    let P : Option Leaf → Type 0 = λ o. entering ≡ enters_of s n o (point_at ray t) in
    let Q : Position → Type 0 = λ v. entering ≡ differ (solid_holds x v) x.negated in
    subst P (sym at) (subst Q f (e ∙ ap (λ (v : Bool). differ v negated) h ∙ ap (λ (v : Bool). differ (solid_holds x q) v) k))

pub no_face : (s : Surfaces) (ray : Ray) (t n : ℕ) → slice_get s.leaves n ≡ None → Some 0 ≡ face_at s ray t n
no_face s ray t n at = let P : Option Leaf → Type 0 = λ o. Some 0 ≡ face_of o (point_at ray (t - 1)) (point_at ray t) in subst P (sym at) refl

pub never_enters : (s : Surfaces) (ray : Ray) (t n : ℕ) → s.sheets ≡ [] → slice_get s.leaves n ≡ None → false ≡ enters_at s ray t n
never_enters s ray t n none at =
    let P : Option Leaf → Type 0 = λ o. false ≡ enters_of s n o (point_at ray t) in
    let Q : List Sheet → Type 0 = λ xs. false ≡ enters_sheet (slice_get xs (n - length s.leaves)) (point_at ray t) in subst P (sym at) (subst Q (sym none) refl)

-- ---- objects and pieces by their numbers

abbrev pub plain : List Leaf → List ReadyObject → Surfaces
plain leaves objects = record { leaves = leaves; objects = objects_of objects; sheets = [] }

abbrev parted : List Leaf → List Piece → Pieces
parted leaves pieces = record { leaves = leaves; pieces = pieces }

pub owned : (leaves : List Leaf) (pieces : List Piece) (n : ℕ) (x : Piece) → n < length pieces → x ≡ get_or pieces n x → x.object ≡ owner (parted leaves pieces) n
owned leaves pieces n x lt e = ap (λ (o : Option Piece). owner_of o) (sym (slice_get_read pieces (length pieces) n x refl lt e))

pub counted : (leaves : List Leaf) (pieces : List Piece) (ray : Ray) (shadow : Bool) (n : ℕ) (x : Piece) → n < length pieces → x ≡ get_or pieces n x → counts shadow x.no_shadow ≡ true
    → (t m : ℕ) → is_piece_struck (parted leaves pieces) ray shadow t n m ≡ (shape_on leaves ray x.shape t).strikes m
counted leaves pieces ray shadow n x lt e h t m =
    ap (λ (o : Option Piece). piece_struck (leaf_on leaves ray t) shadow m o) (slice_get_read pieces (length pieces) n x refl lt e) ∙ ap (λ (b : Bool). b && (shape_on leaves ray x.shape t).strikes m) h

-- a place of a list that is another one
pub read_in : {A : Type 0} (xs list : List A) (n : ℕ) (x : A) → list ≡ xs → n < length list → x ≡ get_or list n x → (n < length xs) × (x ≡ get_or xs n x)
read_in {A} xs list n x same lt e = let P : List A → Type 0 = λ l. (n < length l) × (x ≡ get_or l n x) in subst P same (lt, e)

pub past_in : {A : Type 0} (xs list : List A) (n : ℕ) → list ≡ xs → length list ≤ n → length xs ≤ n
past_in {A} xs list n same past = let P : List A → Type 0 = λ l. length l ≤ n in subst P same past
