-- Faces that fail, and the side of solids with open ends.
use Rattle.std.proofs.Common.{ℕ, ◌+◌, ◌≡◌, Bool, true, false, ◌&&◌, Option, Some, None, is_some, unwrap_or, List, [], ◌∷◌, length, refl, ap, sym, subst, ◌∙◌, arith}
use Rattle.std.proofs.lemmas.Bool.{false≢true}
use Rattle.scene_model.specs.declared.shape.Leaf.{Leaf}
use Rattle.scene_model.specs.declared.shape.Primitive.{Primitive}
use Rattle.shapes.specs.declared.body.Body.{Body}
use Rattle.shapes.specs.declared.body.Body.TheVariants.{Ball, Block, Half, Pipe, Cone, Bowl}
use Rattle.shapes.specs.Faces.{all_hold, faces_of, faces_at, first_failing, first_failing_from}
use Rattle.shapes.specs.Rays.{Position}
use Rattle.shapes.specs.Solids.{body_faces, side_faces, is_uncapped}
use Rattle.fix_math.specs.declared.fix.V3.{V3}
use Rattle.csg_hits.specs.Sides.{differ}
use Rattle.csg_hits.specs.Surfaces.{face_of, first_holds, outer_of, solid_holds}

-- a list with a face that fails, and one without
fails_from : (n : ℕ) (faces : List Bool) (k : ℕ) → first_failing_from n faces ≡ Some k → all_hold faces ≡ false
fails_from n [] k e = absurd (false≢true (ap (λ (o : Option ℕ). is_some o) e))
fails_from n (true ∷ faces) k e = fails_from (n + 1) faces k e
fails_from n (false ∷ faces) k e = refl

holds_from : (n : ℕ) (faces : List Bool) → first_failing_from n faces ≡ None → all_hold faces ≡ true
holds_from n [] e = refl
holds_from n (true ∷ faces) e = holds_from (n + 1) faces e
holds_from n (false ∷ faces) e = absurd (false≢true (sym (ap (λ (o : Option ℕ). is_some o) e)))

told_from : (n : ℕ) (faces : List Bool) (found : Option ℕ) → all_hold faces ≡ false → found ≡ first_failing_from n faces → Some (unwrap_or found 0) ≡ first_failing_from n faces
told_from n [] found e h = absurd (false≢true (sym e))
told_from n (true ∷ faces) found e h = told_from (n + 1) faces found e h
told_from n (false ∷ faces) found e h = ap (λ (o : Option ℕ). Some (unwrap_or o 0)) h

other_true : (b : Bool) → differ false b ≡ true → b ≡ true
other_true true e = refl
other_true false e = absurd (false≢true e)

other_false : (b : Bool) → differ true b ≡ true → b ≡ false
other_false true e = absurd (false≢true e)
other_false false e = refl

-- a solid that is entered between two points
pub entered : (leaf : Leaf) (p q : Position) (k : ℕ) → first_failing (faces_of leaf p) ≡ Some k → differ (solid_holds leaf p) (solid_holds leaf q) ≡ true → true ≡ solid_holds leaf q
entered leaf p q k e h =
    let P : Bool → Type 0 = λ b. differ b (solid_holds leaf q) ≡ true in
    sym (other_true (solid_holds leaf q) (subst P (fails_from 0 (faces_of leaf p) k e) h))

pub entered_face : (leaf : Leaf) (p q : Position) (k : ℕ) → first_failing (faces_of leaf p) ≡ Some k → differ (solid_holds leaf p) (solid_holds leaf q) ≡ true → Some k ≡ face_of (Some leaf) p q
entered_face leaf p q k e h =
    let P : Bool → Type 0 = λ b. Some k ≡ first_failing (faces_of leaf (outer_of b p q)) in subst P (entered leaf p q k e h) (sym e)

-- one that is left
pub left : (leaf : Leaf) (p q : Position) → first_failing (faces_of leaf p) ≡ None → differ (solid_holds leaf p) (solid_holds leaf q) ≡ true → false ≡ solid_holds leaf q
left leaf p q e h =
    let P : Bool → Type 0 = λ b. differ b (solid_holds leaf q) ≡ true in
    sym (other_false (solid_holds leaf q) (subst P (holds_from 0 (faces_of leaf p) e) h))

pub left_face : (leaf : Leaf) (p q : Position) (found : Option ℕ) → first_failing (faces_of leaf p) ≡ None → differ (solid_holds leaf p) (solid_holds leaf q) ≡ true → found ≡ first_failing (faces_of leaf q) → Some (unwrap_or found 0) ≡ face_of (Some leaf) p q
left_face leaf p q found e h k =
    let f = left leaf p q e h in
    let P : Bool → Type 0 = λ b. Some (unwrap_or found 0) ≡ first_failing (faces_of leaf (outer_of b p q)) in subst P f (told_from 0 (faces_of leaf q) found (sym f) k)

-- ---- the side of solids with open ends

and_all : (a : Bool) → (a && true) ≡ a
and_all true = refl
and_all false = refl

three : (body : Body) (p : Position) (a b c : Bool) → body_faces body p ≡ a ∷ b ∷ c ∷ [] → all_hold (side_faces body p) ≡ a
three (Ball globe) p a b c e = absurd (let n = ap (λ (xs : List Bool). length xs) e in omega arith)
three (Block cuboid) p a b c e = absurd (let n = ap (λ (xs : List Bool). length xs) e in omega arith)
three (Half half) p a b c e = absurd (let n = ap (λ (xs : List Bool). length xs) e in omega arith)
three (Pipe tube) p a b c e = and_all _ ∙ ap first_holds e
three (Cone taper) p a b c e = and_all _ ∙ ap first_holds e
three (Bowl conic) p a b c e = absurd (let n = ap (λ (xs : List Bool). length xs) e in omega arith)

pub open_side : (leaf : Leaf) (u : V3) (prim : Primitive) (body : Body) (p : Position) → is_uncapped prim ≡ true → body_faces body p ≡ faces_at prim leaf.xform leaf.spot u → all_hold (side_faces body p) ≡ first_holds (faces_at prim leaf.xform leaf.spot u)
open_side leaf u (Primitive.Sphere r) body p h e = absurd (false≢true h)
open_side leaf u (Primitive.Box size) body p h e = absurd (false≢true h)
open_side leaf u (Primitive.Plane normal d) body p h e = absurd (false≢true h)
open_side leaf u (Primitive.Cylinder r height uncapped) body p h e = three body p _ _ _ e
open_side leaf u (Primitive.Cone ra rb height axis uncapped) body p h e = three body p _ _ _ e
open_side leaf u (Primitive.Quadric c) body p h e = absurd (false≢true h)
