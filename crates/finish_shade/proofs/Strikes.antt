-- A leaf of a solid that is struck is struck itself.
use lib.Dec.{eqb}
use Rattle.std.proofs.Common.{ℕ, ◌+◌, ◌≡◌, Bool, true, ◌&&◌, Option, Some, None, List, [], ◌∷◌, length, map, slice_get, ap, sym, subst, ◌∙◌, ⊎_elim}
use Rattle.std.specs.List.{list_any}
use Rattle.std.proofs.lemmas.Bool.{and_parts, eqb-true, false≢true, or_cases}
use Rattle.scene_model.specs.declared.scene.Object.{Object}
use Rattle.scene_model.specs.declared.scene.Sheet.{Sheet}
use Rattle.scene_model.specs.declared.shape.Shape.{Shape}
use Rattle.scene_model.specs.declared.shape.Shape.TheOpen.{Shape-F}
use Rattle.scene_model.specs.declared.shape.Shape.TheViews.{roll-Shape}
use Rattle.scene_model.specs.declared.shape.Shape.TheFolds.{fold-roll-Shape, ind-Shape, map-Shape}
use Rattle.shapes.specs.declared.ray.Ray.{Ray}
use Rattle.csg_hits.specs.Sides.{Crossing, Sides, keeps, sides, sides_step, together}
use Rattle.csg_hits.specs.Surfaces.{Surfaces, counts, leaf_on, sheet_struck, shape_on, struck_of}

abbrev IsTold : (ℕ → Crossing) → ℕ → Shape → Type 0
IsTold leaf n shape = (sides leaf shape).strikes n ≡ true → (leaf n).struck ≡ true

parts_told : (leaf : ℕ → Crossing) (n : ℕ) (xs : List ((s : Shape) × IsTold leaf n s)) → list_any (λ v. v.strikes n) (map (sides leaf) (map (λ e. e.0) xs)) ≡ true → (leaf n).struck ≡ true
parts_told leaf n [] h = absurd (false≢true h)
parts_told leaf n (e ∷ es) h = ⊎_elim (λ k. e.1 k) (λ k. parts_told leaf n es k) (or_cases ((sides leaf e.0).strikes n) (list_any (λ v. v.strikes n) (map (sides leaf) (map (λ e. e.0) es))) h)

layer_told : (leaf : ℕ → Crossing) (n : ℕ) (y : Shape-F ((s : Shape) × IsTold leaf n s)) → IsTold leaf n (roll-Shape (map-Shape _ Shape (λ e. e.0) y))
layer_told leaf n (Shape-F.Leaf m) h =
    let e = fold-roll-Shape Sides (sides_step leaf) (Shape-F.Leaf m) in
    let k : ((leaf m).struck && eqb n m) ≡ true = sym (ap (λ (v : Sides). v.strikes n) e) ∙ h in
    let p = and_parts (leaf m).struck (eqb n m) k in
    let q : n ≡ m = eqb-true n m p.1 in
    let P : ℕ → Type 0 = λ z. (leaf z).struck ≡ true in subst P (sym q) p.0
layer_told leaf n (Shape-F.Group op parts inverse) h =
    let whole : Shape-F Shape = map-Shape _ Shape (λ e. e.0) (Shape-F.Group op parts inverse) in
    let e = fold-roll-Shape Sides (sides_step leaf) whole in
    let all = together op (map (sides leaf) (map (λ e. e.0) parts.items)) in
    let k : (keeps op all.before all.now && list_any (λ v. v.strikes n) (map (sides leaf) (map (λ e. e.0) parts.items))) ≡ true = sym (ap (λ (v : Sides). v.strikes n) e) ∙ h in
    let p = and_parts (keeps op all.before all.now) (list_any (λ v. v.strikes n) (map (sides leaf) (map (λ e. e.0) parts.items))) k in
    parts_told leaf n parts.items p.1

told : (leaf : ℕ → Crossing) (n : ℕ) (shape : Shape) → IsTold leaf n shape
told leaf n = ind-Shape (IsTold leaf n) (λ x y is. subst (λ z. IsTold leaf n (roll-Shape z)) is (layer_told leaf n y))

pub struck_case : (s : Surfaces) (ray : Ray) (shadow : Bool) (t i leaf : ℕ) (o : Option Object) → s.sheets ≡ [] → struck_of s ray shadow t i leaf o ≡ true → (leaf_on s.leaves ray t leaf).struck ≡ true
struck_case s ray shadow t i leaf (Some o) none h =
    let p = and_parts (counts shadow o.no_shadow) ((shape_on s.leaves ray o.shape t).strikes leaf) h in told (leaf_on s.leaves ray t) leaf o.shape p.1
struck_case s ray shadow t i leaf None none h =
    let P : List Sheet → Type 0 = λ xs. (sheet_struck shadow ray t (slice_get xs i) && eqb leaf (length s.leaves + i)) ≡ true in absurd (false≢true (subst P none h))
