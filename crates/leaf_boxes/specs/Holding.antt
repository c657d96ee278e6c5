-- Where leaves and shapes hold. (Reference manual, constructive solid geometry)
use Rattle.std.specs.Prelude.{ℕ, Bool, false, not, ◌&&◌, ◌||◌, List, [], ◌∷◌}
use Rattle.std.specs.Bool.{beq}
use Rattle.std.specs.List.{list_any, list_all}
use Rattle.scene_model.specs.declared.shape.Leaf.{Leaf}
use Rattle.scene_model.specs.declared.shape.Op.{Op}
use Rattle.scene_model.specs.declared.shape.Shape.{Shape}
use Rattle.scene_model.specs.declared.shape.Shape.TheOpen.{Shape-F}
use Rattle.scene_model.specs.declared.shape.Shape.TheFolds.{fold-Shape}
use Rattle.shapes.specs.Faces.{all_hold, faces_of}
use Rattle.shapes.specs.Rays.{Position}

-- exactly one of two
abbrev pub differ : Bool → Bool → Bool
differ a b = not (beq a b)

-- whether a leaf's solid holds at a point, and whether the leaf does: negated where it is inverse
abbrev pub solid_holds : Leaf → Position → Bool
solid_holds leaf p = all_hold (faces_of leaf p)

abbrev pub leaf_holds : Leaf → Position → Bool
leaf_holds leaf p = differ (solid_holds leaf p) leaf.inverse

-- whether a group holds, by its first part and the others: where a part does, where all do, or where the first and no other does
abbrev pub with_others : Op → Bool → List Bool → Bool
with_others Op.Union first others = first || list_any (λ b. b) others
with_others Op.Merge first others = first || list_any (λ b. b) others
with_others Op.Intersection first others = first && list_all (λ b. b) others
with_others Op.Difference first others = first && not (list_any (λ b. b) others)

abbrev pub group_holds : Op → List Bool → Bool
group_holds op [] = false
group_holds op (first ∷ others) = with_others op first others

-- a shape, by where its leaves hold; a group that is inverse holds where it else doesn't
abbrev pub holds_step : (ℕ → Bool) → Shape-F Bool → Bool
holds_step leaf (Shape-F.Leaf n) = leaf n
holds_step leaf (Shape-F.Group op parts inverse) = differ (group_holds op parts.items) inverse

abbrev pub shape_holds : (ℕ → Bool) → Shape → Bool
shape_holds leaf = fold-Shape Bool (holds_step leaf)
