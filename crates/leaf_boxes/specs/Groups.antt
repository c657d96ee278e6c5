-- The boxes of shapes, by those of their leaves.
use Rattle.std.specs.Prelude.{ℕ, ◌≡◌, Bool, true, List, [], ◌∷◌, Option, Some, None, slice_get, if◌then◌else◌}
use Rattle.std.specs.Int.{int_max, int_min}
use Rattle.fix_math.specs.Matrices.{component, row_of}
use Rattle.scene_model.specs.declared.shape.Op.{Op}
use Rattle.scene_model.specs.declared.shape.Shape.{Shape}
use Rattle.scene_model.specs.declared.shape.Shape.TheOpen.{Shape-F}
use Rattle.scene_model.specs.declared.shape.Shape.TheFolds.{fold-Shape}
use Rattle.shapes.specs.Rays.{Position}
use Rattle.leaf_boxes.specs.declared.bounds.Box3.{Box3}
use Rattle.leaf_boxes.specs.Boxes.{IsInBox, world}

-- around two boxes, and what they have in common
abbrev pub hull : Box3 → Box3 → Box3
hull a b = record { lo = row_of (λ i. int_min (component a.lo i) (component b.lo i)); hi = row_of (λ i. int_max (component a.hi i) (component b.hi i)) }

abbrev pub common : Box3 → Box3 → Box3
common a b = record { lo = row_of (λ i. int_max (component a.lo i) (component b.lo i)); hi = row_of (λ i. int_min (component a.hi i) (component b.hi i)) }

-- a group's box with one part more; what is cut off doesn't count
abbrev pub with_box : Op → Box3 → Box3 → Box3
with_box Op.Union all part = hull all part
with_box Op.Merge all part = hull all part
with_box Op.Intersection all part = common all part
with_box Op.Difference all part = all

abbrev pub with_boxes : Op → Box3 → List Box3 → Box3
with_boxes op all [] = all
with_boxes op all (part ∷ parts) = with_boxes op (with_box op all part) parts

abbrev pub group_box : Op → List Box3 → Box3
group_box op [] = world
group_box op (first ∷ others) = with_boxes op first others

abbrev pub box_or_world : Option Box3 → Box3
box_or_world None = world
box_or_world (Some found) = found

abbrev pub box_numbered : List Box3 → ℕ → Box3
box_numbered boxes n = box_or_world (slice_get boxes n)

-- an inverse group has the world
abbrev pub box_step : List Box3 → Shape-F Box3 → Box3
box_step boxes (Shape-F.Leaf n) = box_numbered boxes n
box_step boxes (Shape-F.Group op parts inverse) = if inverse then world else group_box op parts.items

abbrev pub shape_box_of : List Box3 → Shape → Box3
shape_box_of boxes = fold-Shape Box3 (box_step boxes)

-- the boxes of the leaves that hold at a point hold the point
abbrev pub AreHeld : (ℕ → Bool) → List Box3 → Position → Type 0
AreHeld leaf boxes p = (n : ℕ) → leaf n ≡ true → IsInBox (box_numbered boxes n) p
