-- The boxes of a scene's objects and of their pieces: what they are, and what lies in them.
use Rattle.std.specs.Prelude.{ℕ, ◌≡◌, ◌-◌, ◌≤◌, ◌⊎◌, Bool, true, false, Option, Some, None, List, map, slice_get}
use Rattle.scene_model.specs.declared.scene.Object.{Object}
use Rattle.scene_model.specs.declared.shape.Leaf.{Leaf}
use Rattle.shapes.specs.declared.ray.Ray.{Ray}
use Rattle.shapes.specs.Rays.{Position, IsInWorld, point_at}
use Rattle.leaf_boxes.specs.declared.bounds.Box3.{Box3}
use Rattle.leaf_boxes.specs.Boxes.{IsInBox, box_of, world}
use Rattle.leaf_boxes.specs.Groups.{shape_box_of}
use Rattle.leaf_boxes.specs.Holding.{leaf_holds, shape_holds}
use Rattle.csg_hits.specs.declared.piece.Piece.{Piece}
use Rattle.csg_hits.specs.Pieces.{Pieces, is_piece_struck}
use Rattle.csg_hits.specs.Surfaces.{Surfaces, is_struck}

-- ---- where objects hold

-- whether the leaf of a number holds at a point; one that isn't there doesn't
abbrev pub there_holds : Option Leaf → Position → Bool
there_holds None p = false
there_holds (Some leaf) p = leaf_holds leaf p

abbrev pub leaf_at : List Leaf → Position → ℕ → Bool
leaf_at leaves p n = there_holds (slice_get leaves n) p

-- whether an object holds at a point; one that isn't there doesn't
abbrev pub holds_of : List Leaf → Option Object → Position → Bool
holds_of leaves None p = false
holds_of leaves (Some object) p = shape_holds (leaf_at leaves p) object.shape

abbrev pub object_holds : Surfaces → ℕ → Position → Bool
object_holds s object p = holds_of s.leaves (slice_get s.objects object) p

-- ---- their boxes

-- the box of an object, by the boxes of the leaves; of one that isn't there the world
abbrev pub box_of_object : List Leaf → Option Object → Box3
box_of_object leaves None = world
box_of_object leaves (Some object) = shape_box_of (map box_of leaves) object.shape

abbrev pub bounds_of : Surfaces → ℕ → Box3
bounds_of s object = box_of_object s.leaves (slice_get s.objects object)

-- and so the box of a piece
abbrev pub box_of_piece : List Leaf → Option Piece → Box3
box_of_piece leaves None = world
box_of_piece leaves (Some piece) = shape_box_of (map box_of leaves) piece.shape

abbrev pub piece_bounds_of : Pieces → ℕ → Box3
piece_bounds_of s piece = box_of_piece s.leaves (slice_get s.pieces piece)

-- each point of the world at which an object holds lies in the box
abbrev pub HoldsInside : Surfaces → ℕ → Box3 → Type 0
HoldsInside s object box = (p : Position) → IsInWorld p → object_holds s object p ≡ true → IsInBox box p

-- where something is struck between two points of the world, one of the two lies in the box
abbrev pub HoldsStrikes : (Ray → Bool → ℕ → ℕ → Bool) → Box3 → Type 0
HoldsStrikes strikes box =
    (ray : Ray) (shadow : Bool) (t leaf : ℕ) → 1 ≤ t → IsInWorld (point_at ray (t - 1)) → IsInWorld (point_at ray t) → strikes ray shadow t leaf ≡ true
    → IsInBox box (point_at ray (t - 1)) ⊎ IsInBox box (point_at ray t)

-- so it is of an object
abbrev pub HoldsStruck : Surfaces → ℕ → Box3 → Type 0
HoldsStruck s object box = HoldsStrikes (λ ray shadow t leaf. is_struck s ray shadow t object leaf) box

-- and so of a piece
abbrev pub IsBounded : Pieces → ℕ → Box3 → Type 0
IsBounded s piece box = HoldsStrikes (λ ray shadow t leaf. is_piece_struck s ray shadow t piece leaf) box
