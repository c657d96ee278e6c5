-- The pieces of a scene's objects: the shapes that one comes to from an object's shape by going down through unions
-- alone, inverse or not. Where a union is struck, one of its parts is; so an object is struck where a piece of it is.
use lib.Dec.{eqb}
use Rattle.std.specs.Prelude.{ℕ, ◌≡◌, Bool, false, ◌&&◌, ◌||◌, Option, Some, None, List, slice_get}
use Rattle.std.specs.List.{list_any}
use Rattle.scene_model.specs.declared.scene.Object.{Object}
use Rattle.scene_model.specs.declared.shape.Leaf.{Leaf}
use Rattle.scene_model.specs.declared.shape.Shape.{Shape}
use Rattle.shapes.specs.declared.ray.Ray.{Ray}
use Rattle.csg_hits.specs.declared.piece.Piece.{Piece}
use Rattle.csg_hits.specs.Sides.{Crossing, sides}
use Rattle.csg_hits.specs.Surfaces.{counts, leaf_on}

-- ---- by how each leaf is crossed

-- the leaves at which a piece is struck
abbrev pub strikes_of : (ℕ → Crossing) → Bool → Piece → ℕ → Bool
strikes_of leaf shadow piece n = counts shadow piece.no_shadow && (sides leaf piece.shape).strikes n

-- the same, where it is a piece of the object of a number
abbrev pub strikes_for : (ℕ → Crossing) → Bool → ℕ → ℕ → Piece → Bool
strikes_for leaf shadow object n piece = eqb object piece.object && strikes_of leaf shadow piece n

-- whether a piece of an object is struck
abbrev pub any_strikes : (ℕ → Crossing) → Bool → ℕ → ℕ → List Piece → Bool
any_strikes leaf shadow object n pieces = list_any (strikes_for leaf shadow object n) pieces

-- whether an object is; one that isn't there isn't
abbrev pub object_struck : (ℕ → Crossing) → Bool → ℕ → Option Object → Bool
object_struck leaf shadow n None = false
object_struck leaf shadow n (Some object) = counts shadow object.no_shadow && (sides leaf object.shape).strikes n

-- the pieces of an object with a shape come to others
abbrev pub AddsPieces : Shape → ℕ → Bool → List Piece → List Piece → Type 0
AddsPieces shape owner no_shadow old new =
    (leaf : ℕ → Crossing) (shadow : Bool) (object n : ℕ) → any_strikes leaf shadow object n new
    ≡ (any_strikes leaf shadow object n old || (eqb object owner && (counts shadow no_shadow && (sides leaf shape).strikes n)))

-- each object is struck exactly where one of its pieces is
abbrev pub ArePieces : List Object → List Piece → Type 0
ArePieces objects pieces = (leaf : ℕ → Crossing) (shadow : Bool) (object n : ℕ) → object_struck leaf shadow n (slice_get objects object) ≡ any_strikes leaf shadow object n pieces

-- ---- at the whole numbers of a ray

-- a scene's leaves and the pieces of its objects
pub record Pieces : Type 0 where
  pub leaves : List Leaf
  pub pieces : List Piece

-- a piece; one that isn't there isn't struck
abbrev pub piece_struck : (ℕ → Crossing) → Bool → ℕ → Option Piece → Bool
piece_struck leaf shadow n None = false
piece_struck leaf shadow n (Some piece) = strikes_of leaf shadow piece n

-- whether the leaf of a piece is struck at t, by their numbers
abbrev pub is_piece_struck : Pieces → Ray → Bool → ℕ → ℕ → ℕ → Bool
is_piece_struck s ray shadow t piece leaf = piece_struck (leaf_on s.leaves ray t) shadow leaf (slice_get s.pieces piece)

-- the object to which a piece belongs; 0 for one that isn't there
abbrev pub owner_of : Option Piece → ℕ
owner_of None = 0
owner_of (Some piece) = piece.object

abbrev pub owner : Pieces → ℕ → ℕ
owner s piece = owner_of (slice_get s.pieces piece)
