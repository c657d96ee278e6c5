-- What rays meet of a scene: its leaves, its objects and its triangles, at the whole numbers of a ray.
use lib.Dec.{eqb}
use Rattle.std.specs.Prelude.{ℕ, ◌+◌, ◌-◌, ℤ, pos, ◌-ℤ◌, Bool, false, ◌&&◌, ◌||◌, not, if◌then◌else◌, Option, Some, None, List, [], ◌∷◌, length, slice_get, int_le}
use Rattle.fix_math.specs.declared.fix.V3.{V3}
use Rattle.fix_math.specs.Vectors.{dot_of, cross_of}
use Rattle.scene_model.specs.declared.scene.Object.{Object}
use Rattle.scene_model.specs.declared.scene.Scene.{Scene}
use Rattle.scene_model.specs.declared.scene.Sheet.{Sheet}
use Rattle.scene_model.specs.declared.shape.Leaf.{Leaf}
use Rattle.scene_model.specs.declared.shape.Shape.{Shape}
use Rattle.shapes.specs.declared.ray.Ray.{Ray}
use Rattle.shapes.specs.Faces.{faces_of, first_failing, seen_from}
use Rattle.shapes.specs.Rays.{Position, point_at}
use Rattle.shapes.specs.Solids.{is_uncapped}
pub use Rattle.leaf_boxes.specs.Holding.{solid_holds, leaf_holds}
use Rattle.csg_hits.specs.Sides.{Crossing, Sides, differ, sides}

pub record Surfaces : Type 0 where
  pub leaves : List Leaf
  pub objects : List Object
  pub sheets : List Sheet

abbrev pub surfaces_of : Scene → Surfaces
surfaces_of scene = record { leaves = scene.leaves.items; objects = scene.objects.items; sheets = scene.sheets.items }

-- all but the triangles
abbrev pub without_sheets : Surfaces → Surfaces
without_sheets surfaces = record { leaves = surfaces.leaves; objects = surfaces.objects; sheets = [] }

-- ---- leaves

-- whether face 0 holds: the side of a cylinder or cone
abbrev pub first_holds : List Bool → Bool
first_holds [] = false
first_holds (face ∷ faces) = face

-- whether the ends of a solid count where it is left or entered: one with open ends is struck on its side alone
abbrev pub is_gate : Leaf → Position → Position → Bool
is_gate leaf p q = not (is_uncapped leaf.prim) || differ (first_holds (faces_of leaf p)) (first_holds (faces_of leaf q))

-- a leaf from one point to the next: struck where it holds at exactly one of the two
abbrev pub leaf_crossing : Leaf → Position → Position → Crossing
leaf_crossing leaf p q = record {
  before = leaf_holds leaf p;
  now = leaf_holds leaf q;
  struck = differ (leaf_holds leaf p) (leaf_holds leaf q) && is_gate leaf p q;
}

abbrev pub crossing_of : Option Leaf → Position → Position → Crossing
crossing_of None p q = record { before = false; now = false; struck = false }
crossing_of (Some leaf) p q = leaf_crossing leaf p q

-- the leaf of a number, from t - 1 to t of a ray
abbrev pub leaf_on : List Leaf → Ray → ℕ → ℕ → Crossing
leaf_on leaves ray t n = crossing_of (slice_get leaves n) (point_at ray (t - 1)) (point_at ray t)

-- ---- objects

-- a shape, from t - 1 to t of a ray
abbrev pub shape_on : List Leaf → Ray → Shape → ℕ → Sides
shape_on leaves ray shape t = sides (leaf_on leaves ray t) shape

-- whether a thing counts: all do, but in a shadow ray those without shadow
abbrev pub counts : Bool → Bool → Bool
counts shadow no_shadow = not (shadow && no_shadow)

-- the leaves at which an object is struck at t
abbrev pub object_strikes : List Leaf → Ray → Bool → Object → ℕ → ℕ → Bool
object_strikes leaves ray shadow object t n = counts shadow object.no_shadow && (shape_on leaves ray object.shape t).strikes n

-- ---- triangles. (Reference manual, triangle and smooth_triangle)

abbrev pub minus : V3 → V3 → V3
minus a b = record { x = a.x -ℤ b.x; y = a.y -ℤ b.y; z = a.z -ℤ b.z }

-- square on a triangle
abbrev pub across : Sheet → V3
across sheet = cross_of (minus sheet.b sheet.a) (minus sheet.c sheet.a)

-- whether a point is on the inner side of a triangle's plane
abbrev pub is_behind : Sheet → Position → Bool
is_behind sheet p = int_le (dot_of (across sheet) (seen_from sheet.a p)) (pos 0)

-- on which side of an edge a ray passes
abbrev pub turn_of : Ray → V3 → V3 → ℤ
turn_of ray a b = dot_of ray.dir (cross_of (minus a ray.origin) (minus b ray.origin))

-- whether a ray's line passes on the same side of all three edges
abbrev pub is_between : Ray → Sheet → Bool
is_between ray sheet =
    let u = turn_of ray sheet.a sheet.b in let v = turn_of ray sheet.b sheet.c in let w = turn_of ray sheet.c sheet.a in
    (int_le (pos 0) u && (int_le (pos 0) v && int_le (pos 0) w)) || (int_le u (pos 0) && (int_le v (pos 0) && int_le w (pos 0)))

abbrev pub sheet_struck : Bool → Ray → ℕ → Option Sheet → Bool
sheet_struck shadow ray t None = false
sheet_struck shadow ray t (Some sheet) =
    counts shadow sheet.no_shadow && (differ (is_behind sheet (point_at ray (t - 1))) (is_behind sheet (point_at ray t)) && is_between ray sheet)

-- ---- all surfaces: objects come first, and then triangles, whose numbers go on behind those of the objects and of the leaves

abbrev pub struck_of : Surfaces → Ray → Bool → ℕ → ℕ → ℕ → Option Object → Bool
struck_of s ray shadow t i leaf (Some object) = object_strikes s.leaves ray shadow object t leaf
struck_of s ray shadow t i leaf None = sheet_struck shadow ray t (slice_get s.sheets i) && eqb leaf (length s.leaves + i)

-- whether the leaf of an object is struck at t, by their numbers
abbrev pub is_struck : Surfaces → Ray → Bool → ℕ → ℕ → ℕ → Bool
is_struck s ray shadow t object leaf = struck_of s ray shadow t (object - length s.objects) leaf (slice_get s.objects object)

-- the one of two points at which the leaf's solid doesn't hold: by whether it holds at the second
abbrev pub outer_of : Bool → Position → Position → Position
outer_of holds p q = if holds then p else q

-- the face of a leaf that is struck at t: the first that fails at the outer point; of a triangle 0
abbrev pub face_of : Option Leaf → Position → Position → Option ℕ
face_of (Some leaf) p q = first_failing (faces_of leaf (outer_of (solid_holds leaf q) p q))
face_of None p q = Some 0

abbrev pub face_at : Surfaces → Ray → ℕ → ℕ → Option ℕ
face_at s ray t leaf = face_of (slice_get s.leaves leaf) (point_at ray (t - 1)) (point_at ray t)

-- whether the ray goes into the whole object at a leaf that is struck at t: that the leaf's solid holds there, exchanged where it is negated; of a triangle, that it comes behind it
abbrev pub enters_sheet : Option Sheet → Position → Bool
enters_sheet None q = false
enters_sheet (Some sheet) q = is_behind sheet q

abbrev pub enters_of : Surfaces → ℕ → Option Leaf → Position → Bool
enters_of s leaf (Some found) q = differ (solid_holds found q) found.negated
enters_of s leaf None q = enters_sheet (slice_get s.sheets (leaf - length s.leaves)) q

abbrev pub enters_at : Surfaces → Ray → ℕ → ℕ → Bool
enters_at s ray t leaf = enters_of s leaf (slice_get s.leaves leaf) (point_at ray t)
