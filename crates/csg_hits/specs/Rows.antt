-- The numbers of a path at which leaves hold, as they are kept while a group is looked at.
use Rattle.std.specs.Prelude.{ℕ, ◌≡◌, ◌<◌, ◌-◌, Bool, true, false, ◌&&◌, Option, Some, None, List, slice_get}
use Rattle.scene_model.specs.declared.shape.Leaf.{Leaf}
use Rattle.scene_model.specs.declared.shape.Shape.{Shape}
use Rattle.shapes.specs.declared.parts.Stretches.{Stretches}
use Rattle.shapes.specs.declared.ray.Ray.{Ray}
use Rattle.shapes.specs.Lines.{is_in_stretches}
use Rattle.shapes.specs.Rays.{point_at}
use Rattle.csg_hits.specs.declared.row.Row.{Row}
use Rattle.csg_hits.specs.Sides.{Crossing, Sides, differ, sides}
use Rattle.csg_hits.specs.Surfaces.{leaf_crossing, leaf_on}

abbrev pub row_holds : Row → ℕ → Bool
row_holds row t = differ (is_in_stretches row.inside t) row.inverse

-- whether the side is crossed, where the ends are open
abbrev pub side_crossed : Option Stretches → ℕ → Bool
side_crossed None t = true
side_crossed (Some side) t = differ (is_in_stretches side (t - 1)) (is_in_stretches side t)

abbrev pub row_crossing : Row → ℕ → Crossing
row_crossing row t = record {
  before = row_holds row (t - 1);
  now = row_holds row t;
  struck = differ (row_holds row (t - 1)) (row_holds row t) && side_crossed row.side t;
}

abbrev pub crossing_in : Option Row → ℕ → Crossing
crossing_in None t = record { before = false; now = false; struck = false }
crossing_in (Some row) t = row_crossing row t

-- the leaf of a number, by the rows of all leaves
abbrev pub leaf_in : List Row → ℕ → ℕ → Crossing
leaf_in rows t n = crossing_in (slice_get rows n) t

abbrev pub shape_in : List Row → Shape → ℕ → Sides
shape_in rows shape t = sides (leaf_in rows t) shape

-- the row says how the leaf is, below an end
abbrev pub IsRowOf : Leaf → Ray → ℕ → Row → Type 0
IsRowOf leaf ray end row = (t : ℕ) → t < end → row_crossing row t ≡ leaf_crossing leaf (point_at ray (t - 1)) (point_at ray t)

-- the rows say how the leaf of a number is, below an end
abbrev pub IsRight : List Leaf → Ray → ℕ → List Row → ℕ → Type 0
IsRight leaves ray end rows n = (t : ℕ) → t < end → leaf_in rows t n ≡ leaf_on leaves ray t n

-- the rows say how a shape is behind a number and below an end, and so do all rows that are right where these are
abbrev pub IsFilled : List Leaf → Ray → ℕ → ℕ → List Row → Shape → Type 0
IsFilled leaves ray t end rows shape =
    (other : List Row) → ((n : ℕ) → IsRight leaves ray end rows n → IsRight leaves ray end other n)
    → (s : ℕ) → t < s → s < end → shape_in other shape s ≡ sides (leaf_on leaves ray s) shape
