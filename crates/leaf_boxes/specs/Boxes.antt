-- Boxes along the world's axes, and those that hold the solids of leaves.
use Rattle.std.specs.Prelude.{ℕ, zero, suc, ℤ, pos, neg_ℤ, ◌+ℤ◌, ◌-ℤ◌, ◌*ℤ◌, ◌≤ℤ◌, ◌+◌, ◌*◌, ◌<◌, ◌^◌, ◌||◌, not, List, [], ◌∷◌, Option, Some, None, unsigned_abs, int_le, if◌then◌else◌}
use Rattle.std.specs.Int.{int_div_euclid, int_max, int_min}
use Rattle.fix_math.specs.Matrices.{component, row_at, along, row_of, is_matrix_within}
use Rattle.fix_math.specs.Vectors.{dot}
use Rattle.xform.specs.declared.transform.Spot.{Spot}
use Rattle.scene_model.specs.declared.shape.Leaf.{Leaf}
use Rattle.scene_model.specs.declared.shape.Primitive.{Primitive}
use Rattle.shapes.specs.Faces.{long}
use Rattle.shapes.specs.Rays.{Position}
use Rattle.leaf_boxes.specs.declared.bounds.Box3.{Box3}
use Rattle.leaf_boxes.specs.declared.reach.Reach.{Reach}

-- from one number to another, with both
pub record IsFromTo (least most z : ℤ) : Type 0 where
  pub low : least ≤ℤ z
  pub high : z ≤ℤ most

-- a point's coordinate along an axis
abbrev pub coordinate : Position → ℕ → ℤ
coordinate p zero = p.x
coordinate p (suc zero) = p.y
coordinate p (suc (suc _)) = p.z

-- a point is in a box: along each axis from its lower corner to its upper one
abbrev pub IsInBox : Box3 → Position → Type 0
IsInBox b p = (i : ℕ) → i < 3 → IsFromTo (component b.lo i) (component b.hi i) (coordinate p i)

-- ---- where solids lie along their own axes

-- as far on both sides of the middle
abbrev pub ball_reach : ℤ → Reach
ball_reach r = record { low = neg_ℤ r ∷ neg_ℤ r ∷ neg_ℤ r ∷ []; high = r ∷ r ∷ r ∷ [] }

-- from the middle on
abbrev pub block_reach : ℤ → ℤ → ℤ → Reach
block_reach x y z = record { low = pos 0 ∷ pos 0 ∷ pos 0 ∷ []; high = x ∷ y ∷ z ∷ [] }

-- as far on both sides of the third axis, and along it from the middle on
abbrev pub pipe_reach : ℤ → ℤ → Reach
pipe_reach r h = record { low = neg_ℤ r ∷ neg_ℤ r ∷ pos 0 ∷ []; high = r ∷ r ∷ h ∷ [] }

-- the corners between which a solid lies, in the measure of its spot; planes and quadrics have none
abbrev pub reach_of : Primitive → Spot → Option Reach
reach_of (Primitive.Sphere r) s = Some (ball_reach (long s r))
reach_of (Primitive.Box size) s = Some (block_reach (long s size.x) (long s size.y) (long s size.z))
reach_of (Primitive.Plane normal d) s = None
reach_of (Primitive.Cylinder r h uncapped) s = Some (pipe_reach (long s r) (long s h))
reach_of (Primitive.Cone ra rb h axis uncapped) s = Some (pipe_reach (long s (int_max ra rb)) (long s h))
reach_of (Primitive.Quadric c) s = None

-- ---- from there to the world

-- of two rows, the first one's component where a row's isn't below 0, else the second one's
abbrev pub corner : List ℤ → List ℤ → List ℤ → ℕ → ℤ
corner row first second k = if int_le (pos 0) (component row k) then component first k else component second k

-- the least and the greatest sum of products of a row with a point between the corners
abbrev pub least : List ℤ → Reach → ℤ
least row reach = dot (component row) (corner row reach.low reach.high)

abbrev pub greatest : List ℤ → Reach → ℤ
greatest row reach = dot (component row) (corner row reach.high reach.low)

-- what a row of a spot's residual makes of a point of the world, at most: no coordinate is farther than 2^45 from the anchor
abbrev pub margin : List ℤ → ℕ
margin off = (unsigned_abs (component off 0) + unsigned_abs (component off 1) + unsigned_abs (component off 2)) * 2 ^ 45

-- without the last bits, rounded down and up
abbrev pub floor : ℤ → ℕ → ℤ
floor z bits = int_div_euclid z (pos (2 ^ bits))

abbrev pub ceiling : ℤ → ℕ → ℤ
ceiling z bits = neg_ℤ (floor (neg_ℤ z) bits)

-- cut to the world
abbrev pub cut : ℤ → ℤ
cut z = int_max (neg_ℤ (pos (2 ^ 44))) (int_min z (pos (2 ^ 44)))

-- the ends along an axis of the world, by the rows of a spot's way back and of its residual
abbrev pub lower_end : ℕ → List ℤ → List ℤ → ℤ → Reach → ℤ
lower_end e row off anchor reach = cut (floor (least row reach -ℤ pos (margin off)) (32 + e) +ℤ pos 65536 *ℤ anchor)

abbrev pub upper_end : ℕ → List ℤ → List ℤ → ℤ → Reach → ℤ
upper_end e row off anchor reach = cut (ceiling (greatest row reach +ℤ pos (margin off)) (32 + e) +ℤ pos 65536 *ℤ anchor)

-- the box of all that lies between two corners along a spot's axes
abbrev pub box_at : Spot → Reach → Box3
box_at s reach = record {
  lo = row_of (λ i. lower_end s.e (row_at s.m i) (row_at s.residual i) (along s.anchor i) reach);
  hi = row_of (λ i. upper_end s.e (row_at s.m i) (row_at s.residual i) (along s.anchor i) reach);
}

abbrev pub world : Box3
world = record { lo = row_of (λ i. neg_ℤ (pos (2 ^ 44))); hi = row_of (λ i. pos (2 ^ 44)) }

abbrev pub box_around : Spot → Option Reach → Box3
box_around s None = world
box_around s (Some reach) = box_at s reach

-- the box of a leaf: the world where it is inverse, where its solid has no corners, and where its spot's residual is above 2^78
abbrev pub box_of : Leaf → Box3
box_of leaf =
    if leaf.inverse || not (is_matrix_within (2 ^ 78) leaf.spot.residual) then world
    else box_around leaf.spot (reach_of leaf.prim leaf.spot)
