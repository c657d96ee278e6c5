-- The directions in which solids end: those in which the number grows that a face keeps low, at a point inside.
use Rattle.std.specs.Prelude.{ℕ, zero, suc, ℤ, pos, ◌+ℤ◌, ◌-ℤ◌, ◌*ℤ◌, List}
use Rattle.fix_math.specs.declared.fix.V3.{V3}
use Rattle.fix_math.specs.Directions.{unit_wide_of}
use Rattle.fix_math.specs.Matrices.{component, entry, along, vector, row_of}
use Rattle.fix_math.specs.Vectors.{dot}
use Rattle.xform.specs.declared.transform.Spot.{Spot}
use Rattle.xform.specs.declared.transform.Xform.{Xform}
use Rattle.scene_model.specs.declared.shape.Leaf.{Leaf}
use Rattle.scene_model.specs.declared.shape.Primitive.{Primitive}
use Rattle.shapes.specs.Faces.{seen_from, own, radius_at, slope_of, quadric_of}
use Rattle.shapes.specs.Rays.{Position}

abbrev pub sum : V3 → V3 → V3
sum v w = record { x = v.x +ℤ w.x; y = v.y +ℤ w.y; z = v.z +ℤ w.z }

abbrev pub difference : V3 → V3 → V3
difference v w = record { x = v.x -ℤ w.x; y = v.y -ℤ w.y; z = v.z -ℤ w.z }

abbrev pub multiple : ℤ → V3 → V3
multiple k v = record { x = k *ℤ v.x; y = k *ℤ v.y; z = k *ℤ v.z }

abbrev pub opposite : V3 → V3
opposite v = record { x = pos 0 -ℤ v.x; y = pos 0 -ℤ v.y; z = pos 0 -ℤ v.z }

-- how a point's coordinate along one of the solid's axes grows
abbrev pub axis_of : Spot → ℕ → V3
axis_of spot i = vector (entry spot.n i)

-- out of the two ends along an axis, of which the first looks back along it
abbrev pub out_of_ends : V3 → ℕ → V3
out_of_ends axis zero = opposite axis
out_of_ends axis (suc _) = axis

abbrev pub out_of_box : V3 → V3 → V3 → ℕ → V3
out_of_box x y z zero = opposite x
out_of_box x y z (suc zero) = x
out_of_box x y z (suc (suc zero)) = opposite y
out_of_box x y z (suc (suc (suc zero))) = y
out_of_box x y z (suc (suc (suc (suc face)))) = out_of_ends z face

-- half of what the square of a distance from the third axis, or from the middle, grows by
abbrev pub out_of_pipe : V3 → V3 → V3 → V3
out_of_pipe l x y = sum (multiple l.x x) (multiple l.y y)

abbrev pub out_of_ball : V3 → V3 → V3 → V3 → V3
out_of_ball l x y z = sum (out_of_pipe l x y) (multiple l.z z)

-- a side, and then the two ends along the third axis
abbrev pub out_of_side : V3 → V3 → ℕ → V3
out_of_side side z zero = side
out_of_side side z (suc face) = out_of_ends z face

-- what the ten terms of a quadric grow by along each coordinate
abbrev pub gradient : List ℤ → V3 → V3
gradient q u = record {
  x = component q 6 +ℤ component q 0 *ℤ u.x +ℤ component q 0 *ℤ u.x +ℤ component q 3 *ℤ u.y +ℤ component q 4 *ℤ u.z;
  y = component q 7 +ℤ component q 1 *ℤ u.y +ℤ component q 1 *ℤ u.y +ℤ component q 3 *ℤ u.x +ℤ component q 5 *ℤ u.z;
  z = component q 8 +ℤ component q 2 *ℤ u.z +ℤ component q 2 *ℤ u.z +ℤ component q 4 *ℤ u.x +ℤ component q 5 *ℤ u.y;
}

-- out of a face of a solid, at a point as seen from its anchor
abbrev pub outward_at : Primitive → Xform → Spot → V3 → ℕ → V3
outward_at (Primitive.Sphere r) x spot u face = out_of_ball (own spot u) (axis_of spot 0) (axis_of spot 1) (axis_of spot 2)
outward_at (Primitive.Box size) x spot u face = out_of_box (axis_of spot 0) (axis_of spot 1) (axis_of spot 2) face
outward_at (Primitive.Plane normal d) x spot u face = vector (λ j. dot (along normal) (λ i. entry spot.n i j))
outward_at (Primitive.Cylinder r h uncapped) x spot u face =
    out_of_side (out_of_pipe (own spot u) (axis_of spot 0) (axis_of spot 1)) (axis_of spot 2) face
outward_at (Primitive.Cone ra rb h axis uncapped) x spot u face =
    out_of_side
    (difference (out_of_pipe (own spot u) (axis_of spot 0) (axis_of spot 1)) (multiple (radius_at ra rb h axis x spot u) (vector (slope_of ra rb h axis x spot))))
    (axis_of spot 2) face
outward_at (Primitive.Quadric c) x spot u face = gradient (quadric_of c x) u

abbrev pub outward_of : Leaf → Position → ℕ → V3
outward_of leaf p face = outward_at leaf.prim leaf.xform leaf.spot (seen_from leaf.spot.anchor p) face

-- with the length of 1 unit
abbrev pub unit_towards : V3 → V3
unit_towards v = unit_wide_of (row_of (along v))
