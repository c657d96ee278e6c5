-- The faces of solids, each as a test of a point of the world. A solid holds where all its faces do.
-- (Reference manual, finite solid primitives, infinite solid primitives)
use lib.Dec.{leb}
use Rattle.std.specs.Prelude.{ℕ, ℤ, pos, ◌+ℤ◌, ◌-ℤ◌, ◌*ℤ◌, ◌+◌, ◌-◌, ◌^◌, Bool, ◌&&◌, List, [], ◌∷◌, ◌++◌, unsigned_abs, nat_le, nat_lt, int_le, if◌then◌else◌, Some, Option, None}
use Rattle.std.specs.List.{list_all}
use Rattle.std.specs.Int.{int_max}
use Rattle.fix_math.specs.declared.fix.V3.{V3}
use Rattle.fix_math.specs.Least.{least_below}
use Rattle.fix_math.specs.Matrices.{component, entry, along, vector, image}
use Rattle.fix_math.specs.Numbers.{rnd, shortened}
use Rattle.fix_math.specs.Vectors.{dot, dot_of}
use Rattle.xform.specs.declared.transform.Spot.{Spot}
use Rattle.xform.specs.declared.transform.Xform.{Xform}
use Rattle.scene_model.specs.declared.shape.Leaf.{Leaf}
use Rattle.scene_model.specs.declared.shape.Primitive.{Primitive}
use Rattle.shapes.specs.Rays.{Position}
use Rattle.shapes.specs.Spheres.{square, offset_from}

-- a point as seen from an anchor, in units of 2^-32
abbrev pub seen_from : V3 → Position → V3
seen_from anchor p = record { x = offset_from anchor.x p.x; y = offset_from anchor.y p.y; z = offset_from anchor.z p.z }

-- the same along a solid's own axes: 2 ^ (e + 16) of it are one raw number, with e of the spot
abbrev pub own : Spot → V3 → V3
own spot u = vector (image spot.n u)

-- a raw length in that measure
abbrev pub long : Spot → ℤ → ℤ
long spot a = a *ℤ pos (2 ^ (spot.e + 16))

-- at most so far from 0, on both sides
abbrev pub is_near : ℤ → ℤ → Bool
is_near most z = nat_le (unsigned_abs z) (unsigned_abs most)

-- no farther from the middle than a radius
abbrev pub in_ball : ℤ → V3 → Bool
in_ball r l = is_near r l.x && (is_near r l.y && (is_near r l.z && int_le (square l.x +ℤ square l.y +ℤ square l.z) (square r)))

-- no farther from the third axis than a radius
abbrev pub in_pipe : ℤ → V3 → Bool
in_pipe r l = is_near r l.x && (is_near r l.y && int_le (square l.x +ℤ square l.y) (square r))

-- no farther from the third axis than a radius that changes from point to point, which is at least 0; nor than the widest
abbrev pub in_taper : ℤ → ℤ → V3 → Bool
in_taper widest r l =
    is_near widest l.x && (is_near widest l.y && (int_le (pos 0) r && (int_le r (pos (2 ^ 62)) && int_le (square l.x +ℤ square l.y) (square r))))

-- the two ends along an axis, from the middle on
abbrev pub ends : ℤ → ℤ → List Bool
ends length l = int_le (pos 0) l ∷ int_le l length ∷ []

-- ---- cones: how the radius grows with each coordinate

abbrev pub slope_of : ℤ → ℤ → ℤ → V3 → Xform → Spot → ℕ → ℤ
slope_of ra rb h axis xform spot j =
    rnd ((rb -ℤ ra) *ℤ dot (along axis) (λ k. entry xform.n k j)) (h *ℤ pos (2 ^ (48 - spot.e)))

-- the radius at a point
abbrev pub radius_at : ℤ → ℤ → ℤ → V3 → Xform → Spot → V3 → ℤ
radius_at ra rb h axis xform spot u = dot (slope_of ra rb h axis xform spot) (along u) +ℤ long spot ra

-- ---- quadrics: the coefficients of a point's coordinates, from those of the solid's own

-- the six terms of the second degree, by what stands for the product of two own coordinates
abbrev pub squares_of : List ℤ → (ℕ → ℕ → ℤ) → ℤ
squares_of c f =
    component c 0 *ℤ f 0 0 +ℤ component c 1 *ℤ f 1 1 +ℤ component c 2 *ℤ f 2 2 +ℤ component c 3 *ℤ f 0 1 +ℤ component c 4 *ℤ f 0 2 +ℤ component c 5 *ℤ f 1 2

-- the coefficient of a coordinate's square, and of a product of two coordinates
abbrev pub square_term : List ℤ → Xform → ℕ → ℤ
square_term c x a = squares_of c (λ i j. entry x.n i a *ℤ entry x.n j a)

abbrev pub product_term : List ℤ → Xform → ℕ → ℕ → ℤ
product_term c x a b = squares_of c (λ i j. entry x.n i a *ℤ entry x.n j b +ℤ entry x.n i b *ℤ entry x.n j a)

-- the coefficient of a coordinate
abbrev pub linear_term : List ℤ → Xform → ℕ → ℤ
linear_term c x a = component c 6 *ℤ entry x.n 0 a +ℤ component c 7 *ℤ entry x.n 1 a +ℤ component c 8 *ℤ entry x.n 2 a

-- z · 2^(up - down), rounded where that is below 1
abbrev pub shifted : ℕ → ℕ → ℤ → ℤ
shifted up down z = if nat_le down up then z *ℤ pos (2 ^ (up - down)) else shortened z (down - up)

-- the coefficients of x², y², z², xy, xz, yz, x, y, z and 1, with so many bits less
abbrev pub coefficients : List ℤ → Xform → ℕ → List ℤ
coefficients c x f =
    shifted 0 f (square_term c x 0) ∷ shifted 0 f (square_term c x 1) ∷ shifted 0 f (square_term c x 2)
    ∷ shifted 0 f (product_term c x 0 1) ∷ shifted 0 f (product_term c x 0 2) ∷ shifted 0 f (product_term c x 1 2)
    ∷ shifted 64 f (linear_term c x 0) ∷ shifted 64 f (linear_term c x 1) ∷ shifted 64 f (linear_term c x 2)
    ∷ shifted 128 f (component c 9) ∷ []

-- they are small enough to be multiplied in 128 bits
abbrev pub is_short : List ℤ → ℕ → ℕ → Bool
is_short q bits i = nat_lt (unsigned_abs (component q i)) (2 ^ bits)

abbrev pub are_small : List ℤ → Bool
are_small q =
    (is_short q 32 0 && (is_short q 32 1 && is_short q 32 2)) && ((is_short q 32 3 && (is_short q 32 4 && is_short q 32 5))
    && ((is_short q 76 6 && (is_short q 76 7 && is_short q 76 8)) && is_short q 121 9))

-- with the fewest bits less that make them small
abbrev pub quadric_of : List ℤ → Xform → List ℤ
quadric_of c x = coefficients c x (least_below (λ f. are_small (coefficients c x f)) 128)

abbrev pub quadric_at : List ℤ → V3 → ℤ
quadric_at q u =
    component q 0 *ℤ (u.x *ℤ u.x) +ℤ component q 1 *ℤ (u.y *ℤ u.y) +ℤ component q 2 *ℤ (u.z *ℤ u.z)
    +ℤ component q 3 *ℤ (u.x *ℤ u.y) +ℤ component q 4 *ℤ (u.x *ℤ u.z) +ℤ component q 5 *ℤ (u.y *ℤ u.z)
    +ℤ component q 6 *ℤ u.x +ℤ component q 7 *ℤ u.y +ℤ component q 8 *ℤ u.z +ℤ component q 9

-- ---- the faces

abbrev pub faces_at : Primitive → Xform → Spot → V3 → List Bool
faces_at (Primitive.Sphere r) x spot u = in_ball (long spot r) (own spot u) ∷ []
faces_at (Primitive.Box size) x spot u =
    ends (long spot size.x) (own spot u).x ++ (ends (long spot size.y) (own spot u).y ++ ends (long spot size.z) (own spot u).z)
faces_at (Primitive.Plane normal d) x spot u = int_le (dot_of normal (own spot u)) (d *ℤ pos (2 ^ (spot.e + 32))) ∷ []
faces_at (Primitive.Cylinder r h uncapped) x spot u = in_pipe (long spot r) (own spot u) ∷ ends (long spot h) (own spot u).z
faces_at (Primitive.Cone ra rb h axis uncapped) x spot u =
    in_taper (long spot (int_max ra rb)) (radius_at ra rb h axis x spot u) (own spot u) ∷ ends (long spot h) (own spot u).z
faces_at (Primitive.Quadric c) x spot u = int_le (quadric_at (quadric_of c x) u) (pos 0) ∷ []

-- whether each face of a leaf's solid holds at a point of the world
abbrev pub faces_of : Leaf → Position → List Bool
faces_of leaf p = faces_at leaf.prim leaf.xform leaf.spot (seen_from leaf.spot.anchor p)

-- a solid holds where all its faces do
abbrev pub all_hold : List Bool → Bool
all_hold faces = list_all (λ b. b) faces

-- the number of the first face that doesn't; faces are numbered from n on
abbrev pub first_failing_from : ℕ → List Bool → Option ℕ
first_failing_from n [] = None
first_failing_from n (holds ∷ faces) = if holds then first_failing_from (n + 1) faces else Some n

abbrev pub first_failing : List Bool → Option ℕ
first_failing faces = first_failing_from 0 faces
