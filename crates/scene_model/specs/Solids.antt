-- Solids: their lengths, and their places in the world.
use Rattle.std.specs.Prelude.{◌≡◌, ℕ, ℤ, pos, ◌≤ℤ◌, ◌≤◌, ◌^◌, List, Ok, max, unsigned_abs, length}
use Rattle.std.specs.List.{All}
use Rattle.fix_math.specs.declared.fix.V3.{V3}
use Rattle.fix_math.specs.Directions.{unit_of, greatest_of}
use Rattle.fix_math.specs.Matrices.{row_of, row_at, along}
use Rattle.xform.specs.Transforms.{identity, IsPlaced}
use Rattle.xform.specs.Placing.{spot_of, axis_frame_of, IsSpot}
use Rattle.scene_model.specs.declared.shape.Leaf.{Leaf}
use Rattle.scene_model.specs.declared.shape.Primitive.{Primitive}
use Rattle.scene_model.specs.Amounts.{IsAmount, AreAmounts, IsIor}

-- a plane ends in a direction of length 1 unit, at most 4096 units from the origin
pub record IsPlane (normal : V3) (d : ℤ) : Type 0 where
  pub direction : (v : V3) × (normal ≡ unit_of v)
  pub distance : unsigned_abs d ≤ 2 ^ 28

-- an axis is from the least length to that of the longest way between two points of the world
pub record IsHeight (h : ℤ) : Type 0 where
  pub low : pos 1 ≤ℤ h
  pub high : unsigned_abs h ≤ 2 ^ 30

pub record IsCylinder (r h : ℤ) : Type 0 where
  pub radius : IsAmount (2 ^ 28) r
  pub height : IsHeight h

pub record IsCone (ra rb h : ℤ) : Type 0 where
  pub first : IsAmount (2 ^ 28) ra
  pub second : IsAmount (2 ^ 28) rb
  pub height : IsHeight h

pub record IsQuadric (c : List ℤ) : Type 0 where
  pub ten : length c ≡ 10
  pub each : All (λ z. unsigned_abs z ≤ 2 ^ 28) c

-- the lengths that each solid may have: radii to 4096 units, sides to 8192
abbrev pub IsPrim : Primitive → Type 0
IsPrim (Primitive.Sphere r) = IsAmount (2 ^ 28) r
IsPrim (Primitive.Box size) = AreAmounts (2 ^ 29) (row_of (along size))
IsPrim (Primitive.Plane normal d) = IsPlane normal d
IsPrim (Primitive.Cylinder r h uncapped) = IsCylinder r h
IsPrim (Primitive.Cone ra rb h axis uncapped) = IsCone ra rb h
IsPrim (Primitive.Quadric c) = IsQuadric c

-- how far a solid reaches from its middle along its axes, at most: what bits its place has to leave for
abbrev pub extent_of : Primitive → ℕ
extent_of (Primitive.Sphere r) = unsigned_abs r
extent_of (Primitive.Box size) = greatest_of size
extent_of (Primitive.Plane normal d) = unsigned_abs d
extent_of (Primitive.Cylinder r h uncapped) = max (unsigned_abs r) (unsigned_abs h)
extent_of (Primitive.Cone ra rb h axis uncapped) = max (max (unsigned_abs ra) (unsigned_abs rb)) (unsigned_abs h)
extent_of (Primitive.Quadric c) = 0

-- the axes that a solid is described by: those of its space, or an axis of its own with two across it
abbrev pub IsFrame : Primitive → List (List ℤ) → Type 0
IsFrame (Primitive.Sphere r) frame = frame ≡ identity (pos 65536)
IsFrame (Primitive.Box size) frame = frame ≡ identity (pos 65536)
IsFrame (Primitive.Plane normal d) frame = frame ≡ identity (pos 65536)
IsFrame (Primitive.Cylinder r h uncapped) frame = (v : V3) × (frame ≡ axis_frame_of v)
IsFrame (Primitive.Cone ra rb h axis uncapped) frame = (v : V3) × (frame ≡ axis_frame_of v) × (row_of (along axis) ≡ row_at frame 2)
IsFrame (Primitive.Quadric c) frame = frame ≡ identity (pos 65536)

-- a leaf's place is that of its middle c, in its frame, by its transform
pub record IsPlacing (leaf : Leaf) (frame : List (List ℤ)) (c : V3) : Type 0 where
  pub axes : IsFrame leaf.prim frame
  pub place : spot_of leaf.xform frame c (extent_of leaf.prim) ≡ Ok leaf.spot

pub record IsLeaf (leaf : Leaf) : Type 0 where
  pub prim : IsPrim leaf.prim
  pub xform : IsPlaced leaf.xform
  pub spot : IsSpot leaf.spot
  pub placing : (frame : List (List ℤ)) × (c : V3) × IsPlacing leaf frame c
  pub ior : IsIor leaf.ior
