-- There is room for a valid leaf's lengths in the measure of its spot.
use Rattle.std.proofs.Common.{ℕ, ℤ, pos, ◌*◌, ◌<◌, ◌≤◌, ◌^◌, ◌≡◌, arith, subst, sym, List, unsigned_abs, ◌+◌}
use Rattle.std.proofs.Common.{◌*ℤ◌}
use Rattle.std.proofs.Math.Nat.{mul-le-mul_right}
use Rattle.std.proofs.lemmas.Int.{unsigned_abs-mul}
use Rattle.std.proofs.lemmas.Nat.{pow-add}
use Rattle.fix_math.specs.declared.fix.V3.{V3}
use Rattle.fix_math.specs.Matrices.{IsMatrixWithin}
use Rattle.xform.specs.Placing.{axis_frame_of}
use Rattle.xform.specs.SpotLaws.{placing_of, axis_frame_within}
use Rattle.xform.specs.Transforms.{identity}
use Rattle.scene_model.specs.Solids.{IsLeaf, IsPrim, IsFrame, extent_of}
use Rattle.scene_model.specs.declared.shape.Leaf.{Leaf}
use Rattle.scene_model.specs.declared.shape.Primitive.{Primitive}

identity_within : IsMatrixWithin 65537 (identity (pos 65536))
identity_within = record {
  first = record { first = omega arith; second = omega arith; third = omega arith };
  second = record { first = omega arith; second = omega arith; third = omega arith };
  third = record { first = omega arith; second = omega arith; third = omega arith };
}

world_frame : (frame : List (List ℤ)) → frame ≡ identity (pos 65536) → IsMatrixWithin 65537 frame
world_frame frame e = let P : List (List ℤ) → Type 0 = λ f. IsMatrixWithin 65537 f in subst P (sym e) identity_within

axis_frame : (frame : List (List ℤ)) (v : V3) → frame ≡ axis_frame_of v → IsMatrixWithin 65537 frame
axis_frame frame v e = let P : List (List ℤ) → Type 0 = λ f. IsMatrixWithin 65537 f in subst P (sym e) (axis_frame_within v)

frame_within : (prim : Primitive) (frame : List (List ℤ)) → IsFrame prim frame → IsMatrixWithin 65537 frame
frame_within (Primitive.Sphere r) frame h = world_frame frame h
frame_within (Primitive.Box size) frame h = world_frame frame h
frame_within (Primitive.Plane normal d) frame h = world_frame frame h
frame_within (Primitive.Cylinder r h uncapped) frame k = axis_frame frame k.0 k.1
frame_within (Primitive.Cone ra rb h axis uncapped) frame k = axis_frame frame k.0 k.1
frame_within (Primitive.Quadric c) frame h = world_frame frame h

extent_few : (prim : Primitive) → IsPrim prim → extent_of prim ≤ 2 ^ 30
extent_few (Primitive.Sphere r) h = omega (arith, h.high)
extent_few (Primitive.Box size) h = omega (arith, h.first.high, h.second.high, h.third.high)
extent_few (Primitive.Plane normal d) h = omega (arith, h.distance)
extent_few (Primitive.Cylinder r h uncapped) k = omega (arith, k.radius.high, k.height.high)
extent_few (Primitive.Cone ra rb h axis uncapped) k = omega (arith, k.first.high, k.second.high, k.height.high)
extent_few (Primitive.Quadric c) h = omega arith

pub room_under : (leaf : Leaf) → IsLeaf leaf → (n : ℕ) → n ≤ extent_of leaf.prim → n * 2 ^ leaf.spot.e < 2 ^ 45
room_under leaf h n le =
    let p = h.placing in
    let s = placing_of leaf.xform p.0 p.1 (extent_of leaf.prim) leaf.spot h.xform (frame_within leaf.prim p.0 p.2.axes) (extent_few leaf.prim h.prim) p.2.place in
    omega (arith, s.room, mul-le-mul_right (2 ^ leaf.spot.e) le)

-- and so in 64 bits
times_more : (n p q : ℕ) → n * (p * q) ≡ (n * p) * q
times_more n p q = omega arith

pub length_small : (a : ℤ) (e : ℕ) → unsigned_abs a * 2 ^ e < 2 ^ 45 → unsigned_abs (a *ℤ pos (2 ^ (e + 16))) ≤ 2 ^ 61
length_small a e room =
    let s : unsigned_abs (a *ℤ pos (2 ^ (e + 16))) ≡ unsigned_abs a * 2 ^ (e + 16) = unsigned_abs-mul a (pos (2 ^ (e + 16))) in
    let p = pow-add 2 e 16 in
    let m : unsigned_abs a * (2 ^ e * 2 ^ 16) ≡ (unsigned_abs a * 2 ^ e) * 2 ^ 16 = times_more (unsigned_abs a) (2 ^ e) (2 ^ 16) in
    rw (s, p, m) (omega arith)
