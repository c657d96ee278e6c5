-- What lies in boxes: in one of two, in both, and in the world.
use Rattle.std.specs.Prelude.{zero, suc, ℤ, pos, neg_ℤ, ◌≤◌, ◌^◌, unsigned_abs}
use Rattle.std.specs.Int.{int_max, int_min}
use Rattle.std.proofs.Common.{arith}
use Rattle.std.proofs.lemmas.Int.{ints, clamps}
use Rattle.fix_math.specs.Matrices.{component}
use Rattle.shapes.specs.Rays.{Position, IsInWorld}
use Rattle.leaf_boxes.specs.declared.bounds.Box3.{Box3}
use Rattle.leaf_boxes.specs.Boxes.{IsFromTo, IsInBox, world}
use Rattle.leaf_boxes.specs.Groups.{hull, common}

from_min : (a b c d z : ℤ) → IsFromTo a c z → IsFromTo (int_min a b) (int_max c d) z
from_min a b c d z h = let p = h.low in let q = h.high in record { low = omega (arith, ints, clamps); high = omega (arith, ints, clamps) }

from_min_second : (a b c d z : ℤ) → IsFromTo b d z → IsFromTo (int_min a b) (int_max c d) z
from_min_second a b c d z h = let p = h.low in let q = h.high in record { low = omega (arith, ints, clamps); high = omega (arith, ints, clamps) }

from_both : (a b c d z : ℤ) → IsFromTo a c z → IsFromTo b d z → IsFromTo (int_max a b) (int_min c d) z
from_both a b c d z h k = let p = h.low in let q = h.high in let r = k.low in let s = k.high in record { low = omega (arith, ints, clamps); high = omega (arith, ints, clamps) }

-- what is in one of two boxes is in the box around them, and what is in both in what they have in common
pub in_first : (a b : Box3) (p : Position) → IsInBox a p → IsInBox (hull a b) p
in_first a b p h zero lt = from_min (component a.lo 0) (component b.lo 0) (component a.hi 0) (component b.hi 0) p.x (h 0 lt)
in_first a b p h (suc zero) lt = from_min (component a.lo 1) (component b.lo 1) (component a.hi 1) (component b.hi 1) p.y (h 1 lt)
in_first a b p h (suc (suc zero)) lt = from_min (component a.lo 2) (component b.lo 2) (component a.hi 2) (component b.hi 2) p.z (h 2 lt)
in_first a b p h (suc (suc (suc i))) lt = absurd (omega arith)

pub in_second : (a b : Box3) (p : Position) → IsInBox b p → IsInBox (hull a b) p
in_second a b p h zero lt = from_min_second (component a.lo 0) (component b.lo 0) (component a.hi 0) (component b.hi 0) p.x (h 0 lt)
in_second a b p h (suc zero) lt = from_min_second (component a.lo 1) (component b.lo 1) (component a.hi 1) (component b.hi 1) p.y (h 1 lt)
in_second a b p h (suc (suc zero)) lt = from_min_second (component a.lo 2) (component b.lo 2) (component a.hi 2) (component b.hi 2) p.z (h 2 lt)
in_second a b p h (suc (suc (suc i))) lt = absurd (omega arith)

pub in_both : (a b : Box3) (p : Position) → IsInBox a p → IsInBox b p → IsInBox (common a b) p
in_both a b p h k zero lt = from_both (component a.lo 0) (component b.lo 0) (component a.hi 0) (component b.hi 0) p.x (h 0 lt) (k 0 lt)
in_both a b p h k (suc zero) lt = from_both (component a.lo 1) (component b.lo 1) (component a.hi 1) (component b.hi 1) p.y (h 1 lt) (k 1 lt)
in_both a b p h k (suc (suc zero)) lt = from_both (component a.lo 2) (component b.lo 2) (component a.hi 2) (component b.hi 2) p.z (h 2 lt) (k 2 lt)
in_both a b p h k (suc (suc (suc i))) lt = absurd (omega arith)

size_between : (p : ℤ) → unsigned_abs p ≤ 2 ^ 44 → IsFromTo (neg_ℤ (pos (2 ^ 44))) (pos (2 ^ 44)) p
size_between p h = record { low = omega (arith, ints); high = omega (arith, ints) }

-- what is in the world is in its box
pub in_world : (p : Position) → IsInWorld p → IsInBox world p
in_world p within zero lt = size_between p.x within.x
in_world p within (suc zero) lt = size_between p.y within.y
in_world p within (suc (suc zero)) lt = size_between p.z within.z
in_world p within (suc (suc (suc i))) lt = absurd (omega arith)
