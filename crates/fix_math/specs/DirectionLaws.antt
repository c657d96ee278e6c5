-- The length of a vector against the sizes of its components, and the sizes of a direction's.
use Rattle.std.specs.Prelude.{◌≡◌, ℕ, ℤ, pos, ◌+ℤ◌, ◌*ℤ◌, ◌+◌, ◌*◌, ◌≤◌, ◌<◌, unsigned_abs, nat_eq, if◌then◌else◌, Bool, true, false, refl}
use Rattle.std.proofs.Common.{arith}
use Rattle.std.proofs.lemmas.Bool.Decides.{nat_tests}
use Rattle.std.proofs.lemmas.Int.{ints, unsigned_abs-mul}
use Rattle.fix_math.specs.declared.fix.V3.{V3}
use Rattle.fix_math.specs.Directions.{long_length_of, unit_of}
use Rattle.fix_math.specs.Floor.{rnd_within}
use Rattle.fix_math.specs.Matrices.{IsVectorWithin}
use Rattle.fix_math.specs.Numbers.{rnd}
use Rattle.fix_math.specs.Order.{square-size}
use Rattle.fix_math.specs.RootLaws.{root_order, root_most}
use Rattle.fix_math.specs.Roots.{root}

pub sum_of_squares : (x y z : ℤ) → unsigned_abs (x *ℤ x +ℤ y *ℤ y +ℤ z *ℤ z) ≡ unsigned_abs x * unsigned_abs x + unsigned_abs y * unsigned_abs y + unsigned_abs z * unsigned_abs z
sum_of_squares x y z = omega (arith, ints, square-size x, square-size y, square-size z)

pub within_length : (x rest l : ℕ) → (x * x + rest) * 4294967296 < (l + 1) * (l + 1) → x * 65536 ≤ l
within_length x rest l h = root_order (x * 65536) l (omega arith)

-- a component's share of 1 unit is at most 1 unit
share_within : (x : ℤ) (l : ℕ) → 0 < l → unsigned_abs x * 65536 ≤ l → unsigned_abs (rnd (x *ℤ pos 4294967296) (pos l)) ≤ 65536
share_within x l some le = rnd_within (x *ℤ pos 4294967296) l 65536 some (omega (arith, unsigned_abs-mul x (pos 4294967296)))

share_of : (x : ℤ) (rest n : ℕ) → n ≡ (unsigned_abs x * unsigned_abs x + rest) * 4294967296 → 0 < root n → unsigned_abs (rnd (x *ℤ pos 4294967296) (pos (root n))) ≤ 65536
share_of x rest n e some = share_within x (root n) some (within_length (unsigned_abs x) rest (root n) (omega (arith, root_most n)))

-- the components of a direction of length 1 unit are at most 1 unit
pub unit_within : (v : V3) → IsVectorWithin 65536 (unit_of v)
unit_within v = by_length (nat_eq (long_length_of v) 0) refl
  where
    some_of : (n : ℕ) → nat_eq n 0 ≡ false → 0 < n
    some_of n e = grind (arith, nat_tests)

    by_length : (b : Bool) → nat_eq (long_length_of v) 0 ≡ b → IsVectorWithin 65536
        (if b then record { x = pos 0; y = pos 0; z = pos 65536 }
        else record {
          x = rnd (v.x *ℤ pos 4294967296) (pos (long_length_of v));
          y = rnd (v.y *ℤ pos 4294967296) (pos (long_length_of v));
          z = rnd (v.z *ℤ pos 4294967296) (pos (long_length_of v));
        })
    by_length true e = record { first = omega arith; second = omega arith; third = omega arith }
    by_length false e =
        let x : ℕ = unsigned_abs v.x * unsigned_abs v.x in
        let y : ℕ = unsigned_abs v.y * unsigned_abs v.y in
        let z : ℕ = unsigned_abs v.z * unsigned_abs v.z in
        let n : ℕ = unsigned_abs (v.x *ℤ v.x +ℤ v.y *ℤ v.y +ℤ v.z *ℤ v.z) * 4294967296 in
        let sum = sum_of_squares v.x v.y v.z in
        let some = some_of (long_length_of v) e in record {
          first = share_of v.x (y + z) n (omega (arith, sum)) some;
          second = share_of v.y (x + z) n (omega (arith, sum)) some;
          third = share_of v.z (x + y) n (omega (arith, sum)) some;
        }
