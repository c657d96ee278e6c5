-- The length of a vector against the sizes of its components x, y, z.
use Rattle.std.specs.Prelude.{ℕ, ◌+◌, ◌*◌, ◌≤◌, max}
use Rattle.std.proofs.Common.{arith, mul-le-mul}
use Rattle.fix_math.specs.RootLaws.{root_order}

pub length_within : (x y z l : ℕ) → l * l ≤ (x * x + y * y + z * z) * 4294967296 → l ≤ max (max x y) z * 131072
length_within x y z l h =
    let m : ℕ = max (max x y) z in
    let x_in : x ≤ max (max x y) z = omega arith in
    let y_in : y ≤ max (max x y) z = omega arith in
    let z_in : z ≤ max (max x y) z = omega arith in
    root_order l (max (max x y) z * 131072) (omega (arith, mul-le-mul x_in x_in, mul-le-mul y_in y_in, mul-le-mul z_in z_in))
