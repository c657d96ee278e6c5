-- The size of a coordinate in the space of a pattern.
use Rattle.std.proofs.Common.{◌≤◌, ◌^◌, ℤ, List, unsigned_abs, arith}
use Rattle.fix_math.specs.Floor.{rnd_within}
use Rattle.fix_math.specs.MatrixLaws.{row_dot_within}
use Rattle.fix_math.specs.Matrices.{component, IsRowWithin}
use Rattle.fix_math.specs.Numbers.{shortened}
use Rattle.fix_math.specs.Vectors.{dot}

pub coordinate_small : (row seen : List ℤ) → IsRowWithin (2 ^ 44) row → IsRowWithin (2 ^ 45) seen → unsigned_abs (shortened (dot (component row) (component seen)) 48) ≤ 2 ^ 43
coordinate_small row seen h k =
    rnd_within (dot (component row) (component seen)) (2 ^ 48) (2 ^ 43) (omega arith) (omega (arith, row_dot_within row seen (2 ^ 44) (2 ^ 45) h k))
