use Rattle.std.proofs.Common.{◌^◌, ◌+◌, ◌*◌, arith}
use Rattle.fix_math.specs.Matrices.{along, row_of}
use Rattle.fix_math.specs.MatrixLaws.{cross_within, IsRowWithin-weaker}
use Rattle.fix_math.specs.Vectors.{cross_of}
use Rattle.xform.proofs.placing.small_cross.Goals as goal

pub known_vector-requires : goal.known_vector-requires
known_vector-requires c =
    let a = c.args.a.now in let b = c.args.b.now in
    rw c.cross.ensures.value
    (IsRowWithin-weaker (row_of (along (cross_of a b))) (65536 * 65536 + 65536 * 65536) (2 ^ 46) (omega arith) (cross_within (row_of (along a)) (row_of (along b)) 65536 65536 c.requires.a_small c.requires.b_small))
