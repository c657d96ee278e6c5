use Rattle.std.proofs.Common.{◌^◌, FitsSigned, arith, to_z-of_z}
use Rattle.std.specs.Int.{w128}
use Rattle.fix_math.specs.MatrixLaws.{row_dot_within}
use Rattle.fix_math.proofs.vectors.dot.Goals as goal

pub returns-clause-small : goal.returns-clause-small
returns-clause-small c =
    let fits : FitsSigned w128 c.row_dot.result = record { sfits = c.row_dot.type_inv } in
    let size = row_dot_within c.raws.result c.raws-2.result (2 ^ 47) (2 ^ 47) c.raws.ensures.small c.raws-2.ensures.small in
    rw (to_z-of_z fits, c.row_dot.ensures.value) (omega (arith, size))
