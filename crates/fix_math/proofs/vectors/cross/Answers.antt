use Rattle.std.proofs.Common.{◌^◌}
use Rattle.fix_math.specs.MatrixLaws.{cross_within}
use Rattle.fix_math.proofs.vectors.cross.Goals as goal

pub returns-clause-small : goal.returns-clause-small
returns-clause-small c =
    rw c.row_cross.ensures (cross_within c.raws.result c.raws-2.result (2 ^ 47) (2 ^ 47) c.raws.ensures.small c.raws-2.ensures.small)
