use Rattle.std.proofs.Common.{◌^◌}
use Rattle.fix_math.specs.MatrixLaws.{cross_within}
use Rattle.xform.proofs.matrix_step.small_cross.Goals as goal

pub returns-clause-small : goal.returns-clause-small
returns-clause-small c = rw c.row_cross.ensures (cross_within c.args.u.now c.args.w.now (2 ^ 38) (2 ^ 38) c.requires.u_small c.requires.w_small)
