use Rattle.std.proofs.Common.{◌^◌, arith}
use Rattle.fix_math.specs.Matrices.{component, vector}
use Rattle.view_blocks.proofs.Sizes.{length_within}
use Rattle.view_blocks.proofs.view.length_along.Goals as goal

pub returns-clause-small : goal.returns-clause-small
returns-clause-small c = rw c.length_by.ensures (omega (arith, length_within (vector (component c.args.direction.now)) (2 ^ 51) (record { first = c.requires.first; second = c.requires.second; third = c.requires.third })))
