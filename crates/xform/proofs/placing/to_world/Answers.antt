use Rattle.std.proofs.Common.{◌^◌, arith}
use Rattle.fix_math.specs.MatrixLaws.{IsMatrixWithin-weaker}
use Rattle.xform.specs.SpotLaws.{world_within}
use Rattle.xform.specs.Placing.{to_world}
use Rattle.xform.proofs.placing.to_world.Goals as goal

pub narrow-requires : goal.narrow-requires
narrow-requires c = rw c.product_by_flipped.ensures (IsMatrixWithin-weaker (to_world c.args.x.now c.args.frame.now) (2 ^ 46) (2 ^ 60) (omega arith) (world_within c.args.x.now c.args.frame.now c.requires.placed c.requires.frame_small))

pub returns-clause-small : goal.returns-clause-small
returns-clause-small c = rw (c.narrow.ensures, c.product_by_flipped.ensures) (world_within c.args.x.now c.args.frame.now c.requires.placed c.requires.frame_small)
