use Rattle.std.proofs.Common.{◌^◌, arith}
use Rattle.fix_math.specs.MatrixLaws.{IsMatrixWithin-weaker}
use Rattle.xform.specs.SpotLaws.{object_within}
use Rattle.xform.specs.Placing.{to_object}
use Rattle.xform.proofs.placing.to_object.Goals as goal

pub narrow-requires : goal.narrow-requires
narrow-requires c = rw c.product.ensures (IsMatrixWithin-weaker (to_object c.args.x.now c.args.frame.now c.args.e) (2 ^ 46) (2 ^ 60) (omega arith) (object_within c.args.x.now c.args.frame.now c.args.e c.requires.placed c.requires.frame_small c.requires.most))

pub returns-clause-small : goal.returns-clause-small
returns-clause-small c = rw (c.narrow.ensures, c.product.ensures) (object_within c.args.x.now c.args.frame.now c.args.e c.requires.placed c.requires.frame_small c.requires.most)
