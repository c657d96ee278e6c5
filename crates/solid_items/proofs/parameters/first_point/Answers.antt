use Rattle.fix_math.specs.declared.fix.V3.{V3}
use Rattle.fix_math.specs.Matrices.{IsVectorWithin}
use Rattle.item_blocks.specs.Parameters.{point_of}
use Rattle.solid_items.proofs.Sizes.{kept_parameter, kept_point}
use Rattle.solid_items.proofs.parameters.first_point.Goals as goal

pub returns-clause-small : goal.returns-clause-small
returns-clause-small c = kept_parameter V3 point_of (IsVectorWithin 268435456) kept_point c.args.tokens.now c.args.set.now c.args.at _ c.in_ok-v.ensures.found
