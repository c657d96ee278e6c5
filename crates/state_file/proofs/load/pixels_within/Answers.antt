use Rattle.std.proofs.Common.{arith}
use Rattle.state_file.proofs.Shapes.{laid_out, all_small}
use Rattle.state_file.proofs.load.pixels_within.Goals as goal

pub returns-clause-within : goal.returns-clause-within
returns-clause-within c = omega (arith, (laid_out c.args.frame.now).inside c.args.index c.requires, c.pixels_at-at.ensures, c.size_of.ensures)

pub overflow_add-result : goal.overflow_add-result
overflow_add-result c = omega (
  arith,
  (laid_out c.args.frame.now).inside c.args.index c.requires,
  all_small c.args.frame.now,
  c.pixels_at-at.ensures,
  c.size_of.ensures,
)
