use Rattle.std.proofs.Common.{arith}
use Rattle.xform.proofs.DigitLemmas.{digits}
use Rattle.xform.proofs.placing.exponent.Goals as goal

pub overflow_sub-digits-2 : goal.overflow_sub-digits-2
overflow_sub-digits-2 c = omega (arith, (digits c.args.extent c.requires).1)

pub returns-clause-value : goal.returns-clause-value
returns-clause-value c = omega (arith, c.min.ensures, (digits c.args.extent c.requires).0)

pub returns-clause-least : goal.returns-clause-least
returns-clause-least c = omega (arith, c.min.ensures, (digits c.args.extent c.requires).1)
