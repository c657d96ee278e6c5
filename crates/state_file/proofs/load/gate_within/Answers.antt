use Rattle.std.proofs.Common.{arith}
use Rattle.state_file.proofs.Shapes.{laid_out}
use Rattle.state_file.proofs.load.gate_within.Goals as goal

pub returns-clause-within : goal.returns-clause-within
returns-clause-within c = omega (arith, (laid_out c.args.frame.now).gates, c.requires, c.gate_at.ensures)
