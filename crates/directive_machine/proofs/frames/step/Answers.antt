use Rattle.directive_machine.specs.Carried.{state_of}
use Rattle.directive_machine.proofs.SaidFirst.{begun_out}
use Rattle.directive_machine.proofs.frames.step.Goals as goal

pub returns-in-Some-clause-outside : goal.returns-in-Some-clause-outside
returns-in-Some-clause-outside c = begun_out _ c.args.part.now c.args.at (state_of c.args.machine.now) (state_of c.begin.new.machine) _ c.begin.ensures.fault
