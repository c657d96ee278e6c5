use Rattle.directive_machine.specs.Carried.{state_of}
use Rattle.directive_machine.specs.Read.{course_of}
use Rattle.directive_machine.proofs.SaidFirst.{told_out}
use Rattle.directive_machine.proofs.frames.tell_in.Goals as goal

pub returns-in-Some-clause-outside : goal.returns-in-Some-clause-outside
returns-in-Some-clause-outside c = told_out c.args.set.now c.args.part.now (course_of c.args.machine.now c.args.readings.now) (state_of c.tell_source.new.machine) _ c.tell_source.ensures.fault
