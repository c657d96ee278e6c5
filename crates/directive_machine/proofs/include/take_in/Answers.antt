use Rattle.directive_machine.specs.Read.{sources_of, course_of}
use Rattle.directive_machine.proofs.Exit.{exit}
use Rattle.directive_machine.proofs.Including.{in_fault, in_ok}
use Rattle.directive_machine.proofs.include.take_in.Goals as goal

pub returns-in_err-number-clause-fault : goal.returns-in_err-number-clause-fault
returns-in_err-number-clause-fault c = exit _ _ _ c.from_residual.ensures.1 (λ some. in_fault c.args.file c.args.name c.args.part.now c.args.place (course_of c.args.machine.now c.args.readings.now) _ (sources_of c.open.new.self) (c.in_err-number.ensures.fault some))

pub returns-clause-ok : goal.returns-clause-ok
returns-clause-ok c = in_ok c.args.file c.args.name c.args.part.now c.args.place (course_of c.args.machine.now c.args.readings.now) c.in_ok-number.number (sources_of c.open.new.self) _ c.in_ok-number.ensures.ok c.in_ok-next.ensures.ok
