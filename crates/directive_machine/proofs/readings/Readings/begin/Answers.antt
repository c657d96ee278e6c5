use Rattle.directive_machine.proofs.Exit.{exit}
use Rattle.directive_machine.proofs.TakenIn.{new_fault, new_stops, new_ok}
use Rattle.directive_machine.proofs.readings.Readings.begin.Goals as goal

pub returns-in_err-enter-clause-fault : goal.returns-in_err-enter-clause-fault
returns-in_err-enter-clause-fault c = exit _ _ _ c.from_residual.ensures.1 (λ some. new_fault c.args.file _ _ _ _ (c.in_err-enter.ensures.fault some))

pub returns-in_err-write-clause-fault : goal.returns-in_err-write-clause-fault
returns-in_err-write-clause-fault c = exit _ _ _ c.from_residual-in_err-write.ensures.1 (λ some. new_stops c.args.file _ _ _ _ _ c.in_ok-enter.ensures.ok (c.in_err-write.ensures.fault some))

pub returns-clause-ok : goal.returns-clause-ok
returns-clause-ok c = new_ok c.args.file _ _ _ _ _ c.in_ok-enter.ensures.ok c.in_ok-write.ensures.ok
