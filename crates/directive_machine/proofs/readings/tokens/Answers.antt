use Rattle.directive_machine.proofs.TakenIn.{misspelt}
use Rattle.directive_machine.proofs.readings.tokens.Goals as goal

pub returns-in-Err-clause-fault : goal.returns-in-Err-clause-fault
returns-in-Err-clause-fault c = λ some. misspelt _ _ _ _ _ c.in_ok-file.ensures.same (c.stop_of.ensures some) c.in-Err.ensures.fault
