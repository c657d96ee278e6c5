use Rattle.directive_machine.proofs.Exit.{exit}
use Rattle.directive_machine.proofs.TakenIn.{misspelt_in}
use Rattle.directive_machine.proofs.readings.Readings.write.Goals as goal

pub returns-in_err-tokens-clause-fault : goal.returns-in_err-tokens-clause-fault
returns-in_err-tokens-clause-fault c = exit _ _ _ c.from_residual.ensures.1 (λ some. misspelt_in _ _ c.args.file _ _ c.bytes.ensures (c.in_err-tokens.ensures.fault some))
