use Rattle.directive_machine.specs.Carried.{state_of}
use Rattle.directive_machine.proofs.Exit.{exit}
use Rattle.directive_machine.proofs.SaidFirst.{asked_outside, outside}
use Rattle.directive_machine.proofs.include.ask_in.Goals as goal

pub returns-in_err-name-in-Some-clause-outside : goal.returns-in_err-name-in-Some-clause-outside
returns-in_err-name-in-Some-clause-outside c = exit _ _ _ c.from_residual.ensures.1 (outside _ (λ some. asked_outside c.args.set.now c.in-Some.source.now c.args.part.now (state_of c.args.machine.now) _ (c.in_err-name-in-Some.ensures.fault some)))
