use Rattle.directive_machine.specs.Course.{given}
use Rattle.directive_machine.specs.Fronts.{said_in}
use Rattle.directive_machine.proofs.Beginning.{comes_to}
use Rattle.directive_machine.proofs.Exit.{exit}
use Rattle.directive_machine.proofs.Starts.{none_said}
use Rattle.directive_machine.proofs.expansion.expand.Goals as goal

pub returns-in-Ok-clause-found : goal.returns-in-Ok-clause-found
returns-in-Ok-clause-found g c = λ h held. comes_to (given c.args.set.now c.args.libraries.now h) _ _ _ (c.in-Ok.ensures.ok h held)

pub returns-in_err-machine-clause-said : goal.returns-in_err-machine-clause-said
returns-in_err-machine-clause-said g c = exit _ _ _ c.from_residual.ensures.1 (λ h held r run. none_said _ (said_in r) c.requires.messages)
