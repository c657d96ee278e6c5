use Rattle.std.proofs.Common.{◌∙◌}
use Rattle.directive_machine.specs.Course.{given}
use Rattle.directive_machine.proofs.Exit.{exit}
use Rattle.directive_machine.proofs.Beginning.{first_some, first_none, first_reached}
use Rattle.directive_machine.specs.Carried.{state_of}
use Rattle.directive_machine.specs.Fronts.{said_in}
use Rattle.directive_machine.proofs.Starts.{none_yet}
use Rattle.directive_machine.proofs.expansion.expand_first.Goals as goal

pub returns-in_err-expand_text-in-Some-clause-fault : goal.returns-in_err-expand_text-in-Some-clause-fault
returns-in_err-expand_text-in-Some-clause-fault g c = exit _ _ _ c.from_residual-in_err-expand_text-in-Some.ensures.1 (λ some text h held. first_some (given c.args.set.now c.args.libraries.now h) _ _ c.in-Some.file _ (c.in_ok-file.ensures.found h held ∙ c.in-Some.is) (c.in_err-expand_text-in-Some.ensures.fault some text h (c.in_ok-file.ensures.held ∙ held)))

pub returns-in_ok-expand_text-in-Some-clause-ok : goal.returns-in_ok-expand_text-in-Some-clause-ok
returns-in_ok-expand_text-in-Some-clause-ok g c = λ h held. first_reached (given c.args.set.now c.args.libraries.now h) _ _ c.in-Some.file _ (c.in_ok-file.ensures.found h held ∙ c.in-Some.is) (c.in_ok-expand_text-in-Some.ensures.ok h (c.in_ok-file.ensures.held ∙ held))

pub returns-in-None-clause-fault : goal.returns-in-None-clause-fault
returns-in-None-clause-fault g c = λ some text h held. first_none (given c.args.set.now c.args.libraries.now h) _ _ _ _ _ (c.in_ok-file.ensures.found h held ∙ c.in-None.is) c.requires.state c.requires.sources (c.absent.ensures.absent some)

-- ---- what was said up to a stop

pub returns-in_err-file-clause-said : goal.returns-in_err-file-clause-said
returns-in_err-file-clause-said g c = exit _ _ _ c.from_residual.ensures.1 (λ h held r run. none_yet (state_of c.args.machine.now) (said_in r) c.requires.state)
