use Rattle.directive_machine.specs.Course.{given}
use Rattle.directive_machine.specs.Read.{sources_of}
use Rattle.directive_machine.proofs.Exit.{exit}
use Rattle.directive_machine.proofs.Beginning.{expanded_ok, expanded_fault}
use Rattle.directive_machine.specs.Carried.{state_of}
use Rattle.directive_machine.specs.Fronts.{said_in}
use Rattle.directive_machine.proofs.Starts.{none_yet, expanded_front}
use Rattle.directive_machine.proofs.expansion.expand_whole.Goals as goal

pub returns-in_err-expand_part-clause-fault : goal.returns-in_err-expand_part-clause-fault
returns-in_err-expand_part-clause-fault g c = exit _ _ _ c.from_residual.ensures.1 (λ some text h held. expanded_fault (given c.args.set.now c.args.libraries.now h) c.args.number _ _ _ (sources_of c.args.readings.now) _ c.whole-part.ensures c.in-Some.ensures c.requires.state (c.in_err-expand_part.ensures.fault some text h held))

pub returns-clause-ok : goal.returns-clause-ok
returns-clause-ok g c = λ h held. expanded_ok (given c.args.set.now c.args.libraries.now h) c.args.number _ _ _ (sources_of c.args.readings.now) _ _ c.whole-part.ensures c.in-Some.ensures c.requires.state (c.in_ok-expand_part.ensures.ok h held)

-- ---- what was said up to a stop

pub returns-in_default-clause-said : goal.returns-in_default-clause-said
returns-in_default-clause-said g c = λ h held r run. none_yet (state_of c.args.machine.now) (said_in r) c.requires.state

pub returns-in_err-expand_part-clause-said : goal.returns-in_err-expand_part-clause-said
returns-in_err-expand_part-clause-said g c = exit _ _ _ c.from_residual.ensures.1 (λ h held r run. expanded_front (given c.args.set.now c.args.libraries.now h) c.args.number _ _ _ (sources_of c.args.readings.now) _ r c.whole-part.ensures c.in-Some.ensures c.requires.state (c.in_err-expand_part.ensures.said h held) run)
