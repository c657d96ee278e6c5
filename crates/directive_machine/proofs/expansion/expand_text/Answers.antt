use Rattle.std.proofs.Common.{refl, subst, [], IfSome}
use Rattle.directive_machine.specs.Course.{Given, given}
use Rattle.directive_machine.specs.Expansions.{IsExpandedFrom, Reaches}
use Rattle.directive_machine.specs.Read.{sources_of, course_of}
use Rattle.directive_machine.proofs.Exit.{exit}
use Rattle.directive_machine.proofs.Beginning.{from_fault, from_rest, opens_flat}
use Rattle.directive_machine.specs.Carried.{state_of}
use Rattle.directive_machine.specs.Fronts.{said_in}
use Rattle.directive_machine.proofs.Starts.{none_yet, from_front}
use Rattle.directive_machine.proofs.expansion.expand_text.Goals as goal

pub returns-in_err-found-clause-fault : goal.returns-in_err-found-clause-fault
returns-in_err-found-clause-fault g c = exit _ _ _ c.from_residual.ensures.1 (λ some text h held. from_fault (given c.args.set.now c.args.libraries.now h) c.args.file _ _ (sources_of c.args.readings.now) (sources_of c.open_first.new.self) c.requires.state c.requires.sources (c.in_err-found.ensures.fault some))

pub returns-in_err-expand_whole-in-None-clause-fault : goal.returns-in_err-expand_whole-in-None-clause-fault
returns-in_err-expand_whole-in-None-clause-fault g c = exit _ _ _ c.from_residual-in_err-expand_whole-in-None.ensures.1 (λ some text h held. from_rest (given c.args.set.now c.args.libraries.now h) c.args.file 0 (sources_of c.args.readings.now) (sources_of c.open_first.new.self) _ c.requires.sources (c.in_ok-found.ensures.kept c.in-None.is) (c.in_err-expand_whole-in-None.ensures.fault some text h held))

pub returns-in_ok-expand_whole-in-None-clause-ok : goal.returns-in_ok-expand_whole-in-None-clause-ok
returns-in_ok-expand_whole-in-None-clause-ok g c = λ h held. Reaches.reaches (course_of c.expand_whole.new.machine c.expand_whole.new.readings) refl (from_rest (given c.args.set.now c.args.libraries.now h) c.args.file 0 (sources_of c.args.readings.now) (sources_of c.open_first.new.self) _ c.requires.sources (c.in_ok-found.ensures.kept c.in-None.is) (c.in_ok-expand_whole-in-None.ensures.ok h held))

-- nothing was said before, and the tokens are all that is handed out
pub returns-in-Some-clause-ok : goal.returns-in-Some-clause-ok
returns-in-Some-clause-ok g c = λ h held. opens_flat (given c.args.set.now c.args.libraries.now h) c.args.file (state_of c.args.machine.now) c.in-Some.tokens.items c.open_first.new.self.files.items c.open_first.new.self.names.items c.requires.state
    (subst (λ o. IfSome o (λ tokens. (given' : Given) → Reaches (IsExpandedFrom given' c.args.file) (record { tokens = tokens.items; files = c.open_first.new.self.files.items; messages = []; names = c.open_first.new.self.names.items }))) c.in-Some.is c.in_ok-found.ensures.flat)

-- ---- what was said up to a stop

pub returns-in_err-found-clause-said : goal.returns-in_err-found-clause-said
returns-in_err-found-clause-said g c = exit _ _ _ c.from_residual.ensures.1 (λ h held r run. none_yet (state_of c.args.machine.now) (said_in r) c.requires.state)

pub returns-in_err-expand_whole-in-None-clause-said : goal.returns-in_err-expand_whole-in-None-clause-said
returns-in_err-expand_whole-in-None-clause-said g c = exit _ _ _ c.from_residual-in_err-expand_whole-in-None.ensures.1 (λ h held r run. from_front (given c.args.set.now c.args.libraries.now h) c.one_end.ensures c.args.file 0 (sources_of c.args.readings.now) (sources_of c.open_first.new.self) _ r c.requires.sources (c.in_ok-found.ensures.kept c.in-None.is) (c.in_err-expand_whole-in-None.ensures.said h held) run)
