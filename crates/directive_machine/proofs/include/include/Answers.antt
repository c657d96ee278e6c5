use Rattle.std.proofs.Common.{Some, None, ap, sym, ◌∙◌, refl}
use Rattle.directive_machine.specs.Carried.{state_of}
use Rattle.directive_machine.specs.Sources.{found_text}
use Rattle.directive_machine.specs.Course.{given}
use Rattle.directive_machine.specs.Read.{course_of}
use Rattle.directive_machine.proofs.Exit.{exit}
use Rattle.directive_machine.proofs.Including.{inc_fault, inc_by}
use Rattle.directive_machine.proofs.include.include.Goals as goal

pub returns-in_err-name-clause-fault : goal.returns-in_err-name-clause-fault
returns-in_err-name-clause-fault g c = exit _ _ _ c.from_residual.ensures.1 (λ some text h held.
    inc_fault (given c.args.set.now c.args.libraries.now h) c.args.at c.args.part.now (course_of c.args.machine.now c.args.readings.now) _ (state_of c.ask_in.new.machine) (c.in_err-name.ensures.fault some text))

pub returns-in_err-next-in-Some-clause-fault : goal.returns-in_err-next-in-Some-clause-fault
returns-in_err-next-in-Some-clause-fault g c = exit _ _ _ c.from_residual-in_err-next-in-Some.ensures.1 (λ some text h held.
    inc_by (given c.args.set.now c.args.libraries.now h) c.args.at c.args.part.now (course_of c.args.machine.now c.args.readings.now) c.in_ok-name.name c.in_ok-name.place (state_of c.ask_in.new.machine) (Some c.in-Some.file) _ c.in_ok-name.ensures.name c.in_ok-name.ensures.place
    (ap (found_text h c.args.libraries.now) (sym c.bytes.ensures) ∙ c.in_ok-file.ensures.found h held ∙ c.in-Some.is) (c.in_err-next-in-Some.ensures.fault some))

pub returns-in_ok-next-in-Some-clause-ok : goal.returns-in_ok-next-in-Some-clause-ok
returns-in_ok-next-in-Some-clause-ok g c = λ h held.
    inc_by (given c.args.set.now c.args.libraries.now h) c.args.at c.args.part.now (course_of c.args.machine.now c.args.readings.now) c.in_ok-name.name c.in_ok-name.place (state_of c.ask_in.new.machine) (Some c.in-Some.file) _ c.in_ok-name.ensures.name c.in_ok-name.ensures.place
    (ap (found_text h c.args.libraries.now) (sym c.bytes.ensures) ∙ c.in_ok-file.ensures.found h held ∙ c.in-Some.is) c.in_ok-next-in-Some.ensures.ok

pub returns-in-None-clause-fault : goal.returns-in-None-clause-fault
returns-in-None-clause-fault g c = λ some text h held.
    inc_by (given c.args.set.now c.args.libraries.now h) c.args.at c.args.part.now (course_of c.args.machine.now c.args.readings.now) c.in_ok-name.name c.in_ok-name.place (state_of c.ask_in.new.machine) None _ c.in_ok-name.ensures.name c.in_ok-name.ensures.place
    (ap (found_text h c.args.libraries.now) (sym c.bytes.ensures) ∙ c.in_ok-file.ensures.found h held ∙ c.in-None.is) refl
