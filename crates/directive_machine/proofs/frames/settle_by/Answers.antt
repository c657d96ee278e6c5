use Rattle.std.proofs.Common.{sym, ◌∙◌}
use Rattle.directive_machine.specs.Carried.{state_of}
use Rattle.directive_machine.specs.Read.{course_of}
use Rattle.directive_machine.proofs.Including.{settled_ok_by, settled_err_by}
use Rattle.directive_machine.proofs.frames.settle_by.Goals as goal

pub returns-in-None-clause-ok : goal.returns-in-None-clause-ok
returns-in-None-clause-ok g c = settled_ok_by c.args.part.now (course_of c.args.machine.now c.args.readings.now) c.args.set.now c.args.libraries.now (state_of c.tell_in.new.machine) (g.T.Texts.held c.args.texts.now) _ _ (sym c.read_at.ensures ∙ c.in-None.is) c.tell_in.ensures.ok

pub returns-in-None-clause-fault : goal.returns-in-None-clause-fault
returns-in-None-clause-fault g c = settled_err_by c.args.part.now (course_of c.args.machine.now c.args.readings.now) c.args.set.now c.args.libraries.now (state_of c.tell_in.new.machine) (g.T.Texts.held c.args.texts.now) _ (sym c.read_at.ensures ∙ c.in-None.is) c.tell_in.ensures.fault
