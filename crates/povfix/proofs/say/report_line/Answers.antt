use Rattle.std.proofs.Common.{◌≡◌, subst, IfOk}
use Rattle.povfix.specs.declared.outcome.Fault.TheVariants.{OptionFault, SceneFault, Limit, Absent}
use Rattle.povfix.specs.Lines.{option_line, scene_line, limit_line, absent_line}
use Rattle.povfix.proofs.Reports.{report_says, reported_fault}
use Rattle.povfix.proofs.say.report_line.Goals as goal

pub returns-in-OptionFault-clause-said : goal.returns-in-OptionFault-clause-said
returns-in-OptionFault-clause-said g c = report_says c.args.name.now c.args.text.now (g.K.Sink.written c.args.messages.now) (g.K.Sink.written c.say_placed.new.messages) (g.K.Sink.faults c.args.messages.now) (g.K.Sink.faults c.say_placed.new.messages) (OptionFault c.in-OptionFault.kind c.in-OptionFault.place) c.say_placed.result (c.say_placed.ensures.reported (option_line c.in-OptionFault.kind c.in-OptionFault.place) c.option_line-line.ensures)

pub returns-in-OptionFault-clause-fault : goal.returns-in-OptionFault-clause-fault
returns-in-OptionFault-clause-fault g c = rw c.in-OptionFault.is (reported_fault c.args.name.now c.args.text.now (g.K.Sink.written c.args.messages.now) (g.K.Sink.written c.say_placed.new.messages) (g.K.Sink.faults c.args.messages.now) (g.K.Sink.faults c.say_placed.new.messages) (OptionFault c.in-OptionFault.kind c.in-OptionFault.place) c.say_placed.result tt (c.say_placed.ensures.reported (option_line c.in-OptionFault.kind c.in-OptionFault.place) c.option_line-line.ensures))

pub returns-in-SceneFault-clause-said : goal.returns-in-SceneFault-clause-said
returns-in-SceneFault-clause-said g c = report_says c.args.name.now c.args.text.now (g.K.Sink.written c.args.messages.now) (g.K.Sink.written c.say_placed-in-SceneFault.new.messages) (g.K.Sink.faults c.args.messages.now) (g.K.Sink.faults c.say_placed-in-SceneFault.new.messages) (SceneFault c.in-SceneFault.letter c.in-SceneFault.kind c.in-SceneFault.place) c.say_placed-in-SceneFault.result (c.say_placed-in-SceneFault.ensures.reported (scene_line c.args.name.now c.args.text.now c.in-SceneFault.letter c.in-SceneFault.kind c.in-SceneFault.place.line) c.scene_line-line.ensures)

pub returns-in-SceneFault-clause-fault : goal.returns-in-SceneFault-clause-fault
returns-in-SceneFault-clause-fault g c = rw c.in-SceneFault.is (reported_fault c.args.name.now c.args.text.now (g.K.Sink.written c.args.messages.now) (g.K.Sink.written c.say_placed-in-SceneFault.new.messages) (g.K.Sink.faults c.args.messages.now) (g.K.Sink.faults c.say_placed-in-SceneFault.new.messages) (SceneFault c.in-SceneFault.letter c.in-SceneFault.kind c.in-SceneFault.place) c.say_placed-in-SceneFault.result tt (c.say_placed-in-SceneFault.ensures.reported (scene_line c.args.name.now c.args.text.now c.in-SceneFault.letter c.in-SceneFault.kind c.in-SceneFault.place.line) c.scene_line-line.ensures))

pub returns-in-Limit-clause-said : goal.returns-in-Limit-clause-said
returns-in-Limit-clause-said g c = report_says c.args.name.now c.args.text.now (g.K.Sink.written c.args.messages.now) (g.K.Sink.written c.say_placed-in-Limit.new.messages) (g.K.Sink.faults c.args.messages.now) (g.K.Sink.faults c.say_placed-in-Limit.new.messages) (Limit c.in-Limit.which c.in-Limit.place) c.say_placed-in-Limit.result (c.say_placed-in-Limit.ensures.reported (limit_line c.args.name.now c.in-Limit.which c.in-Limit.place.line) c.limit_line-line.ensures)

pub returns-in-Limit-clause-fault : goal.returns-in-Limit-clause-fault
returns-in-Limit-clause-fault g c = rw c.in-Limit.is (reported_fault c.args.name.now c.args.text.now (g.K.Sink.written c.args.messages.now) (g.K.Sink.written c.say_placed-in-Limit.new.messages) (g.K.Sink.faults c.args.messages.now) (g.K.Sink.faults c.say_placed-in-Limit.new.messages) (Limit c.in-Limit.which c.in-Limit.place) c.say_placed-in-Limit.result tt (c.say_placed-in-Limit.ensures.reported (limit_line c.args.name.now c.in-Limit.which c.in-Limit.place.line) c.limit_line-line.ensures))

pub returns-in-Absent-clause-said : goal.returns-in-Absent-clause-said
returns-in-Absent-clause-said g c =
    let written : IfOk c.absent_line-line.result (λ line. line.items ≡ absent_line c.in-Absent.absent) = subst (λ name. IfOk c.absent_line-line.result (λ line. line.items ≡ absent_line name)) c.bytes.ensures c.absent_line-line.ensures in
    report_says c.args.name.now c.args.text.now (g.K.Sink.written c.args.messages.now) (g.K.Sink.written c.say_placed-in-Absent.new.messages) (g.K.Sink.faults c.args.messages.now) (g.K.Sink.faults c.say_placed-in-Absent.new.messages) (Absent c.in-Absent.absent) c.say_placed-in-Absent.result (c.say_placed-in-Absent.ensures.reported (absent_line c.in-Absent.absent) written)

pub returns-in-Absent-clause-fault : goal.returns-in-Absent-clause-fault
returns-in-Absent-clause-fault g c =
    let written : IfOk c.absent_line-line.result (λ line. line.items ≡ absent_line c.in-Absent.absent) = subst (λ name. IfOk c.absent_line-line.result (λ line. line.items ≡ absent_line name)) c.bytes.ensures c.absent_line-line.ensures in
    rw c.in-Absent.is (reported_fault c.args.name.now c.args.text.now (g.K.Sink.written c.args.messages.now) (g.K.Sink.written c.say_placed-in-Absent.new.messages) (g.K.Sink.faults c.args.messages.now) (g.K.Sink.faults c.say_placed-in-Absent.new.messages) (Absent c.in-Absent.absent) c.say_placed-in-Absent.result tt (c.say_placed-in-Absent.ensures.reported (absent_line c.in-Absent.absent) written))
