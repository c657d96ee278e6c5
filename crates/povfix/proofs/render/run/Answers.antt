use Rattle.std.proofs.Common.{map, string_bytes, ap, sym, subst, ◌∙◌}
use Rattle.shelf.specs.Causes.{Rose}
use Rattle.options.specs.Plans.{plan_of}
use Rattle.povfix.specs.Steps.{fault_of}
use Rattle.povfix.proofs.Saying.{rose_from}
use Rattle.povfix.proofs.Planned.{answered, cut_planned, refusal_planned, summed_planned}
use Rattle.povfix.proofs.Summaries.{cut_end, summed_end, summed_no_shelf, summed_no_text}
use Rattle.povfix.proofs.Verdicts.{answer_is_verdict, refusal_said, said_caused}
use Rattle.povfix.proofs.render.run.Goals as goal

-- ---- the options are refused

pub returns-in-Err-clause-said : goal.returns-in-Err-clause-said
returns-in-Err-clause-said g c = λ h held.
    refusal_said _ h c.in-Err.refusal c.from-in-Err.result c.from.result c.report-fault.result c.ended.result.fault c.ended.result.finished _ _ _ _
    (c.in-Err.ensures.read h held) c.from.ensures c.from-in-Err.ensures c.report-fault.ensures.fault c.report-fault.ensures.said c.ended.ensures.finished c.ended.ensures.fault

pub returns-in-Err-clause-caused : goal.returns-in-Err-clause-caused
returns-in-Err-clause-caused g c = λ h held. said_caused _ h _ _ _ _ _ _ (returns-in-Err-clause-said g c h held)

pub returns-in-Err-clause-planned : goal.returns-in-Err-clause-planned
returns-in-Err-clause-planned g c =
    answered _ _ _ _ _ g.S.Shelf.holds g.S.Shelf.moment g.S.Shelf.images c.args.shelf c.ended.result.shelf 0 _ _ _ c.ended.ensures.shelf c.ended.ensures.finished c.ended.ensures.fault
    (refusal_planned _ _ _ _ _ c.in-Err.refusal c.from-in-Err.result c.from.result c.report-fault.result c.in-Err.ensures.read c.from.ensures c.from-in-Err.ensures c.report-fault.ensures.fault)

-- ---- all frames are drawn

pub returns-in-Ok-end-clause-said : goal.returns-in-Ok-end-clause-said
returns-in-Ok-end-clause-said g c = λ h held.
    summed_end (plan_of h (map string_bytes c.args.words.now)) c.in-Ok.plan (c.in-Ok.ensures.read h held) c.frames-finished.result.end c.frames-finished.result.finished c.ended-in-Ok-end.result.finished c.summed-fault.result c.ended-in-Ok-end.result.fault
    c.ended-in-Ok-end.ensures.finished c.ended-in-Ok-end.ensures.fault h c.in-Ok-end.total _ _ _ _ _ _ c.in-Ok-end.is
    c.frames-finished.ensures.course.sink_later c.frames-finished.ensures.course.count (c.frames-finished.ensures.course.said h (c.read.ensures.held ∙ held)) c.summed-fault.ensures.said

pub returns-in-Ok-end-clause-caused : goal.returns-in-Ok-end-clause-caused
returns-in-Ok-end-clause-caused g c = λ h held. said_caused _ h _ _ _ _ _ _ (returns-in-Ok-end-clause-said g c h held)

pub returns-in-Ok-end-clause-complete : goal.returns-in-Ok-end-clause-complete
returns-in-Ok-end-clause-complete g c = λ h held count verdict is no_text no_shelf.
    answer_is_verdict c.one_verdict.ensures (plan_of h (map string_bytes c.args.words.now)) h c.ended-in-Ok-end.result.fault verdict c.ended-in-Ok-end.result.finished count
    (returns-in-Ok-end-clause-caused g c h held) is
    (λ e. summed_no_text _ _ _ _ _ _ c.summed-fault.ensures.said (sym c.ended-in-Ok-end.ensures.fault ∙ e))
    (λ e. summed_no_shelf _ _ _ _ _ _ c.summed-fault.ensures.said (sym c.ended-in-Ok-end.ensures.fault ∙ e))

pub returns-in-Ok-end-clause-planned : goal.returns-in-Ok-end-clause-planned
returns-in-Ok-end-clause-planned g c =
    answered _ _ _ _ _ g.S.Shelf.holds g.S.Shelf.moment g.S.Shelf.images c.frames-finished.new.shelf c.ended-in-Ok-end.result.shelf _ _ _ _ c.ended-in-Ok-end.ensures.shelf c.ended-in-Ok-end.ensures.finished c.ended-in-Ok-end.ensures.fault
    (summed_planned (g.T.Texts.held c.args.texts.now) (map string_bytes c.args.words.now) c.in-Ok.plan c.in-Ok.ensures.read c.in-Ok.ensures.range _ _ _ _ _ _ _ _ _ _ _ _ _ _ _ c.frames-finished.result.end
    _ c.read.ensures.held c.frames-finished.ensures.course c.in-Ok-end.total _ _ _ c.summed-fault.result c.in-Ok-end.is c.summed-fault.ensures.said)

-- ---- a fault ends the frames

pub returns-clause-said : goal.returns-clause-said
returns-clause-said g c = λ h held.
    cut_end (plan_of h (map string_bytes c.args.words.now)) c.in-Ok.plan (c.in-Ok.ensures.read h held) c.frames-finished.result.end c.frames-finished.result.finished c.ended-in-Err-end.result.finished c.in-Err-end.fault c.ended-in-Err-end.result.fault
    c.ended-in-Err-end.ensures.finished c.ended-in-Err-end.ensures.fault h _ _ _ _ c.in-Err-end.is (c.frames-finished.ensures.course.said h (c.read.ensures.held ∙ held))

pub returns-clause-caused : goal.returns-clause-caused
returns-clause-caused g c = λ h held. said_caused _ h _ _ _ _ _ _ (returns-clause-said g c h held)

pub returns-clause-complete : goal.returns-clause-complete
returns-clause-complete g c = λ h held count verdict is no_text no_shelf.
    answer_is_verdict c.one_verdict.ensures (plan_of h (map string_bytes c.args.words.now)) h c.ended-in-Err-end.result.fault verdict c.ended-in-Err-end.result.finished count
    (returns-clause-caused g c h held) is
    (λ e. no_text (rose_from _ _ _ c.read.ensures.cause.later (c.frames-finished.ensures.course.text_fault (ap fault_of c.in-Err-end.is ∙ (sym c.ended-in-Err-end.ensures.fault ∙ e)))))
    (λ e. no_shelf (subst (λ shelf. Rose (g.S.Shelf.faults c.args.shelf) (g.S.Shelf.faults shelf)) (sym c.ended-in-Err-end.ensures.shelf) (c.frames-finished.ensures.course.shelf_fault (ap fault_of c.in-Err-end.is ∙ (sym c.ended-in-Err-end.ensures.fault ∙ e)))))

pub returns-clause-planned : goal.returns-clause-planned
returns-clause-planned g c =
    answered _ _ _ _ _ g.S.Shelf.holds g.S.Shelf.moment g.S.Shelf.images c.frames-finished.new.shelf c.ended-in-Err-end.result.shelf _ _ _ _ c.ended-in-Err-end.ensures.shelf c.ended-in-Err-end.ensures.finished c.ended-in-Err-end.ensures.fault
    (cut_planned (g.T.Texts.held c.args.texts.now) (map string_bytes c.args.words.now) c.in-Ok.plan c.in-Ok.ensures.read c.in-Ok.ensures.range _ _ _ _ _ _ _ _ _ _ _ _ _ _ _ c.frames-finished.result.end
    _ c.read.ensures.held c.frames-finished.ensures.course c.in-Err-end.fault c.in-Err-end.is)
