use Rattle.povfix.proofs.Endings.{reported_end}
use Rattle.povfix.proofs.render.frame.Goals as goal

pub returns-in-Err-clause-end : goal.returns-in-Err-clause-end
returns-in-Err-clause-end g c =
    reported_end c.one_expansion.ensures _ _ _ _ _ _ _ _ _ _ _ _ _ _ _ _ _ _ c.rendered.ensures.sink_later c.report.ensures.later c.in-Err.ending.fault c.in-Err.ending.report
    c.in-Err.ensures.cut c.in-Err.ensures.kept c.in-Err.ensures.crash_kept _ c.report.ensures.fault c.report.ensures.said
