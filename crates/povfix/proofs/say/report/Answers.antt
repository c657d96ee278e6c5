use Rattle.std.proofs.Common.{[], ap, refl}
use Rattle.std.specs.Prelude.{is_err}
use Rattle.povfix.proofs.Reports.{report_left, report_none, report_part}
use Rattle.povfix.proofs.say.report.Goals as goal

pub returns-in-Ok-clause-said : goal.returns-in-Ok-clause-said
returns-in-Ok-clause-said g c = report_left c.args.ending.report c.in-Some.report _ _ _ _ _ _ _ _ _ _ c.in-Some.is c.in-Ok.ensures.all c.deref.ensures.value c.write_if_any.ensures.cause.later c.bytes.ensures c.bytes-in-Ok.ensures c.report_line.ensures.said

pub returns-in-Some-clause-said : goal.returns-in-Some-clause-said
returns-in-Some-clause-said g c = report_part c.args.ending.report c.in-Some.report _ _ _ _ _ _ c.in-Some.is (c.write_if_any.ensures.cause.rose (ap is_err c.in-Err.is)) c.deref.ensures.value c.in-Err.ensures.part

pub returns-clause-said : goal.returns-clause-said
returns-clause-said g c = report_none c.args.ending.report _ _ _ _ _ [] [] c.in-None.is refl refl c.report_line-in-None.ensures.said
