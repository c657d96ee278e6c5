use Rattle.std.proofs.Common.{sym, ◌∙◌, arith}
use Rattle.std.proofs.lemmas.Result.{err_from_is_err_and}
use Rattle.xform.proofs.ComposeLemmas.{composed-ok, composed-err, composed-end}
use Rattle.xform.proofs.steps.compose.Goals as goal

pub returns-in_err-x-clause-value : goal.returns-in_err-x-clause-value
returns-in_err-x-clause-value c =
    let left = err_from_is_err_and c.from_residual.result c.from_residual.ensures.1 in
    rw (left.1, left.2) (sym (c.loop-step.invariant.0 ∙ composed-err c.loop-step.x c.in_err-x.field-0.0 c.args.steps.now c.loop-step.step-index c.step-item.result c.step-item.is c.loop-step-test.true c.in_err-x.ensures.value))

pub loop-step-preserved : goal.loop-step-preserved
loop-step-preserved c =
    (c.loop-step.invariant.0 ∙ composed-ok c.loop-step.x c.in_ok-x.x c.args.steps.now c.loop-step.step-index c.step-item.result c.step-item.is c.loop-step-test.true c.in_ok-x.ensures.value, c.in_ok-x.ensures.placed)

pub returns-clause-value : goal.returns-clause-value
returns-clause-value c = sym (c.loop-step.invariant.0 ∙ composed-end c.loop-step.x c.args.steps.now c.loop-step.step-index (omega arith))
