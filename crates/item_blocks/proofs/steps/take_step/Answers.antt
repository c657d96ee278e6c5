use Rattle.std.proofs.Common.{ap, ◌∙◌, sym}
use Rattle.scene_expr.specs.Then.{IsThen}
use Rattle.item_blocks.specs.Steps.{moved_by}
use Rattle.item_blocks.specs.ReadingLaws.{exit, behind_value, behind_fault}
use Rattle.item_blocks.proofs.steps.take_step.Goals as goal

pub returns-in_err-step-clause-fault : goal.returns-in_err-step-clause-fault
returns-in_err-step-clause-fault c = exit _ _ _ c.from_residual.ensures.1 (λ some. IsThen.fault _ (c.in_err-step.ensures.fault some))

pub returns-in_err-move_by-clause-fault : goal.returns-in_err-move_by-clause-fault
returns-in_err-move_by-clause-fault c =
    exit _ _ _ c.from_residual-in_err-move_by.ensures.1 (λ some. IsThen.found _ _ c.in_ok-step.ensures.found
    (behind_fault _ _ _ (ap (λ place. moved_by c.in_ok-step.step place c.args.xforms.now) (sym c.place_at.ensures) ∙ c.in_err-move_by.ensures.fault)))

pub returns-clause-found : goal.returns-clause-found
returns-clause-found c =
    IsThen.found _ _ c.in_ok-step.ensures.found
    (behind_value _ _ _ (ap (λ place. moved_by c.in_ok-step.step place c.args.xforms.now) (sym c.place_at.ensures) ∙ c.in_ok-move_by.ensures.found))
