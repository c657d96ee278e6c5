use Rattle.std.proofs.Common.{sym}
use Rattle.scene_model.specs.declared.texture.Finish.{Finish}
use Rattle.item_blocks.specs.Finishes.{finish_with}
use Rattle.item_blocks.specs.ReadingLaws.{exit, parameter_fault, parameter_refused, parameter_found}
use Rattle.item_blocks.proofs.finish.give.Goals as goal

pub returns-in_err-value-clause-fault : goal.returns-in_err-value-clause-fault
returns-in_err-value-clause-fault c =
    exit _ _ _ c.from_residual.ensures.1 (λ some. parameter_fault Finish (finish_with c.args.finish.now c.args.word) _ _ _ _ (c.in_err-value.ensures.fault some))

pub returns-in_err-finish-clause-fault : goal.returns-in_err-finish-clause-fault
returns-in_err-finish-clause-fault c =
    exit _ _ _ c.from_residual-in_err-finish.ensures.1 (λ some. parameter_refused Finish (finish_with c.args.finish.now c.args.word) _ _ _ _ _ _ c.in_ok-value.ensures.found (rw (sym c.place_at.ensures) (sym c.in_err-finish.ensures)))

pub returns-clause-found : goal.returns-clause-found
returns-clause-found c =
    parameter_found Finish (finish_with c.args.finish.now c.args.word) _ _ _ _ _ _ c.in_ok-value.ensures.found (rw (sym c.place_at.ensures) (sym c.in_ok-finish.ensures))
