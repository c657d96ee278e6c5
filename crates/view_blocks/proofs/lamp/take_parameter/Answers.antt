use Rattle.std.proofs.Common.{sym}
use Rattle.view_blocks.specs.declared.lamp.LampDraft.{LampDraft}
use Rattle.view_blocks.specs.Lamps.{lamp_with}
use Rattle.item_blocks.specs.ReadingLaws.{exit, parameter_fault, parameter_refused, parameter_found}
use Rattle.view_blocks.proofs.lamp.take_parameter.Goals as goal

pub returns-in_err-value-clause-fault : goal.returns-in_err-value-clause-fault
returns-in_err-value-clause-fault c =
    exit _ _ _ c.from_residual.ensures.1 (λ some. parameter_fault LampDraft (lamp_with c.args.lamp.now c.args.word) _ _ _ _ (c.in_err-value.ensures.fault some))

pub returns-in_err-parameter-clause-fault : goal.returns-in_err-parameter-clause-fault
returns-in_err-parameter-clause-fault c =
    exit _ _ _ c.from_residual-in_err-parameter.ensures.1 (λ some. parameter_refused LampDraft (lamp_with c.args.lamp.now c.args.word) _ _ _ _ _ _ c.in_ok-value.ensures.found (rw (sym c.place_at.ensures) c.in_err-parameter.ensures.fault))

pub returns-clause-found : goal.returns-clause-found
returns-clause-found c =
    parameter_found LampDraft (lamp_with c.args.lamp.now c.args.word) _ _ _ _ _ _ c.in_ok-value.ensures.found (rw (sym c.place_at.ensures) c.in_ok-parameter.ensures.found)
