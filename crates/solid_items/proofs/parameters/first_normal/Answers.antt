use Rattle.std.proofs.Common.{sym}
use Rattle.fix_math.specs.declared.fix.V3.{V3}
use Rattle.item_blocks.specs.ReadingLaws.{exit, parameter_fault, parameter_refused, parameter_found}
use Rattle.solid_items.specs.Sheets.{normal_of}
use Rattle.solid_items.proofs.parameters.first_normal.Goals as goal

pub returns-in_err-value-clause-fault : goal.returns-in_err-value-clause-fault
returns-in_err-value-clause-fault c =
    exit _ _ _ c.from_residual.ensures.1 (λ some. parameter_fault V3 (normal_of) _ _ _ _ (c.in_err-value.ensures.fault some))

pub returns-in_err-normal_of-clause-fault : goal.returns-in_err-normal_of-clause-fault
returns-in_err-normal_of-clause-fault c =
    exit _ _ _ c.from_residual-in_err-normal_of.ensures.1 (λ some. parameter_refused V3 (normal_of) _ _ _ _ _ _ c.in_ok-value.ensures.found (rw (sym c.place_at.ensures) (sym c.in_err-normal_of.ensures.value)))

pub returns-clause-found : goal.returns-clause-found
returns-clause-found c =
    parameter_found V3 (normal_of) _ _ _ _ _ _ c.in_ok-value.ensures.found (rw (sym c.place_at.ensures) (sym c.in_ok-normal_of.ensures.value))
