use Rattle.std.proofs.Common.{sym}
use Rattle.item_blocks.specs.declared.texture.Interior.{Interior}
use Rattle.item_blocks.specs.Textures.{interior_with}
use Rattle.item_blocks.specs.ReadingLaws.{exit, parameter_fault, parameter_refused, parameter_found}
use Rattle.item_blocks.proofs.texture.take_ior.Goals as goal

pub returns-in_err-value-clause-fault : goal.returns-in_err-value-clause-fault
returns-in_err-value-clause-fault c =
    exit _ _ _ c.from_residual.ensures.1 (λ some. parameter_fault Interior interior_with _ _ _ _ (c.in_err-value.ensures.fault some))

pub returns-in_err-interior-clause-fault : goal.returns-in_err-interior-clause-fault
returns-in_err-interior-clause-fault c =
    exit _ _ _ c.from_residual-in_err-interior.ensures.1 (λ some. parameter_refused Interior interior_with _ _ _ _ _ _ c.in_ok-value.ensures.found (rw (sym c.place_at.ensures) (sym c.in_err-interior.ensures)))

pub returns-clause-found : goal.returns-clause-found
returns-clause-found c =
    parameter_found Interior interior_with _ _ _ _ _ _ c.in_ok-value.ensures.found (rw (sym c.place_at.ensures) (sym c.in_ok-interior.ensures))
