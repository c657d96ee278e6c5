use Rattle.std.proofs.Common.{sym, ℤ, FitsSigned, to_z-of_z}
use Rattle.std.specs.Int.{w64}
use Rattle.item_blocks.specs.Parameters.{float_of}
use Rattle.item_blocks.specs.ReadingLaws.{exit, parameter_fault, parameter_refused, parameter_found}
use Rattle.item_blocks.proofs.parameters.float_between.Goals as goal

pub returns-in_err-value-clause-fault : goal.returns-in_err-value-clause-fault
returns-in_err-value-clause-fault c =
    exit _ _ _ c.from_residual.ensures.1 (λ some. parameter_fault ℤ (float_of c.args.low c.args.high) _ _ _ _ (c.in_err-value.ensures.fault some))

pub returns-in_err-float_of-clause-fault : goal.returns-in_err-float_of-clause-fault
returns-in_err-float_of-clause-fault c =
    let low : FitsSigned w64 c.args.low = c.ranges.low in
    let high : FitsSigned w64 c.args.high = c.ranges.high in
    let is = simp to_z-of_z at c.in_err-float_of.ensures.value in
    exit _ _ _ c.from_residual-in_err-float_of.ensures.1 (λ some. parameter_refused ℤ (float_of c.args.low c.args.high) _ _ _ _ _ _ c.in_ok-value.ensures.found (rw (sym c.place_at.ensures) (sym is)))

pub returns-clause-found : goal.returns-clause-found
returns-clause-found c =
    let low : FitsSigned w64 c.args.low = c.ranges.low in
    let high : FitsSigned w64 c.args.high = c.ranges.high in
    let is = simp to_z-of_z at c.in_ok-float_of.ensures.value in
    parameter_found ℤ (float_of c.args.low c.args.high) _ _ _ _ _ _ c.in_ok-value.ensures.found (rw (sym c.place_at.ensures) (sym is))
