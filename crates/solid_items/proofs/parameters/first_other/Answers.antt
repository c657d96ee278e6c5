use Rattle.std.proofs.Common.{sym}
use Rattle.fix_math.specs.declared.fix.V3.{V3}
use Rattle.item_blocks.specs.ReadingLaws.{exit, parameter_fault, parameter_refused, parameter_found}
use Rattle.solid_items.specs.Solids.{other_of}
use Rattle.solid_items.proofs.Sizes.{kept_parameter, kept_other}
use Rattle.std.specs.Prelude.{◌≢◌}
use Rattle.fix_math.specs.Matrices.{IsVectorWithin}
use Rattle.solid_items.proofs.parameters.first_other.Goals as goal

pub returns-in_err-value-clause-fault : goal.returns-in_err-value-clause-fault
returns-in_err-value-clause-fault c =
    exit _ _ _ c.from_residual.ensures.1 (λ some. parameter_fault V3 (other_of c.args.a.now) _ _ _ _ (c.in_err-value.ensures.fault some))

pub returns-in_err-other_of-clause-fault : goal.returns-in_err-other_of-clause-fault
returns-in_err-other_of-clause-fault c =
    exit _ _ _ c.from_residual-in_err-other_of.ensures.1 (λ some. parameter_refused V3 (other_of c.args.a.now) _ _ _ _ _ _ c.in_ok-value.ensures.found (rw (sym c.place_at.ensures) (sym c.in_err-other_of.ensures.value)))

pub returns-clause-found : goal.returns-clause-found
returns-clause-found c =
    parameter_found V3 (other_of c.args.a.now) _ _ _ _ _ _ c.in_ok-value.ensures.found (rw (sym c.place_at.ensures) (sym c.in_ok-other_of.ensures.value))

pub returns-clause-small : goal.returns-clause-small
returns-clause-small c = (kept_parameter V3 (other_of c.args.a.now) (λ b. (IsVectorWithin 268435456 b) × (b ≢ c.args.a.now)) (kept_other c.args.a.now) c.args.tokens.now c.args.set.now c.args.at _ (parameter_found V3 (other_of c.args.a.now) _ _ _ _ _ _ c.in_ok-value.ensures.found (rw (sym c.place_at.ensures) (sym c.in_ok-other_of.ensures.value)))).0

pub returns-clause-other : goal.returns-clause-other
returns-clause-other c = (kept_parameter V3 (other_of c.args.a.now) (λ b. (IsVectorWithin 268435456 b) × (b ≢ c.args.a.now)) (kept_other c.args.a.now) c.args.tokens.now c.args.set.now c.args.at _ (parameter_found V3 (other_of c.args.a.now) _ _ _ _ _ _ c.in_ok-value.ensures.found (rw (sym c.place_at.ensures) (sym c.in_ok-other_of.ensures.value)))).1
