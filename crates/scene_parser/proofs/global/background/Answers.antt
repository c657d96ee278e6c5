use Rattle.std.proofs.Common.{refl}
use Rattle.scene_expr.specs.Then.{IsThen}
use Rattle.item_blocks.specs.ReadingLaws.{exit}
use Rattle.scene_parser.proofs.global.background.Goals as goal

pub returns-in_err-start-clause-fault : goal.returns-in_err-start-clause-fault
returns-in_err-start-clause-fault c = exit _ _ _ c.from_residual.ensures.1 (λ some. IsThen.fault _ c.in_err-start.ensures.value)

pub returns-in_err-colour-clause-fault : goal.returns-in_err-colour-clause-fault
returns-in_err-colour-clause-fault c =
    exit _ _ _ c.from_residual-in_err-colour.ensures.1 (λ some. IsThen.found _ _ c.in_ok-start.ensures.value (IsThen.fault _ (c.in_err-colour.ensures.fault some)))

pub returns-in_err-next-clause-fault : goal.returns-in_err-next-clause-fault
returns-in_err-next-clause-fault c =
    exit _ _ _ c.from_residual-in_err-next.ensures.1 (λ some. IsThen.found _ _ c.in_ok-start.ensures.value (IsThen.found _ _ c.in_ok-colour.ensures.found (IsThen.fault _ c.in_err-next.ensures.value)))

pub returns-clause-found : goal.returns-clause-found
returns-clause-found c =
    IsThen.found _ _ c.in_ok-start.ensures.value (IsThen.found _ _ c.in_ok-colour.ensures.found (IsThen.found _ _ c.in_ok-next.ensures.value refl))
