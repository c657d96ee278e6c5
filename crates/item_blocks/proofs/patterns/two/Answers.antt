use Rattle.std.proofs.Common.{refl}
use Rattle.scene_expr.specs.Then.{IsThen}
use Rattle.item_blocks.specs.ReadingLaws.{exit}
use Rattle.item_blocks.proofs.patterns.two.Goals as goal

pub returns-in_err-first-clause-fault : goal.returns-in_err-first-clause-fault
returns-in_err-first-clause-fault c = exit _ _ _ c.from_residual.ensures.1 (λ some. IsThen.fault _ (c.in_err-first.ensures.fault some))

pub returns-in_err-second-clause-fault : goal.returns-in_err-second-clause-fault
returns-in_err-second-clause-fault c =
    exit _ _ _ c.from_residual-in_err-second.ensures.1 (λ some. IsThen.found _ _ c.in_ok-first.ensures.found (IsThen.fault _ (c.in_err-second.ensures.fault some)))

pub returns-clause-found : goal.returns-clause-found
returns-clause-found c = IsThen.found _ _ c.in_ok-first.ensures.found (IsThen.found _ _ c.in_ok-second.ensures.found refl)
