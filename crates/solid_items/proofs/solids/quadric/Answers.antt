use Rattle.std.proofs.Common.{refl}
use Rattle.item_blocks.specs.ReadingLaws.{exit}
use Rattle.scene_expr.specs.Then.{IsThen}
use Rattle.solid_items.proofs.solids.quadric.Goals as goal

pub returns-in_err-a-clause-fault : goal.returns-in_err-a-clause-fault
returns-in_err-a-clause-fault c = exit _ _ _ c.from_residual.ensures.1 (λ some. IsThen.fault _ (c.in_err-a.ensures.fault some))

pub returns-in_err-b-clause-fault : goal.returns-in_err-b-clause-fault
returns-in_err-b-clause-fault c = exit _ _ _ c.from_residual-in_err-b.ensures.1 (λ some. IsThen.found _ _ c.in_ok-a.ensures.found (IsThen.fault _ (c.in_err-b.ensures.fault some)))

pub returns-in_err-c-clause-fault : goal.returns-in_err-c-clause-fault
returns-in_err-c-clause-fault c = exit _ _ _ c.from_residual-in_err-c.ensures.1 (λ some. IsThen.found _ _ c.in_ok-a.ensures.found (IsThen.found _ _ c.in_ok-b.ensures.found (IsThen.fault _ (c.in_err-c.ensures.fault some))))

pub returns-in_err-d-clause-fault : goal.returns-in_err-d-clause-fault
returns-in_err-d-clause-fault c = exit _ _ _ c.from_residual-in_err-d.ensures.1 (λ some. IsThen.found _ _ c.in_ok-a.ensures.found (IsThen.found _ _ c.in_ok-b.ensures.found (IsThen.found _ _ c.in_ok-c.ensures.found (IsThen.fault _ (c.in_err-d.ensures.fault some)))))

pub returns-clause-found : goal.returns-clause-found
returns-clause-found c = IsThen.found _ _ c.in_ok-a.ensures.found (IsThen.found _ _ c.in_ok-b.ensures.found (IsThen.found _ _ c.in_ok-c.ensures.found (IsThen.found _ _ c.in_ok-d.ensures.found (rw (c.identity_frame.ensures.value, c.origin.ensures) refl))))
