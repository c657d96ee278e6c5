use Rattle.std.proofs.Common.{refl}
use Rattle.item_blocks.specs.ReadingLaws.{exit}
use Rattle.scene_expr.specs.Then.{IsThen}
use Rattle.solid_items.proofs.triangles.flat_corner.Goals as goal

pub returns-in_err-point-clause-fault : goal.returns-in_err-point-clause-fault
returns-in_err-point-clause-fault c = exit _ _ _ c.from_residual.ensures.1 (λ some. IsThen.fault _ (c.in_err-point.ensures.fault some))

pub returns-clause-found : goal.returns-clause-found
returns-clause-found c = IsThen.found _ _ c.in_ok-point.ensures.found (rw c.origin.ensures refl)
