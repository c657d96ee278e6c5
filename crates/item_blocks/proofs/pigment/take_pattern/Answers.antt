use Rattle.std.proofs.Common.{refl}
use Rattle.scene_expr.specs.Then.{IsThen}
use Rattle.item_blocks.specs.ReadingLaws.{exit}
use Rattle.item_blocks.proofs.pigment.take_pattern.Goals as goal

pub returns-in_err-paint-clause-fault : goal.returns-in_err-paint-clause-fault
returns-in_err-paint-clause-fault c = exit _ _ _ c.from_residual.ensures.1 (λ some. IsThen.fault _ (c.in_err-paint.ensures.fault some))

pub returns-clause-found : goal.returns-clause-found
returns-clause-found c = IsThen.found _ _ c.in_ok-paint.ensures.found refl
