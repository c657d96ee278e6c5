use Rattle.std.proofs.Common.{refl}
use Rattle.scene_expr.specs.Then.{IsThen}
use Rattle.item_blocks.specs.ReadingLaws.{exit}
use Rattle.scene_parser.proofs.default.take_default.Goals as goal

pub returns-in_err-next-clause-fault : goal.returns-in_err-next-clause-fault
returns-in_err-next-clause-fault c = exit _ _ _ c.from_residual.ensures.1 (λ some. IsThen.fault _ (c.in_err-next.ensures.fault some))

pub returns-clause-found : goal.returns-clause-found
returns-clause-found c = IsThen.found _ _ c.in_ok-next.ensures.found refl
