use Rattle.scene_expr.specs.Then.{IsThen}
use Rattle.item_blocks.specs.ReadingLaws.{exit, same_value}
use Rattle.scene_parser.proofs.item.take_camera.Goals as goal

pub returns-in_err-camera-clause-fault : goal.returns-in_err-camera-clause-fault
returns-in_err-camera-clause-fault c = exit _ _ _ c.from_residual.ensures.1 (λ some. IsThen.fault _ (c.in_err-camera.ensures.fault some))

pub returns-clause-found : goal.returns-clause-found
returns-clause-found c = IsThen.found _ _ c.in_ok-camera.ensures.found (same_value _ _ _ c.with_camera.ensures.value)
