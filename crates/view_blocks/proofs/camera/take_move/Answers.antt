use Rattle.scene_expr.specs.Then.{IsThen}
use Rattle.item_blocks.specs.ReadingLaws.{exit, first_same}
use Rattle.view_blocks.proofs.Cameras.{shifted_camera}
use Rattle.view_blocks.proofs.camera.take_move.Goals as goal

pub returns-in_err-next-clause-fault : goal.returns-in_err-next-clause-fault
returns-in_err-next-clause-fault c = exit _ _ _ c.from_residual.ensures.1 (λ some. IsThen.fault _ (c.in_err-next.ensures.fault some))

pub returns-clause-found : goal.returns-clause-found
returns-clause-found c =
    IsThen.found _ _ c.in_ok-next.ensures.found (shifted_camera c.args.camera.now _ _ _ (first_same c.moved.new.xforms _ _ c.moved.auto.xforms))
