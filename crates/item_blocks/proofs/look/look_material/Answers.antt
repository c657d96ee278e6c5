use Rattle.scene_expr.specs.Then.{IsThen}
use Rattle.item_blocks.specs.Textures.{material_kind}
use Rattle.item_blocks.specs.ReadingLaws.{exit, same_state, same_value}
use Rattle.item_blocks.proofs.look.look_material.Goals as goal

pub returns-in_err-next-clause-fault : goal.returns-in_err-next-clause-fault
returns-in_err-next-clause-fault c =
    exit _ _ _ c.from_residual.ensures.1 (λ some. IsThen.fault _ (same_state (material_kind c.args.tokens.now c.args.set.now) _ _ _ _ _ _ c.no_material-inner.ensures (c.in_err-next.ensures.fault some)))

pub returns-clause-found : goal.returns-clause-found
returns-clause-found c =
    IsThen.found _ _ (same_state (material_kind c.args.tokens.now c.args.set.now) _ _ _ _ _ _ c.no_material-inner.ensures c.in_ok-next.ensures.found) (same_value _ _ _ c.set.ensures)
