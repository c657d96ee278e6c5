use Rattle.scene_expr.specs.Then.{IsThen}
use Rattle.item_blocks.specs.Textures.{texture_kind}
use Rattle.item_blocks.specs.ReadingLaws.{exit, same_state}
use Rattle.item_blocks.proofs.Colours.{set_same}
use Rattle.item_blocks.proofs.texture.take_texture.Goals as goal

pub returns-in_err-next-clause-fault : goal.returns-in_err-next-clause-fault
returns-in_err-next-clause-fault c =
    exit _ _ _ c.from_residual.ensures.1 (λ some. IsThen.fault _ (same_state (texture_kind c.args.tokens.now c.args.set.now) _ _ _ _ _ _ c.no_texture-inner.ensures (c.in_err-next.ensures.fault some)))

pub returns-clause-found : goal.returns-clause-found
returns-clause-found c =
    IsThen.found _ _ (same_state (texture_kind c.args.tokens.now c.args.set.now) _ _ _ _ _ _ c.no_texture-inner.ensures c.in_ok-next.ensures.found) (set_same c.args.material.now _ _ _ c.set.ensures)
