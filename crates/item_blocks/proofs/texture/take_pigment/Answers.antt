use Rattle.std.proofs.Common.{refl}
use Rattle.scene_expr.specs.Then.{IsThen}
use Rattle.item_blocks.specs.Pigments.{pigment_kind}
use Rattle.item_blocks.specs.ReadingLaws.{exit, same_state}
use Rattle.item_blocks.proofs.texture.take_pigment.Goals as goal

pub returns-in_err-next-clause-fault : goal.returns-in_err-next-clause-fault
returns-in_err-next-clause-fault c =
    exit _ _ _ c.from_residual.ensures.1 (λ some. IsThen.fault _ (same_state (pigment_kind c.args.tokens.now c.args.set.now) _ _ _ _ _ _ c.plain-pigment.ensures (c.in_err-next.ensures.fault some)))

pub returns-clause-found : goal.returns-clause-found
returns-clause-found c =
    IsThen.found _ _ (same_state (pigment_kind c.args.tokens.now c.args.set.now) _ _ _ _ _ _ c.plain-pigment.ensures c.in_ok-next.ensures.found) refl
