use Rattle.scene_expr.specs.Then.{IsThen}
use Rattle.item_blocks.specs.ReadingLaws.{exit, same_value}
use Rattle.scene_parser.proofs.Kept.{background_kept}
use Rattle.scene_parser.proofs.item.take_background.Goals as goal

pub with_background-requires-clause-colour : goal.with_background-requires-clause-colour
with_background-requires-clause-colour c = background_kept c.args.tokens.now c.args.set.now 64 _ _ _ c.in_ok-colour.ensures.found

pub returns-in_err-colour-clause-fault : goal.returns-in_err-colour-clause-fault
returns-in_err-colour-clause-fault c = exit _ _ _ c.from_residual.ensures.1 (λ some. IsThen.fault _ (c.in_err-colour.ensures.fault some))

pub returns-clause-found : goal.returns-clause-found
returns-clause-found c = IsThen.found _ _ c.in_ok-colour.ensures.found (same_value _ _ _ c.with_background.ensures.value)
