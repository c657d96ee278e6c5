use Rattle.scene_expr.specs.Then.{IsThen}
use Rattle.item_blocks.specs.ReadingLaws.{exit, same_value}
use Rattle.scene_parser.proofs.Kept.{default_kept}
use Rattle.scene_parser.proofs.item.take_default.Goals as goal

pub over-requires-clause-default : goal.over-requires-clause-default
over-requires-clause-default c = default_kept c.args.tokens.now c.args.set.now 64 _ _ _ c.requires.good.default c.in_ok-next.ensures.found

pub returns-in_err-start-clause-fault : goal.returns-in_err-start-clause-fault
returns-in_err-start-clause-fault c = exit _ _ _ c.from_residual.ensures.1 (λ some. IsThen.fault _ c.in_err-start.ensures.value)

pub returns-in_err-next-clause-fault : goal.returns-in_err-next-clause-fault
returns-in_err-next-clause-fault c =
    exit _ _ _ c.from_residual-in_err-next.ensures.1 (λ some. IsThen.found _ _ c.in_ok-start.ensures.value (IsThen.fault _ (c.in_err-next.ensures.fault some)))

pub returns-clause-found : goal.returns-clause-found
returns-clause-found c =
    IsThen.found _ _ c.in_ok-start.ensures.value (IsThen.found _ _ c.in_ok-next.ensures.found (same_value _ _ _ c.in_ok-draft.ensures.found))
