use Rattle.scene_expr.specs.Then.{IsThen}
use Rattle.item_blocks.specs.ReadingLaws.{exit, same_value}
use Rattle.object_items.proofs.Wholes.{said_same}
use Rattle.object_items.proofs.statement.ended.Goals as goal

pub returns-in_err-next-clause-fault : goal.returns-in_err-next-clause-fault
returns-in_err-next-clause-fault c =
    exit _ _ _ c.from_residual.ensures.1 (λ some. IsThen.fault _ (said_same c.args.tokens.now c.args.set.now c.args.depths c.args.mesh c.args.marks.now _ _ _ _ (c.unsaid-modifiers.ensures c.args.tables.now) (c.in_err-next.ensures.fault some)))

pub returns-clause-found : goal.returns-clause-found
returns-clause-found c =
    IsThen.found _ _ (said_same c.args.tokens.now c.args.set.now c.args.depths c.args.mesh c.args.marks.now _ _ _ _ (c.unsaid-modifiers.ensures c.args.tables.now) c.in_ok-next.ensures.found) (same_value _ _ _ c.in_ok-part.ensures.found)
