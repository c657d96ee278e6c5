use Rattle.std.proofs.lemmas.Result.{IfOk-weaker, IfErr-weaker}
use Rattle.scene_expr.specs.Then.{IsThen}
use Rattle.item_blocks.specs.ReadingLaws.{exit}
use Rattle.object_items.proofs.Wholes.{ended_same, triangle_same}
use Rattle.object_items.proofs.sheets.triangle.Goals as goal

pub returns-in_err-sheet-clause-fault : goal.returns-in_err-sheet-clause-fault
returns-in_err-sheet-clause-fault c = exit _ _ _ c.from_residual.ensures.1 (λ some. IsThen.fault _ (c.in_err-sheet.ensures.fault some))

pub returns-clause-found : goal.returns-clause-found
returns-clause-found c =
    IfOk-weaker c.ended.result _ _ (λ found is. IsThen.found _ _ c.in_ok-sheet.ensures.found
    (ended_same c.args.tokens.now c.args.set.now _ _ _ _ _ _ _ _ _ _ _ _ c.marks-marks.ensures c.without_shape.ensures.shape c.without_shape.ensures.shadow
    (triangle_same _ _ c.args.tables.now _ _ _ c.in_ok-add_sheet.ensures.found c.in_ok-thing.ensures.number c.in_ok-thing.ensures.found c.start.ensures.value) is)) c.ended.ensures.found

pub returns-clause-fault : goal.returns-clause-fault
returns-clause-fault c =
    IfErr-weaker c.ended.result _ _ (λ f fault some. IsThen.found _ _ c.in_ok-sheet.ensures.found
    (ended_same c.args.tokens.now c.args.set.now _ _ _ _ _ _ _ _ _ _ _ _ c.marks-marks.ensures c.without_shape.ensures.shape c.without_shape.ensures.shadow
    (triangle_same _ _ c.args.tables.now _ _ _ c.in_ok-add_sheet.ensures.found c.in_ok-thing.ensures.number c.in_ok-thing.ensures.found c.start.ensures.value) (fault some))) c.ended.ensures.fault
