use Rattle.std.proofs.Common.{refl}
use Rattle.std.proofs.lemmas.Result.{IfOk-weaker, IfErr-weaker}
use Rattle.scene_expr.specs.Then.{IsThen}
use Rattle.item_blocks.specs.ReadingLaws.{exit}
use Rattle.object_items.proofs.Wholes.{ended_same, mesh_same, thing_same}
use Rattle.object_items.proofs.sheets.mesh.Goals as goal

pub returns-in_err-start-clause-fault : goal.returns-in_err-start-clause-fault
returns-in_err-start-clause-fault c = exit _ _ _ c.from_residual.ensures.1 (λ some. IsThen.fault _ c.in_err-start.ensures.value)

pub returns-in_err-next-clause-fault : goal.returns-in_err-next-clause-fault
returns-in_err-next-clause-fault c =
    exit _ _ _ c.from_residual-in_err-next.ensures.1 (λ some. IsThen.found _ _ c.in_ok-start.ensures.value (IsThen.fault _
    (mesh_same c.args.tokens.now c.args.set.now _ _ _ c.args.tables.now _ _ c.in_ok-thing.ensures.number (thing_same _ _ _ c.in_ok-thing.ensures.found c.start.ensures.value) (c.in_err-next.ensures.fault some))))

pub returns-clause-found : goal.returns-clause-found
returns-clause-found c =
    IfOk-weaker c.ended.result _ _ (λ found is. IsThen.found _ _ c.in_ok-start.ensures.value (IsThen.found _ _
    (mesh_same c.args.tokens.now c.args.set.now _ _ _ c.args.tables.now _ _ c.in_ok-thing.ensures.number (thing_same _ _ _ c.in_ok-thing.ensures.found c.start.ensures.value) c.in_ok-next.ensures.found)
    (ended_same c.args.tokens.now c.args.set.now _ _ _ _ _ _ _ _ _ _ _ _ c.marks-marks.ensures c.without_shape.ensures.shape c.without_shape.ensures.shadow refl is))) c.ended.ensures.found

pub returns-clause-fault : goal.returns-clause-fault
returns-clause-fault c =
    IfErr-weaker c.ended.result _ _ (λ f fault some. IsThen.found _ _ c.in_ok-start.ensures.value (IsThen.found _ _
    (mesh_same c.args.tokens.now c.args.set.now _ _ _ c.args.tables.now _ _ c.in_ok-thing.ensures.number (thing_same _ _ _ c.in_ok-thing.ensures.found c.start.ensures.value) c.in_ok-next.ensures.found)
    (ended_same c.args.tokens.now c.args.set.now _ _ _ _ _ _ _ _ _ _ _ _ c.marks-marks.ensures c.without_shape.ensures.shape c.without_shape.ensures.shadow refl (fault some)))) c.ended.ensures.fault
