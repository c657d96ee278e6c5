use Rattle.scene_expr.specs.Then.{IsThen}
use Rattle.item_blocks.specs.ReadingLaws.{exit, same_value}
use Rattle.object_items.proofs.Wholes.{part_same}
use Rattle.object_items.proofs.sheets.mesh_part.Goals as goal

pub returns-in_err-sheet-clause-fault : goal.returns-in_err-sheet-clause-fault
returns-in_err-sheet-clause-fault c = exit _ _ _ c.from_residual.ensures.1 (λ some. IsThen.fault _ (c.in_err-sheet.ensures.fault some))

pub returns-in_err-texture-clause-fault : goal.returns-in_err-texture-clause-fault
returns-in_err-texture-clause-fault c = exit _ _ _ c.from_residual-in_err-texture.ensures.1 (λ some. IsThen.found _ _ c.in_ok-sheet.ensures.found (IsThen.fault _ (c.in_err-texture.ensures.fault some)))

pub returns-in_err-next-clause-fault : goal.returns-in_err-next-clause-fault
returns-in_err-next-clause-fault c = exit _ _ _ c.from_residual-in_err-next.ensures.1 (λ some. IsThen.found _ _ c.in_ok-sheet.ensures.found (IsThen.found _ _ c.in_ok-texture.ensures.found (IsThen.fault _ c.in_err-next.ensures.value)))

pub returns-clause-found : goal.returns-clause-found
returns-clause-found c =
    IsThen.found _ _ c.in_ok-sheet.ensures.found (IsThen.found _ _ c.in_ok-texture.ensures.found (IsThen.found _ _ c.in_ok-next.ensures.value
    (same_value _ _ _ (part_same _ _ c.args.tables.now _ _ c.in_ok-texture.texture _ c.in_ok-add_sheet.ensures.found c.in_ok-own.ensures.number c.in_ok-own.ensures.found))))
