use Rattle.std.proofs.Common.{◌≡◌, ◌+◌, ap, length}
use Rattle.scene_expr.specs.Then.{IsThen}
use Rattle.item_blocks.specs.ReadingLaws.{exit}
use Rattle.object_items.specs.Held.{sheet_number}
use Rattle.object_items.proofs.Wholes.{counted_same, sum_same}
use Rattle.object_items.proofs.sheets.corners.Goals as goal

pub returns-in_err-brace-clause-fault : goal.returns-in_err-brace-clause-fault
returns-in_err-brace-clause-fault c =
    let number : c.sheets_before-before.result + length c.sheets.result.now ≡ sheet_number c.args.tables.now = sum_same _ _ _ _ c.sheets_before-before.ensures (ap length c.sheets.ensures) in
    exit _ _ _ c.from_residual.ensures.1 (λ some. IsThen.fault _ (counted_same _ _ _ _ _ _ _ number c.in_err-brace.ensures.value))

pub returns-in_err-start-clause-fault : goal.returns-in_err-start-clause-fault
returns-in_err-start-clause-fault c =
    let number : c.sheets_before-before.result + length c.sheets.result.now ≡ sheet_number c.args.tables.now = sum_same _ _ _ _ c.sheets_before-before.ensures (ap length c.sheets.ensures) in
    exit _ _ _ c.from_residual-in_err-start.ensures.1 (λ some. IsThen.found _ _ (counted_same _ _ _ _ _ _ _ number c.in_ok-brace.ensures.value) (IsThen.fault _ c.in_err-start.ensures.value))

pub returns-in_err-sheet-clause-fault : goal.returns-in_err-sheet-clause-fault
returns-in_err-sheet-clause-fault c =
    let number : c.sheets_before-before.result + length c.sheets.result.now ≡ sheet_number c.args.tables.now = sum_same _ _ _ _ c.sheets_before-before.ensures (ap length c.sheets.ensures) in
    exit _ _ _ c.from_residual-in_err-sheet.ensures.1 (λ some. IsThen.found _ _ (counted_same _ _ _ _ _ _ _ number c.in_ok-brace.ensures.value) (IsThen.found _ _ c.in_ok-start.ensures.value (c.in_err-sheet.ensures.fault some)))

pub returns-clause-found : goal.returns-clause-found
returns-clause-found c =
    let number : c.sheets_before-before.result + length c.sheets.result.now ≡ sheet_number c.args.tables.now = sum_same _ _ _ _ c.sheets_before-before.ensures (ap length c.sheets.ensures) in
    IsThen.found _ _ (counted_same _ _ _ _ _ _ _ number c.in_ok-brace.ensures.value) (IsThen.found _ _ c.in_ok-start.ensures.value c.in_ok-sheet.ensures.found)
