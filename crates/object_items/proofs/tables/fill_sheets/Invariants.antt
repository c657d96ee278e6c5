-- What is changed from here on comes to the whole.
use Rattle.std.proofs.Common.{◌≡◌}
use Rattle.object_items.specs.Held.{from_on, fill_sheet}
use Rattle.object_items.proofs.tables.fill_sheets.Given as goal

abbrev pub invariant-sheets : goal.invariant-sheets
invariant-sheets l = from_on l.from (fill_sheet l.interior) l.initial.sheets ≡ from_on l.i (fill_sheet l.interior) l.sheets
