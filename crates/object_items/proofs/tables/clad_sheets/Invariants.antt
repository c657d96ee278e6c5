-- What is changed from here on comes to the whole.
use Rattle.std.proofs.Common.{◌≡◌}
use Rattle.object_items.specs.Held.{from_on, clad_sheet}
use Rattle.object_items.proofs.tables.clad_sheets.Given as goal

abbrev pub invariant-sheets : goal.invariant-sheets
invariant-sheets l = from_on l.from (clad_sheet l.number) l.initial.sheets ≡ from_on l.i (clad_sheet l.number) l.sheets
