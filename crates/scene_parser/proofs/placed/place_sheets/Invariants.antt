-- What is placed from here on comes to the whole.
use Rattle.std.proofs.Common.{◌≡◌, drop}
use Rattle.std.specs.List.{All}
use Rattle.scene_model.specs.Valid.{IsSheet}
use Rattle.scene_parser.specs.Placed.{sheet_placed, each, appended}
use Rattle.scene_parser.proofs.placed.place_sheets.Given as goal

abbrev pub invariant-loop-part : goal.invariant-loop-part
invariant-loop-part l = record {
  same : appended l.initial.sheets.items (each (sheet_placed l.numbers l.things l.no_shadow) l.parts) ≡ appended l.sheets.items (each (sheet_placed l.numbers l.things l.no_shadow) (drop l.part-index l.parts));
  valid : All IsSheet l.sheets.items;
}
