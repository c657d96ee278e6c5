use Rattle.std.proofs.Common.{sym, ◌∙◌}
use Rattle.scene_parser.proofs.Places.{parts_found}
use Rattle.scene_parser.proofs.placed.place_parts.Goals as goal

pub returns-in-None-clause-found : goal.returns-in-None-clause-found
returns-in-None-clause-found c =
    parts_found c.args.numbers.now c.args.tables.now c.args.no_shadow c.xforms.result.now c.xforms-2.result.now c.leaves.result.now c.sheets.result.now c.args.leaves.items c.in_ok-leaves.leaves.items c.args.sheets.items c.in_ok-sheets.sheets.items c.in_ok-leaves.leaf c.in_ok-sheets.sheet
    c.xforms.ensures c.xforms-2.ensures c.leaves.ensures c.sheets.ensures c.in_ok-leaves.ensures.found c.in_ok-sheets.ensures.found (sym c.first_of.ensures ∙ c.in-None.is)
