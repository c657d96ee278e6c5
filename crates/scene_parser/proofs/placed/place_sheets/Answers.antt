use Rattle.std.proofs.Common.{◌≡◌, Some, [], ◌∷◌, length, drop, ◌+◌, refl, sym, subst, arith}
use Rattle.std.specs.Prelude.{slice_get}
use Rattle.std.specs.List.{All}
use Rattle.std.proofs.lemmas.List.Elements.{All-append, All-cons, All-nil}
use Rattle.std.proofs.lemmas.Option.{slice_get_read}
use Rattle.scene_model.specs.Valid.{IsSheet}
use Rattle.scene_parser.specs.Placed.{sheet_placed, each, appended}
use Rattle.scene_parser.proofs.Each.{turn_found}
use Rattle.scene_parser.proofs.placed.place_sheets.Goals as goal

pub loop-part-preserved : goal.loop-part-preserved
loop-part-preserved c =
    let at : slice_get c.args.parts.now c.loop-part.part-index ≡ Some c.part-item.result = slice_get_read c.args.parts.now (length c.args.parts.now) c.loop-part.part-index c.part-item.result refl (omega (arith, c.loop-part-test.true)) c.part-item.is in
    let turn = turn_found (sheet_placed c.args.numbers.now c.args.things.now c.args.no_shadow) c.args.parts.now c.loop-part.part-index c.part-item.result c.in-Ok.sheet c.loop-part.sheets.items _ c.loop-part.invariant.same at (sym c.in-Ok.ensures.value) in
    let added = All-append IsSheet c.loop-part.sheets.items (c.in-Ok.sheet ∷ []) c.loop-part.invariant.valid (All-cons IsSheet c.in-Ok.sheet [] c.in-Ok.ensures.valid (All-nil IsSheet)) in
    record {
      same = subst (λ l. appended c.args.sheets.items (each (sheet_placed c.args.numbers.now c.args.things.now c.args.no_shadow) c.args.parts.now) ≡ appended l (each (sheet_placed c.args.numbers.now c.args.things.now c.args.no_shadow) (drop (c.loop-part.part-index + 1) c.args.parts.now))) (sym c.in_ok-sheets-in-Ok.ensures.found) turn;
      valid = subst (λ l. All IsSheet l) (sym c.in_ok-sheets-in-Ok.ensures.found) added;
    }
