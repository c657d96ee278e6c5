use Rattle.std.proofs.Common.{◌≡◌, true, false, refl, ap, arith}
use Rattle.std.proofs.lemmas.Result.{IfOk-weaker, IfErr-weaker}
use Rattle.scene_expr.specs.Then.{IsThen}
use Rattle.item_blocks.specs.ReadingLaws.{exit, same_value}
use Rattle.object_items.specs.Objects.{begins_object, no_parts, IsPart}
use Rattle.object_items.specs.Statements.{IsWhile}
use Rattle.object_items.proofs.Wholes.{ended_same, parts_same, part_inside, first_same, joined_same}
use Rattle.object_items.proofs.group.+objects.Goals as goal

-- ---- groups

pub group-returns-in_err-start-clause-fault : goal.group-returns-in_err-start-clause-fault
group-returns-in_err-start-clause-fault t c = exit _ _ _ c.from_residual.ensures.1 (λ some. IsThen.fault _ c.in_err-start.ensures.value)

pub group-returns-in_err-shapes-clause-fault : goal.group-returns-in_err-shapes-clause-fault
group-returns-in_err-shapes-clause-fault t c =
    exit _ _ _ c.from_residual-in_err-shapes.ensures.1 (λ some. IsThen.found _ _ c.in_ok-start.ensures.value (IsThen.fault _
    (parts_same c.args.tokens.now c.args.set.now c.args.depths _ _ c.args.op (no_parts c.args.tables.now) _ _ c.in_ok-start.ensures.depth c.sheets_in-sheets.ensures (c.in_err-shapes.ensures.fault some))))

pub group-ended-requires-clause-marks : goal.group-ended-requires-clause-marks
group-ended-requires-clause-marks t c = omega (arith, c.in_ok-shapes.ensures.grown, ap (λ m. m.things) c.marks-marks.ensures)

pub group-returns-clause-found : goal.group-returns-clause-found
group-returns-clause-found t c =
    IfOk-weaker c.ended.result _ _ (λ found is. IsThen.found _ _ c.in_ok-start.ensures.value (IsThen.found _ _
    (parts_same c.args.tokens.now c.args.set.now c.args.depths _ _ c.args.op (no_parts c.args.tables.now) _ _ c.in_ok-start.ensures.depth c.sheets_in-sheets.ensures c.in_ok-shapes.ensures.found)
    (ended_same c.args.tokens.now c.args.set.now _ _ _ _ _ _ _ _ false false _ _ c.marks-marks.ensures c.group_of.ensures refl refl is))) c.ended.ensures.found

pub group-returns-clause-fault : goal.group-returns-clause-fault
group-returns-clause-fault t c =
    IfErr-weaker c.ended.result _ _ (λ f fault some. IsThen.found _ _ c.in_ok-start.ensures.value (IsThen.found _ _
    (parts_same c.args.tokens.now c.args.set.now c.args.depths _ _ c.args.op (no_parts c.args.tables.now) _ _ c.in_ok-start.ensures.depth c.sheets_in-sheets.ensures c.in_ok-shapes.ensures.found)
    (ended_same c.args.tokens.now c.args.set.now _ _ _ _ _ _ _ _ false false _ _ c.marks-marks.ensures c.group_of.ensures refl refl (fault some)))) c.ended.ensures.fault

-- ---- holders

pub holder-returns-in_err-start-clause-fault : goal.holder-returns-in_err-start-clause-fault
holder-returns-in_err-start-clause-fault t c = exit _ _ _ c.from_residual.ensures.1 (λ some. IsThen.fault _ c.in_err-start.ensures.value)

pub holder-returns-in_err-part-clause-fault : goal.holder-returns-in_err-part-clause-fault
holder-returns-in_err-part-clause-fault t c =
    exit _ _ _ c.from_residual-in_err-part.ensures.1 (λ some. IsThen.found _ _ c.in_ok-start.ensures.value (IsThen.fault _
    (part_inside c.args.tokens.now c.args.set.now c.args.depths _ _ _ _ _ c.in_ok-start.ensures.depth (c.in_err-part.ensures.fault some))))

pub holder-ended-requires-clause-marks : goal.holder-ended-requires-clause-marks
holder-ended-requires-clause-marks t c = omega (arith, c.in_ok-part.ensures.grown, ap (λ m. m.things) c.marks-marks.ensures)

pub holder-returns-clause-found : goal.holder-returns-clause-found
holder-returns-clause-found t c =
    IfOk-weaker c.ended.result _ _ (λ found is. IsThen.found _ _ c.in_ok-start.ensures.value (IsThen.found _ _
    (part_inside c.args.tokens.now c.args.set.now c.args.depths _ _ _ _ _ c.in_ok-start.ensures.depth c.in_ok-part.ensures.found)
    (ended_same c.args.tokens.now c.args.set.now _ _ _ _ _ _ _ _ _ _ _ _ c.marks-marks.ensures refl refl refl is))) c.ended.ensures.found

pub holder-returns-clause-fault : goal.holder-returns-clause-fault
holder-returns-clause-fault t c =
    IfErr-weaker c.ended.result _ _ (λ f fault some. IsThen.found _ _ c.in_ok-start.ensures.value (IsThen.found _ _
    (part_inside c.args.tokens.now c.args.set.now c.args.depths _ _ _ _ _ c.in_ok-start.ensures.depth c.in_ok-part.ensures.found)
    (ended_same c.args.tokens.now c.args.set.now _ _ _ _ _ _ _ _ _ _ _ _ c.marks-marks.ensures refl refl refl (fault some)))) c.ended.ensures.fault

-- ---- parts

pub next_part-returns-in_err-part-clause-fault : goal.next_part-returns-in_err-part-clause-fault
next_part-returns-in_err-part-clause-fault t c = exit _ _ _ c.from_residual.ensures.1 (λ some. IsThen.fault _ (c.in_err-part.ensures.fault some))

pub next_part-returns-clause-found : goal.next_part-returns-clause-found
next_part-returns-clause-found t c =
    IsThen.found _ _ c.in_ok-part.ensures.found (same_value _ _ _ (joined_same c.args.op c.args.begun c.args.tables.now c.args.shapes.now.items c.put.new.shapes.items c.in_ok-part.part _ _ _ (c.leaves-from.ensures) c.turn_part.ensures.value c.in_ok-put.ensures.found))

pub parts-returns-in_err-next-clause-fault : goal.parts-returns-in_err-next-clause-fault
parts-returns-in_err-next-clause-fault t c = exit _ _ _ c.from_residual.ensures.1 (λ some. IsThen.fault _ (first_same (IsPart c.args.tokens.now c.args.set.now c.args.depths) c.args.sheets c.args.op c.args.tables.now c.new-shapes.result.items c.args.at _ c.new-shapes.ensures.items (c.in_err-next.ensures.fault some)))

pub parts-parts-init : goal.parts-parts-init
parts-parts-init t c = record {
  after = c.in_ok-next.ensures.within.0;
  within = c.in_ok-next.ensures.within.1;
  grown = c.in_ok-next.ensures.grown;
  whole = λ r rest. IsThen.found _ r (first_same (IsPart c.args.tokens.now c.args.set.now c.args.depths) c.args.sheets c.args.op c.args.tables.now c.new-shapes.result.items c.args.at _ c.new-shapes.ensures.items c.in_ok-next.ensures.found) rest;
}

pub parts-returns-in_err-next-2-clause-fault : goal.parts-returns-in_err-next-2-clause-fault
parts-returns-in_err-next-2-clause-fault t c =
    let more : begins_object c.args.sheets c.args.tokens.now c.parts.next ≡ true = cc in
    exit _ _ _ c.from_residual-in_err-next-2.ensures.1 (λ some. c.parts.invariant.whole _ (IsWhile.fault _ _ _ more (c.in_err-next-2.ensures.fault some)))

pub parts-parts-preserved : goal.parts-parts-preserved
parts-parts-preserved t c =
    let more : begins_object c.args.sheets c.args.tokens.now c.parts.next ≡ true = cc in
    record {
      after = omega (arith, c.parts.invariant.after, c.in_ok-next-2.ensures.within.0);
      within = c.in_ok-next-2.ensures.within.1;
      grown = omega (arith, c.parts.invariant.grown, c.in_ok-next-2.ensures.grown);
      whole = λ r rest. c.parts.invariant.whole r (IsWhile.further _ _ _ r more c.in_ok-next-2.ensures.found rest);
    }

pub parts-returns-clause-found : goal.parts-returns-clause-found
parts-returns-clause-found t c =
    let shut : begins_object c.args.sheets c.args.tokens.now c.parts.next ≡ false = cc in
    c.parts.invariant.whole _ (IsWhile.ends _ _ shut)
