use Rattle.std.proofs.Common.{◌≡◌, true, false, arith}
use Rattle.scene_expr.specs.Then.{IsThen}
use Rattle.item_blocks.specs.ReadingLaws.{exit}
use Rattle.object_items.specs.Sheets.{begins_triangle}
use Rattle.object_items.specs.Statements.{IsWhile}
use Rattle.object_items.proofs.sheets.mesh_parts.Goals as goal

pub returns-in_err-next-clause-fault : goal.returns-in_err-next-clause-fault
returns-in_err-next-clause-fault c = exit _ _ _ c.from_residual.ensures.1 (λ some. IsThen.fault _ (c.in_err-next.ensures.fault some))

pub parts-init : goal.parts-init
parts-init c = record {
  after = c.in_ok-next.ensures.within.0;
  within = c.in_ok-next.ensures.within.1;
  grown = c.in_ok-next.ensures.grown;
  whole = λ r rest. IsThen.found _ r c.in_ok-next.ensures.found rest;
}

pub returns-in_err-next-2-clause-fault : goal.returns-in_err-next-2-clause-fault
returns-in_err-next-2-clause-fault c =
    let more : begins_triangle c.args.tokens.now c.parts.next ≡ true = cc in
    exit _ _ _ c.from_residual-in_err-next-2.ensures.1 (λ some. c.parts.invariant.whole _ (IsWhile.fault _ _ _ more (c.in_err-next-2.ensures.fault some)))

pub parts-preserved : goal.parts-preserved
parts-preserved c =
    let more : begins_triangle c.args.tokens.now c.parts.next ≡ true = cc in
    record {
      after = omega (arith, c.parts.invariant.after, c.in_ok-next-2.ensures.within.0);
      within = c.in_ok-next-2.ensures.within.1;
      grown = omega (arith, c.parts.invariant.grown, c.in_ok-next-2.ensures.grown);
      whole = λ r rest. c.parts.invariant.whole r (IsWhile.further _ _ _ r more c.in_ok-next-2.ensures.found rest);
    }

pub returns-clause-found : goal.returns-clause-found
returns-clause-found c =
    let shut : begins_triangle c.args.tokens.now c.parts.next ≡ false = cc in
    c.parts.invariant.whole _ (IsWhile.ends _ _ shut)
