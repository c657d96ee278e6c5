use Rattle.std.proofs.Common.{◌≡◌, true, false, arith}
use Rattle.std.specs.Prelude.{nat_eq}
use Rattle.scene_expr.specs.Heads.{sign_at}
use Rattle.item_blocks.specs.Blocks.{IsStatements}
use Rattle.item_blocks.specs.ReadingLaws.{exit}
use Rattle.object_items.proofs.statement.take_modifiers.Goals as goal

pub modifiers-init : goal.modifiers-init
modifiers-init c = record {
  after = omega arith;
  within = c.requires.within;
  marks = c.requires.marks;
  whole = λ r rest. rest;
}

pub returns-in_err-next-clause-fault : goal.returns-in_err-next-clause-fault
returns-in_err-next-clause-fault c =
    let more : nat_eq (sign_at c.args.tokens.now c.modifiers.next) 125 ≡ false = grind arith in
    exit _ _ _ c.from_residual.ensures.1 (λ some. c.modifiers.invariant.whole _ (IsStatements.fault _ _ _ more (c.in_err-next.ensures.fault some)))

pub modifiers-preserved : goal.modifiers-preserved
modifiers-preserved c =
    let more : nat_eq (sign_at c.args.tokens.now c.modifiers.next) 125 ≡ false = grind arith in
    record {
      after = omega (arith, c.modifiers.invariant.after, c.in_ok-next.ensures.within.0);
      within = c.in_ok-next.ensures.within.1;
      marks = c.in_ok-next.ensures.marks;
      whole = λ r rest. c.modifiers.invariant.whole r (IsStatements.further _ _ _ r more c.in_ok-next.ensures.found rest);
    }

pub returns-clause-found : goal.returns-clause-found
returns-clause-found c =
    let shut : nat_eq (sign_at c.args.tokens.now c.modifiers.next) 125 ≡ true = grind arith in
    c.modifiers.invariant.whole _ (IsStatements.ends _ _ shut)
