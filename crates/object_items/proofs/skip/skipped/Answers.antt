use Rattle.std.proofs.Common.{◌≡◌, ◌≢◌, length, true, false, arith}
use Rattle.std.specs.Prelude.{nat_eq}
use Rattle.scene_expr.specs.Heads.{sign_at}
use Rattle.scene_expr.specs.Then.{IsThen}
use Rattle.item_blocks.specs.ReadingLaws.{exit}
use Rattle.object_items.proofs.Skips.{missing, too_deep, opens, closes, further, ends}
use Rattle.object_items.proofs.skip.skipped.Goals as goal

pub returns-in_err-start-clause-fault : goal.returns-in_err-start-clause-fault
returns-in_err-start-clause-fault c = exit _ _ _ c.from_residual.ensures.1 (IsThen.fault _ c.in_err-start.ensures.value)

pub tokens-init : goal.tokens-init
tokens-init c = record {
  after = omega (arith, c.in_ok-start.ensures.within.0);
  within = omega (arith, c.in_ok-start.ensures.within.0, c.in_ok-start.ensures.within.1);
  few = c.in_ok-start.ensures.depth;
  whole = λ r rest. IsThen.found _ r c.in_ok-start.ensures.value rest;
}

pub returns-then-next-tokens-clause-fault : goal.returns-then-next-tokens-clause-fault
returns-then-next-tokens-clause-fault c =
    rw c.unfit_at.ensures.value (missing _ _ _ _ _ (omega (arith, c.tokens-test.true)) (omega (arith, c.if-next-tokens.true)) c.tokens.invariant.whole)

pub returns-in_err-next-clause-fault : goal.returns-in_err-next-clause-fault
returns-in_err-next-clause-fault c =
    let brace : nat_eq (sign_at c.args.tokens.now c.tokens.next) 123 ≡ true = grind arith in
    exit _ _ _ c.from_residual-in_err-next.ensures.1 (too_deep _ _ _ _ _ _ (omega (arith, c.tokens-test.true)) brace c.in_err-next.ensures.value c.tokens.invariant.whole)

pub tokens-preserved-then-code-eq-OPEN_BRACE : goal.tokens-preserved-then-code-eq-OPEN_BRACE
tokens-preserved-then-code-eq-OPEN_BRACE c =
    let brace : nat_eq (sign_at c.args.tokens.now c.tokens.next) 123 ≡ true = grind arith in
    record {
      after = omega (arith, c.tokens.invariant.after, c.in_ok-next.ensures.within.0);
      within = omega (arith, c.in_ok-next.ensures.within.0, c.in_ok-next.ensures.within.1);
      few = omega (arith, c.in_ok-next.ensures.depth);
      whole = opens _ _ _ _ _ _ (omega (arith, c.tokens-test.true)) brace c.in_ok-next.ensures.value c.tokens.invariant.whole;
    }

pub returns-clause-found : goal.returns-clause-found
returns-clause-found c = ends _ _ _ _ _ (omega (arith, c.tokens-test.false)) c.tokens.invariant.whole

pub tokens-preserved-then-code-eq-CLOSE_BRACE : goal.tokens-preserved-then-code-eq-CLOSE_BRACE
tokens-preserved-then-code-eq-CLOSE_BRACE c =
    let brace : nat_eq (sign_at c.args.tokens.now c.tokens.next) 125 ≡ true = grind arith in
    let differs : c.tokens.next ≢ length c.args.tokens.now = c.if-next-tokens.false in
    record {
      after = omega (arith, c.tokens.invariant.after);
      within = omega (arith, c.tokens.invariant.within, differs);
      few = omega (arith, c.tokens.invariant.few);
      whole = closes _ _ _ _ _ (omega (arith, c.tokens-test.true)) brace c.tokens.invariant.whole;
    }

pub tokens-preserved : goal.tokens-preserved
tokens-preserved c =
    let no_brace : nat_eq (sign_at c.args.tokens.now c.tokens.next) 123 ≡ false = grind arith in
    let no_end : nat_eq (sign_at c.args.tokens.now c.tokens.next) 125 ≡ false = grind arith in
    let differs : c.tokens.next ≢ length c.args.tokens.now = c.if-next-tokens.false in
    record {
      after = omega (arith, c.tokens.invariant.after);
      within = omega (arith, c.tokens.invariant.within, differs);
      few = c.tokens.invariant.few;
      whole = further _ _ _ _ _ (omega (arith, c.tokens-test.true)) (omega (arith, c.tokens.invariant.within, differs)) no_brace no_end c.tokens.invariant.whole;
    }
