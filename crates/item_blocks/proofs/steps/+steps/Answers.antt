use Rattle.std.proofs.Common.{◌≡◌, true, false, arith}
use Rattle.std.specs.Prelude.{nat_eq}
use Rattle.scene_expr.specs.Heads.{sign_at}
use Rattle.scene_expr.specs.Then.{IsThen}
use Rattle.item_blocks.specs.Blocks.{IsStatements}
use Rattle.item_blocks.specs.ReadingLaws.{exit}
use Rattle.item_blocks.proofs.Moves.{inside_is}
use Rattle.item_blocks.proofs.steps.+steps.Goals as goal

pub braces-returns-in_err-start-clause-fault : goal.braces-returns-in_err-start-clause-fault
braces-returns-in_err-start-clause-fault t c = exit _ _ _ c.from_residual.ensures.1 (λ some. IsThen.fault _ c.in_err-start.ensures.value)

pub braces-steps-init : goal.braces-steps-init
braces-steps-init t c = record {
  some = c.in_ok-start.ensures.depth;
  after = omega (arith, c.in_ok-start.ensures.within.0);
  within = omega (arith, c.in_ok-start.ensures.within.0, c.in_ok-start.ensures.within.1);
  whole = λ r rest. IsThen.found _ r c.in_ok-start.ensures.value rest;
}

pub braces-returns-in_err-next-clause-fault : goal.braces-returns-in_err-next-clause-fault
braces-returns-in_err-next-clause-fault t c =
    let more : nat_eq (sign_at c.args.tokens.now c.steps.next) 125 ≡ false = grind arith in
    exit _ _ _ c.from_residual-in_err-next.ensures.1 (λ some. c.steps.invariant.whole _ (IsStatements.fault _ _ _ more (inside_is _ _ _ _ _ _ c.steps.invariant.some (c.in_err-next.ensures.fault some))))

pub braces-steps-preserved : goal.braces-steps-preserved
braces-steps-preserved t c =
    let more : nat_eq (sign_at c.args.tokens.now c.steps.next) 125 ≡ false = grind arith in
    record {
      some = c.steps.invariant.some;
      after = omega (arith, c.steps.invariant.after, c.in_ok-next.ensures.within.0);
      within = c.in_ok-next.ensures.within.1;
      whole = λ r rest. c.steps.invariant.whole r (IsStatements.further _ _ _ r more (inside_is _ _ _ _ _ _ c.steps.invariant.some c.in_ok-next.ensures.found) rest);
    }

pub braces-returns-clause-found : goal.braces-returns-clause-found
braces-returns-clause-found t c =
    let shut : nat_eq (sign_at c.args.tokens.now c.steps.next) 125 ≡ true = grind arith in
    c.steps.invariant.whole _ (IsStatements.ends _ _ shut)
