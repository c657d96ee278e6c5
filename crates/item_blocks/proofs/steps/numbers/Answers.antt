use Rattle.std.proofs.Common.{◌≡◌, ◌-◌, ◌+◌, suc, arith, ◌∙◌}
use Rattle.std.proofs.Math.ListN.{length-set}
use Rattle.item_blocks.specs.ReadingLaws.{exit}
use Rattle.item_blocks.proofs.Moves.{numbers_further, numbers_fault, numbers_undivided, numbers_all, numbers_end}
use Rattle.item_blocks.proofs.steps.numbers.Goals as goal

pub returns-in_err-number-clause-fault : goal.returns-in_err-number-clause-fault
returns-in_err-number-clause-fault c =
    let more : 12 - c.numbers.i ≡ suc (11 - c.numbers.i) = omega (arith, c.numbers-test.true) in
    exit _ _ _ c.from_residual.ensures.1 (λ some. c.numbers.invariant.whole _ (numbers_fault _ _ _ _ _ _ _ more (c.in_err-number.ensures.fault some)))

pub returns-in_err-next-clause-fault : goal.returns-in_err-next-clause-fault
returns-in_err-next-clause-fault c =
    let more : 12 - c.numbers.i ≡ suc (11 - c.numbers.i) = omega (arith, c.numbers-test.true) in
    exit _ _ _ c.from_residual-in_err-next.ensures.1 (λ some. c.numbers.invariant.whole _ (numbers_undivided _ _ _ _ _ _ _ _ _ more c.in_ok-number.ensures.found c.in_err-next.ensures.value))

pub numbers-preserved : goal.numbers-preserved
numbers-preserved c =
    let more : 12 - c.numbers.i ≡ suc (11 - c.numbers.i) = omega (arith, c.numbers-test.true) in
    let less : 12 - (c.numbers.i + 1) ≡ 11 - c.numbers.i = omega arith in
    record {
      after = omega (arith, c.numbers.invariant.after, c.in_ok-number.ensures.within.0, c.in_ok-next.ensures.within.0);
      within = c.in_ok-next.ensures.within.1;
      twelve = length-set c.numbers.v c.numbers.i _ ∙ c.numbers.invariant.twelve;
      whole = λ r rest. c.numbers.invariant.whole r (numbers_further _ _ _ _ _ _ _ _ _ r more c.in_ok-number.ensures.found c.in_ok-next.ensures.value (numbers_all _ _ _ _ _ _ _ _ r less (c.numbers-test.true) c.numbers.invariant.twelve rest));
    }

pub returns-clause-found : goal.returns-clause-found
returns-clause-found c =
    c.numbers.invariant.whole _ (numbers_end _ _ _ _ _ (omega (arith, c.numbers-test.false, c.numbers.auto.i-end)) c.numbers.invariant.twelve)
