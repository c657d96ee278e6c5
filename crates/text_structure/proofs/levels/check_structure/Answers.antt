use Rattle.std.proofs.Common.{arith}
use Rattle.text_structure.proofs.Nests.{exit, goes_on, strays}
use Rattle.text_structure.proofs.levels.check_structure.Goals as goal

pub tokens-preserved : goal.tokens-preserved
tokens-preserved c =
    (goes_on _ _ _ _ _ c.tokens-test.true c.directive_at.ensures.value c.in_ok-step.ensures.ok c.tokens.invariant.0, omega (arith, c.tokens-test.true))

pub returns-in_err-step-clause-fault : goal.returns-in_err-step-clause-fault
returns-in_err-step-clause-fault c =
    exit _ _ _ c.from_residual.ensures.1 (λ some. strays _ _ _ _ _ c.tokens-test.true c.directive_at.ensures.value (c.in_err-step.ensures.fault some).0 (c.in_err-step.ensures.fault some).1 c.tokens.invariant.0)
