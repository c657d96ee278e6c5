use Rattle.std.proofs.Common.{sym}
use Rattle.scene_expr.specs.Then.{IsThen}
use Rattle.directive_machine.proofs.Exit.{exit}
use Rattle.directive_machine.proofs.told.value.Goals as goal

pub returns-in_err-close-clause-fault : goal.returns-in_err-close-clause-fault
returns-in_err-close-clause-fault c = exit _ _ _ c.from_residual.ensures.1 (λ some. IsThen.fault _ (sym c.in_err-close.ensures.fault))

pub returns-in_err-found-clause-fault : goal.returns-in_err-found-clause-fault
returns-in_err-found-clause-fault c = exit _ _ _ c.from_residual-in_err-found.ensures.1 (λ some. IsThen.found _ _ (sym c.in_ok-close.ensures.ok) (c.in_err-found.ensures.fault some))

pub returns-clause-value : goal.returns-clause-value
returns-clause-value c = IsThen.found _ _ (sym c.in_ok-close.ensures.ok) c.in_ok-found.ensures.value
