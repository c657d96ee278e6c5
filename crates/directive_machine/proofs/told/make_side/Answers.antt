use Rattle.std.proofs.Common.{sym}
use Rattle.scene_expr.specs.Then.{IsThen}
use Rattle.directive_machine.proofs.Exit.{exit}
use Rattle.directive_machine.proofs.told.make_side.Goals as goal

pub returns-in_err-close-clause-fault : goal.returns-in_err-close-clause-fault
returns-in_err-close-clause-fault c = exit _ _ _ c.from_residual.ensures.1 (λ some. IsThen.fault _ (sym c.in_err-close.ensures.fault))

pub returns-in_err-next-clause-fault : goal.returns-in_err-next-clause-fault
returns-in_err-next-clause-fault c = exit _ _ _ c.from_residual-in_err-next.ensures.1 (λ some. IsThen.found _ _ (sym c.in_ok-close.ensures.ok) (c.in_err-next.ensures.fault some))

pub returns-clause-ok : goal.returns-clause-ok
returns-clause-ok c = IsThen.found _ _ (sym c.in_ok-close.ensures.ok) c.in_ok-next.ensures.ok
