use Rattle.std.proofs.Common.{refl, sym}
use Rattle.scene_expr.specs.Then.{IsThen}
use Rattle.directive_machine.specs.Carried.{state_of}
use Rattle.directive_machine.proofs.Exit.{exit}
use Rattle.directive_machine.proofs.include.ask.Goals as goal

pub returns-in_err-found-clause-fault : goal.returns-in_err-found-clause-fault
returns-in_err-found-clause-fault c = exit _ _ _ c.from_residual.ensures.1 (λ some. IsThen.fault _ (c.in_err-found.ensures.fault some))

pub returns-in_err-name-clause-fault : goal.returns-in_err-name-clause-fault
returns-in_err-name-clause-fault c = exit _ _ _ c.from_residual-in_err-name.ensures.1 (λ some. IsThen.found _ _ c.in_ok-found.ensures.value (IsThen.fault _ (sym (c.in_err-name.ensures.fault (state_of c.value.new.machine)))))

pub returns-clause-name : goal.returns-clause-name
returns-clause-name c = IsThen.found _ _ c.in_ok-found.ensures.value (IsThen.found _ _ (sym (c.in_ok-name.ensures.ok (state_of c.value.new.machine))) refl)
