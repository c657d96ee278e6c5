use Rattle.std.proofs.Common.{Some}
use Rattle.scene_expr.specs.Then.{IsThen}
use Rattle.directive_machine.proofs.Exit.{exit, passed}
use Rattle.directive_machine.proofs.told.pass_value.Goals as goal

pub returns-in_err-found-clause-fault : goal.returns-in_err-found-clause-fault
returns-in_err-found-clause-fault c = exit _ _ _ c.from_residual.ensures.1 (λ some. IsThen.fault _ (c.in_err-found.ensures.fault some))

pub returns-in_err-next-clause-fault : goal.returns-in_err-next-clause-fault
returns-in_err-next-clause-fault c = exit _ _ _ c.from_residual-in_err-next.ensures.1 (λ some. IsThen.found _ _ c.in_ok-found.ensures.value (passed c.args.source.now (Some c.args.home.now) c.args.part.now c.args.call.now c.args.part.now.then _ _ c.requires.pass (c.in_err-next.ensures.fault some)))

pub returns-clause-ok : goal.returns-clause-ok
returns-clause-ok c = IsThen.found _ _ c.in_ok-found.ensures.value (passed c.args.source.now (Some c.args.home.now) c.args.part.now c.args.call.now c.args.part.now.then _ _ c.requires.pass c.in_ok-next.ensures.ok)
