use Rattle.std.proofs.Common.{◌≡◌, length, nat_eq, true, false, arith}
use Rattle.scene_expr.specs.Then.{IsThen}
use Rattle.directive_machine.proofs.Exit.{exit}
use Rattle.directive_machine.proofs.Evaluates.{whole_value, whole_fault}
use Rattle.directive_machine.proofs.made.whole.Goals as goal

pub returns-in_err-value-clause-fault : goal.returns-in_err-value-clause-fault
returns-in_err-value-clause-fault c = exit _ _ _ c.from_residual.ensures.1 (λ some. IsThen.fault _ (c.in_err-value.ensures.fault some))

pub returns-then-next-list-clause-value : goal.returns-then-next-list-clause-value
returns-then-next-list-clause-value c =
    let there : nat_eq c.in_ok-value.next (length c.args.list.now) ≡ true = grind (arith, c.if-next-list.true) in
    IsThen.found _ _ c.in_ok-value.ensures.found (whole_value _ _ _ there)

pub returns-else-next-list-clause-fault : goal.returns-else-next-list-clause-fault
returns-else-next-list-clause-fault c =
    let there : nat_eq c.in_ok-value.next (length c.args.list.now) ≡ false = grind (arith, c.if-next-list.false) in
    (λ some. IsThen.found _ _ c.in_ok-value.ensures.found (whole_fault _ _ _ _ c.place_at.ensures there))
