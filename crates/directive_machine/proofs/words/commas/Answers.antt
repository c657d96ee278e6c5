use Rattle.std.proofs.Common.{◌≡◌, nat_lt, true, arith}
use Rattle.directive_machine.proofs.Commas.{commas_step}
use Rattle.directive_machine.proofs.words.commas.Goals as goal

pub commas-preserved : goal.commas-preserved
commas-preserved c =
    let there : nat_lt c.end-comma.result c.args.close ≡ true = grind (arith, c.if-comma-close.false) in
    (commas_step c.args.source.now c.args.close _ _ _ _ _ c.commas-test.true c.end-comma.ensures.value there c.commas.invariant.0, omega (arith, c.end-comma.ensures.small), omega (arith, c.commas.invariant.2, c.commas-test.true))
