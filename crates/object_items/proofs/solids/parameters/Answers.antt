use Rattle.std.proofs.Common.{◌≡◌, ◌+◌, ap, length}
use Rattle.scene_expr.specs.Then.{IsThen}
use Rattle.item_blocks.specs.ReadingLaws.{exit}
use Rattle.object_items.specs.Held.{leaf_number}
use Rattle.object_items.proofs.Wholes.{counted_same, sum_same}
use Rattle.object_items.proofs.solids.parameters.Goals as goal

pub returns-in_err-brace-clause-fault : goal.returns-in_err-brace-clause-fault
returns-in_err-brace-clause-fault c =
    let number : c.leaves_before-before.result + length c.leaves.result.now ≡ leaf_number c.args.tables.now = sum_same _ _ _ _ c.leaves_before-before.ensures (ap length c.leaves.ensures) in
    exit _ _ _ c.from_residual.ensures.1 (λ some. IsThen.fault _ (counted_same _ _ _ _ _ _ _ number c.in_err-brace.ensures.value))

pub returns-in_err-start-clause-fault : goal.returns-in_err-start-clause-fault
returns-in_err-start-clause-fault c =
    let number : c.leaves_before-before.result + length c.leaves.result.now ≡ leaf_number c.args.tables.now = sum_same _ _ _ _ c.leaves_before-before.ensures (ap length c.leaves.ensures) in
    exit _ _ _ c.from_residual-in_err-start.ensures.1 (λ some. IsThen.found _ _ (counted_same _ _ _ _ _ _ _ number c.in_ok-brace.ensures.value) (IsThen.fault _ c.in_err-start.ensures.value))

pub returns-in_err-solid-clause-fault : goal.returns-in_err-solid-clause-fault
returns-in_err-solid-clause-fault c =
    let number : c.leaves_before-before.result + length c.leaves.result.now ≡ leaf_number c.args.tables.now = sum_same _ _ _ _ c.leaves_before-before.ensures (ap length c.leaves.ensures) in
    exit _ _ _ c.from_residual-in_err-solid.ensures.1 (λ some. IsThen.found _ _ (counted_same _ _ _ _ _ _ _ number c.in_ok-brace.ensures.value) (IsThen.found _ _ c.in_ok-start.ensures.value (c.in_err-solid.ensures.fault some)))

pub returns-clause-found : goal.returns-clause-found
returns-clause-found c =
    let number : c.leaves_before-before.result + length c.leaves.result.now ≡ leaf_number c.args.tables.now = sum_same _ _ _ _ c.leaves_before-before.ensures (ap length c.leaves.ensures) in
    IsThen.found _ _ (counted_same _ _ _ _ _ _ _ number c.in_ok-brace.ensures.value) (IsThen.found _ _ c.in_ok-start.ensures.value c.in_ok-solid.ensures.found)
