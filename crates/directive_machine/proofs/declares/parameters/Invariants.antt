use Rattle.std.proofs.Common.{◌≡◌, ◌≤◌, ◌+◌, ◌*◌}
use Rattle.directive_machine.specs.Declares.{parameters}
use Rattle.directive_machine.specs.Carried.{state_of}
use Rattle.directive_machine.proofs.declares.parameters.Given as goal

abbrev pub invariant-parameters : goal.invariant-parameters
invariant-parameters l =
    (parameters l.source l.end l.left l.count l.at (state_of l.machine) ≡ parameters l.source l.end l.end 0 l.first (state_of l.fn.machine))
    × (l.fn.machine.taken ≤ l.machine.taken) × (l.machine.taken ≤ 16777216) × (l.at ≤ l.first + 2 * l.count) × (l.count + l.left ≤ l.end) × (l.machine.messages.items ≡ l.fn.machine.messages.items)

abbrev pub decreases-parameters : goal.decreases-parameters
decreases-parameters l = l.left
