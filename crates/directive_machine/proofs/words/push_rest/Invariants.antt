use Rattle.std.proofs.Common.{◌≡◌, ◌++◌, drop}
use Rattle.directive_machine.specs.Words.{rest_of_row}
use Rattle.directive_machine.proofs.words.push_rest.Given as goal

abbrev pub invariant-loop-value : goal.invariant-loop-value
invariant-loop-value l = l.row.items ++ rest_of_row l.token (drop l.value-index l.values) ≡ l.fn.row.items ++ rest_of_row l.token l.values
