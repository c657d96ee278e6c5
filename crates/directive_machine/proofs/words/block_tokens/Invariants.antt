use Rattle.std.proofs.Common.{◌≡◌, map, take}
use Rattle.directive_machine.specs.Words.{placed}
use Rattle.directive_machine.proofs.words.block_tokens.Given as goal

abbrev pub invariant-loop-other : goal.invariant-loop-other
invariant-loop-other l = l.row.items ≡ map (placed l.token) (take l.other-index l.block)
