use Rattle.std.proofs.Common.{◌≡◌, ◌≤◌, ◌-◌}
use Rattle.directive_machine.specs.Carried.{state_of}
use Rattle.directive_machine.specs.Passages.{IsPassage}
use Rattle.directive_machine.proofs.passage.take_all.Given as goal

abbrev pub invariant-tokens : goal.invariant-tokens
invariant-tokens l = record {
  passage : IsPassage l.source l.part l.at (state_of l.fn.machine) l.next (state_of l.machine);
  more : l.fn.machine.taken ≤ l.machine.taken;
  within : l.machine.taken ≤ 16777216;
  said : l.machine.messages.items ≡ l.fn.machine.messages.items;
}

abbrev pub decreases-tokens : goal.decreases-tokens
decreases-tokens l = l.part.end - l.next
