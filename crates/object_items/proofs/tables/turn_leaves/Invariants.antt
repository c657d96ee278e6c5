-- What is changed from here on comes to the whole.
use Rattle.std.proofs.Common.{◌≡◌}
use Rattle.object_items.specs.Held.{from_on, turn_leaf}
use Rattle.object_items.proofs.tables.turn_leaves.Given as goal

abbrev pub invariant-leaves : goal.invariant-leaves
invariant-leaves l = from_on l.from turn_leaf l.initial.leaves ≡ from_on l.i turn_leaf l.leaves
