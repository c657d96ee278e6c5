-- What is changed from here on comes to the whole.
use Rattle.std.proofs.Common.{◌≡◌}
use Rattle.object_items.specs.Held.{from_on, flip_leaf}
use Rattle.object_items.proofs.tables.flip_leaves.Given as goal

abbrev pub invariant-leaves : goal.invariant-leaves
invariant-leaves l = from_on l.from flip_leaf l.initial.leaves ≡ from_on l.i flip_leaf l.leaves
