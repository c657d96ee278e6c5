-- What is changed from here on comes to the whole.
use Rattle.std.proofs.Common.{◌≡◌}
use Rattle.object_items.specs.Held.{from_on, fill_leaf}
use Rattle.object_items.proofs.tables.fill_leaves.Given as goal

abbrev pub invariant-leaves : goal.invariant-leaves
invariant-leaves l = from_on l.from (fill_leaf l.interior) l.initial.leaves ≡ from_on l.i (fill_leaf l.interior) l.leaves
