-- What is changed from here on comes to the whole.
use Rattle.std.proofs.Common.{◌≡◌}
use Rattle.object_items.specs.Held.{from_on, clad_leaf}
use Rattle.object_items.proofs.tables.clad_leaves.Given as goal

abbrev pub invariant-leaves : goal.invariant-leaves
invariant-leaves l = from_on l.from (clad_leaf l.number) l.initial.leaves ≡ from_on l.i (clad_leaf l.number) l.leaves
