use Rattle.std.proofs.Common.{◌≤◌, ◌-◌}
use Rattle.csg_hits.specs.Outlooks.{IsQuiet}
use Rattle.csg_hits.specs.Rows.{row_crossing}
use Rattle.csg_hits.specs.Sides.{leaf_sides}
use Rattle.csg_hits.proofs.search.first_of_leaf.Given as goal

abbrev pub invariant-loop-t : goal.invariant-loop-t
invariant-loop-t l = record { low : l.from ≤ l.t; passed : IsQuiet (λ t. (leaf_sides l.leaf (row_crossing l.row t)).strikes) l.from l.t }

abbrev pub decreases-loop-t : goal.decreases-loop-t
decreases-loop-t l = l.end - l.t
