use Rattle.std.proofs.Common.{◌≡◌, ◌≤◌, ◌+◌, ◌*◌, length}
use Rattle.text_structure.specs.Tables.{IsTable}
use Rattle.text_structure.proofs.ends.fill.Given as goal

abbrev pub invariant-rows : goal.invariant-rows
invariant-rows l = (l.left ≤ length l.marks + 1) × (length l.table ≡ (length l.marks + 1) * 10) × IsTable l.marks (l.left * 10) l.table

abbrev pub decreases-rows : goal.decreases-rows
decreases-rows l = l.left
