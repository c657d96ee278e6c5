use Rattle.std.proofs.Common.{◌≡◌, ◌≤◌, ◌+◌, ◌*◌, length}
use Rattle.text_structure.specs.Tables.{IsTable}
use Rattle.text_structure.proofs.ends.open_row.Given as goal

abbrev pub invariant-kinds : goal.invariant-kinds
invariant-kinds l = (l.left ≤ 10) × (length l.table ≡ (length l.marks + 1) * 10) × IsTable l.marks (l.at * 10 + l.left) l.table

abbrev pub decreases-kinds : goal.decreases-kinds
decreases-kinds l = l.left
