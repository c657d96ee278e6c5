use Rattle.std.proofs.Common.{◌≡◌, ◌≤◌, ◌-◌, length, drop, []}
use Rattle.text_structure.specs.Levels.{left_open}
use Rattle.text_structure.proofs.levels.check_structure.Given as goal

abbrev pub invariant-tokens : goal.invariant-tokens
invariant-tokens l = (left_open (drop l.at l.marks) l.at l.levels.items ≡ left_open l.marks 0 []) × (l.at ≤ length l.marks)

abbrev pub decreases-tokens : goal.decreases-tokens
decreases-tokens l = length l.marks - l.at
