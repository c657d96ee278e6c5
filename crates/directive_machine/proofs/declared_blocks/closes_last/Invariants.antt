use Rattle.std.proofs.Common.{◌≡◌, ◌≤◌, ◌-◌, length, drop}
use Rattle.directive_machine.specs.Holds.{closes_last}
use Rattle.directive_machine.proofs.declared_blocks.closes_last.Given as goal

abbrev pub invariant-tokens : goal.invariant-tokens
invariant-tokens l = (closes_last l.depth (drop l.at l.tokens) ≡ closes_last 0 l.tokens) × (l.at ≤ length l.tokens) × (l.depth ≤ l.at)

abbrev pub decreases-tokens : goal.decreases-tokens
decreases-tokens l = length l.tokens - l.at
