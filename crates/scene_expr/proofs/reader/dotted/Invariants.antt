use Rattle.std.proofs.Common.{◌≤◌, ◌-◌, length}
use Rattle.scene_expr.specs.Grammar.{Outcome, IsDotted}
use Rattle.scene_expr.specs.Steps.{read}
use Rattle.scene_expr.proofs.reader.dotted.Given as goal

abbrev pub invariant-dots : goal.invariant-dots
invariant-dots l =
    ((r : Outcome) → IsDotted l.tokens (read l.value l.next) r → IsDotted l.tokens (read l.fn.value l.fn.at) r)
    × (l.fn.at ≤ l.next) × (l.next ≤ length l.tokens)

abbrev pub decreases-dots : goal.decreases-dots
decreases-dots l = length l.tokens - l.next
