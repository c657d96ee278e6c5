-- Reading ends: a call within the recursion has fewer depths, or a lower level.
use Rattle.std.proofs.Common.{◌≤◌, ◌-◌, ◌+◌, ◌*◌, suc, length, drop, [], Result}
use Rattle.scene_expr.specs.Colours.{black}
use Rattle.scene_expr.specs.declared.value.ExprFault.{ExprFault}
use Rattle.scene_expr.specs.Grammar.{Outcome, Row, inner, inner_of, IsRow, IsChannels}
use Rattle.scene_expr.specs.Grammar.Inner.{Sum}
use Rattle.scene_expr.specs.Steps.{read}
use Rattle.scene_expr.proofs.Levels.{tiers_of, Behind}
use Rattle.scene_expr.proofs.Needs.{commas}
use Rattle.scene_expr.proofs.reader.+levels.Given as goal

abbrev pub decreases-bare : goal.decreases-bare
decreases-bare l = l.depths * 16 + 2

abbrev pub decreases-factor : goal.decreases-factor
decreases-factor l = l.depths * 16 + 3

abbrev pub decreases-level : goal.decreases-level
decreases-level l = l.depths * 16 + 4 + l.tiers

abbrev pub decreases-choice : goal.decreases-choice
decreases-choice l = l.depths * 16 + 9

abbrev pub decreases-part : goal.decreases-part
decreases-part l = l.depths * 16 + 10

abbrev pub decreases-branched : goal.decreases-branched
decreases-branched l = l.depths * 16 + 11

abbrev pub decreases-row : goal.decreases-row
decreases-row l = l.depths * 16 + 12

abbrev pub decreases-marked_at : goal.decreases-marked_at
decreases-marked_at l = l.depths * 16 + 13

abbrev pub decreases-bracketed : goal.decreases-bracketed
decreases-bracketed l = l.depths * 16 + 13

abbrev pub decreases-numbers : goal.decreases-numbers
decreases-numbers l = l.depths * 16 + 13

abbrev pub decreases-grouped_at : goal.decreases-grouped_at
decreases-grouped_at l = l.depths * 16 + 14

abbrev pub decreases-arguments : goal.decreases-arguments
decreases-arguments l = l.depths * 16 + 13

abbrev pub decreases-called_at : goal.decreases-called_at
decreases-called_at l = l.depths * 16 + 14

abbrev pub decreases-channels : goal.decreases-channels
decreases-channels l = l.depths * 16 + 13

abbrev pub decreases-opened : goal.decreases-opened
decreases-opened l = l.depths * 16 + 15

abbrev pub invariant-level-operators : goal.invariant-level-operators
invariant-level-operators l =
    ((r : Outcome) → Behind l.tokens (tiers_of l.tokens l.set l.depths) l.tier (l.tiers - l.tier) (read l.value l.next) r → tiers_of l.tokens l.set l.depths l.tiers l.fn.at r)
    × (l.fn.at ≤ l.next) × (l.next ≤ length l.tokens) × (l.tier ≤ l.tiers)

abbrev pub decreases-level-operators : goal.decreases-level-operators
decreases-level-operators l = (length l.tokens - l.next) * 8 + (l.tiers - l.tier)

abbrev pub invariant-row-parts : goal.invariant-row-parts
invariant-row-parts l =
    ((r : Result Row ExprFault) → IsRow l.tokens (inner l.tokens l.set (suc l.depths) (inner_of l.level)) l.arity l.values.items l.next r → IsRow l.tokens (inner l.tokens l.set (suc l.depths) (inner_of l.level)) l.arity [] l.fn.at r)
    × (l.fn.at ≤ l.next) × (l.next ≤ length l.tokens)
    × (length l.values.items + commas (drop l.next l.tokens) ≤ commas (drop l.fn.at l.tokens)) × (5 ≤ l.values.capacity)

abbrev pub decreases-row-parts : goal.decreases-row-parts
decreases-row-parts l = length l.tokens - l.next

abbrev pub invariant-channels-numbers : goal.invariant-channels-numbers
invariant-channels-numbers l =
    ((r : Outcome) → IsChannels l.tokens (inner l.tokens l.set (suc l.depths) Sum) l.colour l.next r → IsChannels l.tokens (inner l.tokens l.set (suc l.depths) Sum) black l.fn.at r)
    × (l.fn.at ≤ l.next) × (l.next ≤ length l.tokens)

abbrev pub decreases-channels-numbers : goal.decreases-channels-numbers
decreases-channels-numbers l = length l.tokens - l.next
