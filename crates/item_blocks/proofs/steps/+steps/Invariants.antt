-- What comes of the steps from here on comes of the braces.
use Rattle.std.proofs.Common.{◌≤◌, ◌<◌, ◌+◌, ◌-◌, ◌*◌, length}
use Rattle.item_blocks.proofs.Moves.{Whole}
use Rattle.item_blocks.proofs.steps.+steps.Given as goal

abbrev pub decreases-braces : goal.decreases-braces
decreases-braces l = l.depths * 2

abbrev pub decreases-moved : goal.decreases-moved
decreases-moved l = l.depths * 2 + 1

abbrev pub invariant-braces-steps : goal.invariant-braces-steps
invariant-braces-steps l = record {
  some : 0 < l.depths;
  after : l.at < l.next;
  within : l.next ≤ length l.tokens;
  whole : Whole l.tokens l.set l.depths l.fn.xforms l.at l.xforms l.next;
}

abbrev pub decreases-braces-steps : goal.decreases-braces-steps
decreases-braces-steps l = length l.tokens - l.next
