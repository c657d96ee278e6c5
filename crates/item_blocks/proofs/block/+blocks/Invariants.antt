-- What comes of the statements from here on comes of the block.
use Rattle.std.proofs.Common.{◌≤◌, ◌<◌, ◌+◌, ◌-◌, ◌*◌, length}
use Rattle.item_blocks.proofs.Blocks.{Whole}
use Rattle.item_blocks.proofs.block.+blocks.Given as goal

abbrev pub decreases-braced : goal.decreases-braced
decreases-braced g l = l.depths * 2 + 1

abbrev pub decreases-led : goal.decreases-led
decreases-led g l = l.depths * 2

abbrev pub invariant-braced-statements : goal.invariant-braced-statements
invariant-braced-statements g l = record {
  some : 0 < l.depths;
  after : l.at < l.next;
  within : l.next ≤ length l.tokens;
  whole : Whole (g.B.Block.kind l.tokens l.set) l.tokens l.depths l.fn.block l.at l.block l.next;
}

abbrev pub decreases-braced-statements : goal.decreases-braced-statements
decreases-braced-statements g l = length l.tokens - l.next
