-- What comes of the tokens from here on comes of the braces.
use Rattle.std.proofs.Common.{◌≤◌, ◌<◌, ◌-◌, length}
use Rattle.object_items.proofs.Skips.{Whole}
use Rattle.object_items.proofs.skip.skipped.Given as goal

abbrev pub invariant-tokens : goal.invariant-tokens
invariant-tokens l = record {
  after : l.at < l.next;
  within : l.next ≤ length l.tokens;
  few : l.left ≤ l.depths;
  whole : Whole l.tokens l.depths l.at l.left l.next;
}

abbrev pub decreases-tokens : goal.decreases-tokens
decreases-tokens l = length l.tokens - l.next
