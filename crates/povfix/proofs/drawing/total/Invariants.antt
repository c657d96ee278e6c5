-- The sum of the bytes so far.
use Rattle.std.proofs.Common.{◌≡◌, ◌≤◌, ◌*◌, sum, take}
use Rattle.povfix.proofs.drawing.total.Given as goal

abbrev pub invariant-loop-byte : goal.invariant-loop-byte
invariant-loop-byte l = record {
  value : l.total ≡ sum (take l.byte-index l.picture);
  small : l.total ≤ 255 * l.byte-index;
}
