use Rattle.std.proofs.Common.{◌-◌, ◌≤◌, IsPermutation, length}
use Rattle.slab_tree.proofs.arrange.split.Given as goal

abbrev pub invariant-loop-i : goal.invariant-loop-i
invariant-loop-i l = record {
  moved : IsPermutation l.fn.run l.run;
  low : l.low ≤ l.less;
  behind : l.less ≤ l.i;
  before : l.i ≤ l.more;
  high : l.more ≤ l.high;
  within : l.high ≤ length l.run;
}

abbrev pub decreases-loop-i : goal.decreases-loop-i
decreases-loop-i l = l.more - l.i
