use Rattle.std.proofs.Common.{◌≤◌, IsPermutation, length}
use Rattle.slab_tree.proofs.arrange.halve.Given as goal

abbrev pub invariant-loop : goal.invariant-loop
invariant-loop l = record {
  moved : IsPermutation l.fn.run l.run;
  some : l.low ≤ l.high;
  within : l.high ≤ length l.run;
}
