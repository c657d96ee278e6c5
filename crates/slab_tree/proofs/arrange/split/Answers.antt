use Rattle.std.proofs.Common.{arith}
use Rattle.std.proofs.lemmas.List.Sorted.{IsPermutation-trans}
use Rattle.slab_tree.proofs.arrange.split.Goals as goal

pub loop-i-preserved-then-at-pivot : goal.loop-i-preserved-then-at-pivot
loop-i-preserved-then-at-pivot c = let v = c.loop-i.invariant in record {
  moved = IsPermutation-trans c.args.run.now c.loop-i.run c.swap.new.self v.moved c.swap.ensures.permutation;
  low = omega (arith, v.low);
  behind = omega (arith, v.behind);
  before = omega (arith, c.loop-i-test.true);
  high = v.high;
  within = omega (arith, v.within, c.swap.ensures.len);
}

pub loop-i-preserved-then-at-pivot-2 : goal.loop-i-preserved-then-at-pivot-2
loop-i-preserved-then-at-pivot-2 c = let v = c.loop-i.invariant in record {
  moved = IsPermutation-trans c.args.run.now c.loop-i.run c.swap-then-at-pivot-2.new.self v.moved c.swap-then-at-pivot-2.ensures.permutation;
  low = v.low;
  behind = v.behind;
  before = omega (arith, c.loop-i-test.true);
  high = omega (arith, v.high);
  within = omega (arith, v.within, c.swap-then-at-pivot-2.ensures.len);
}
