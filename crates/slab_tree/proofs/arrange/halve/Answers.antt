use Rattle.std.proofs.Common.{arith}
use Rattle.std.proofs.lemmas.List.Sorted.{IsPermutation-trans}
use Rattle.slab_tree.proofs.arrange.halve.Goals.{then-place-less, else-place-less+then-place-more}
use Rattle.slab_tree.proofs.arrange.halve.Goals as goal

pub returns-else-place-more : goal.returns-else-place-more
returns-else-place-more c = IsPermutation-trans c.args.run.now c.loop.run c.split-less.new.run c.loop.invariant.moved c.split-less.ensures.permutation

pub loop-preserved : goal.loop-preserved
loop-preserved c = let v = c.loop.invariant in let e = c.split-less.ensures in record {
  moved = IsPermutation-trans c.args.run.now c.loop.run c.split-less.new.run v.moved e.permutation;
  some = elim c.if-place-less.branch [
    | then-place-less w ↦ omega (arith, w.low-is, w.high-is, e.less.0)
    | else-place-less+then-place-more w ↦ omega (arith, w.low-is, w.high-is, e.more.1)
  ];
  within = elim c.if-place-less.branch [
    | then-place-less w ↦ omega (arith, w.low-is, w.high-is, e.less.1, e.len, v.within)
    | else-place-less+then-place-more w ↦ omega (arith, w.low-is, w.high-is, e.len, v.within)
  ];
}
