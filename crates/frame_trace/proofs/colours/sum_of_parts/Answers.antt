use Rattle.std.proofs.Common.{◌*◌, ◌+◌, arith}
use Rattle.frame_trace.proofs.Sums.{sum_starts, sum_grows, sum_ends, both_amounts, same_amounts}
use Rattle.frame_trace.proofs.colours.sum_of_parts.Goals as goal

pub loop-k-init : goal.loop-k-init
loop-k-init g c = record {
  fits = c.requires.fits;
  sum = sum_starts _ c.black-sum.result c.black-sum.ensures.value;
  amounts = same_amounts 0 (65536 * c.args.n * 0) c.black-sum.result (omega arith) c.black-sum.ensures.amounts;
}

pub loop-k-preserved : goal.loop-k-preserved
loop-k-preserved g c = record {
  fits = c.sum_of_row-parts.ensures.fits;
  sum = sum_grows _ c.loop-k.k c.loop-k.sum c.sum_of_row-parts.result c.both-sum.result c.loop-k.invariant.sum c.sum_of_row-parts.ensures.sum c.both-sum.ensures;
  amounts = both_amounts (65536 * c.args.n * c.loop-k.k) (65536 * c.args.n) (65536 * c.args.n * (c.loop-k.k + 1)) c.loop-k.sum c.sum_of_row-parts.result c.both-sum.result
      c.loop-k.invariant.amounts c.sum_of_row-parts.ensures.amounts (omega arith) c.both-sum.ensures;
}

pub returns-clause-sum : goal.returns-clause-sum
returns-clause-sum g c = sum_ends _ c.loop-k.k c.args.n c.loop-k.sum (omega arith) (omega arith) c.loop-k.invariant.sum
