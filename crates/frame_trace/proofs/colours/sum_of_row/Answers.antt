use Rattle.std.proofs.Common.{◌*◌, ◌+◌, arith}
use Rattle.frame_trace.proofs.Sums.{sum_starts, sum_grows, sum_ends, both_amounts}
use Rattle.frame_trace.proofs.colours.sum_of_row.Goals as goal

pub loop-j-init : goal.loop-j-init
loop-j-init g c = record {
  fits = c.requires.fits;
  sum = sum_starts _ c.black-sum.result c.black-sum.ensures.value;
  amounts = c.black-sum.ensures.amounts;
}

pub loop-j-preserved : goal.loop-j-preserved
loop-j-preserved g c = record {
  fits = c.part-part.ensures.fits;
  sum = sum_grows _ c.loop-j.j c.loop-j.sum c.part-part.result c.both-sum.result c.loop-j.invariant.sum c.part-part.ensures.part c.both-sum.ensures;
  amounts = both_amounts (65536 * c.loop-j.j) 65536 (65536 * (c.loop-j.j + 1)) c.loop-j.sum c.part-part.result c.both-sum.result
      c.loop-j.invariant.amounts c.part-part.ensures.amounts (omega arith) c.both-sum.ensures;
}

pub returns-clause-sum : goal.returns-clause-sum
returns-clause-sum g c = sum_ends _ c.loop-j.j c.args.n c.loop-j.sum (omega arith) (omega arith) c.loop-j.invariant.sum
