-- The rows so far.
use Rattle.image_out.proofs.ReadLemmas.{RowsRead}
use Rattle.image_out.proofs.unpack.read_rle.Given as goal

abbrev pub invariant-loop-row : goal.invariant-loop-row
invariant-loop-row l = RowsRead l.width l._row l.bytes l.rest l.out.items
