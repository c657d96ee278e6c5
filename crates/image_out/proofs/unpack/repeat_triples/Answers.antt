-- Once more.
use Rattle.std.proofs.Common.{sym}
use Rattle.image_out.proofs.ReadLemmas.{appended, repeat_more}
use Rattle.image_out.proofs.unpack.repeat_triples.Goals as goal

pub loop-time-preserved : goal.loop-time-preserved
loop-time-preserved c =
    repeat_more c.loop-time._time c.args.triples.now _ _ _ c.loop-time.invariant
    (appended c.extend_from_slice.result c.loop-time.out.items c.args.triples.now _ c.extend_from_slice.ensures.items (sym c.if-is_err.ensures.value))
