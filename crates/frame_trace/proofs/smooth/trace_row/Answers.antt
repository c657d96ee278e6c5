use Rattle.std.proofs.Common.{◌<◌, length, arith}
use Rattle.frame_trace.specs.Ready.{view_in}
use Rattle.frame_trace.proofs.Kept.{kept_more}
use Rattle.frame_trace.proofs.smooth.trace_row.Goals as goal

pub loop-k-preserved : goal.loop-k-preserved
loop-k-preserved g c =
    let within : c.loop-k.k < length c.loop-k.colours = omega arith in
    record {
      fits = c.plain-colour.ensures.fits;
      kept = kept_more (view_in g.W.World.surfaces c.args.t.now) c.args.span.now.from c.args.row c.loop-k.k c.loop-k.colours c.plain-colour.result within
          c.loop-k.invariant.kept (record { plain = c.plain-colour.ensures.plain; amounts = c.plain-colour.ensures.amounts });
    }
