use Rattle.std.proofs.Common.{◌*◌, ◌/◌, refl, ◌∙◌, arith}
use Rattle.frame_trace.specs.Pictures.{IsPixel, samples}
use Rattle.frame_trace.specs.Ready.{view_in}
use Rattle.frame_trace.proofs.Drawn.{none_drawn, more_drawn, all_drawn, more_bytes}
use Rattle.frame_trace.proofs.rectangles.put_row.Goals as goal

pub loop-k-init : goal.loop-k-init
loop-k-init g c = record {
  fits = c.requires.fits;
  drawn = none_drawn (λ column. IsPixel (view_in g.W.World.surfaces c.args.t.now) column c.args.row) c.args.part.now.x c.args.out.now.items;
  long = omega arith;
  capacity = refl;
}

pub colour-colour-requires-clause-amid : goal.colour-colour-requires-clause-amid
colour-colour-requires-clause-amid g c = c.requires.span.amid c.loop-k.k c.loop-k-test.true

pub loop-k-preserved : goal.loop-k-preserved
loop-k-preserved g c = record {
  fits = c.colour-colour.ensures.fits;
  drawn = more_drawn (λ column. IsPixel (view_in g.W.World.surfaces c.args.t.now) column c.args.row) c.args.part.now.x c.loop-k.k c.args.out.now.items c.loop-k.out.items c.put.new.out.items
      c.loop-k.invariant.drawn
      (record {
        bytes = samples c.args.t.now.format.bits c.colour-colour.result;
        are = record { colour = c.colour-colour.result; shown = c.colour-colour.ensures.colour; are = refl };
        added = c.put.ensures.items;
      });
  long = omega (arith, more_bytes (3 * (c.args.t.now.format.bits / 8)) c.loop-k.k);
  capacity = c.put.ensures.capacity ∙ c.loop-k.invariant.capacity;
}

pub returns-clause-drawn : goal.returns-clause-drawn
returns-clause-drawn g c =
    all_drawn (λ column. IsPixel (view_in g.W.World.surfaces c.args.t.now) column c.args.row) c.args.part.now.x c.loop-k.k c.args.part.now.width c.args.out.now.items c.loop-k.out.items
    (omega arith) (omega arith) c.loop-k.invariant.drawn
