use Rattle.std.proofs.Common.{refl}
use Rattle.frame_trace.specs.Pictures.{IsSmooth}
use Rattle.frame_trace.specs.Ready.{view_in}
use Rattle.frame_trace.proofs.Kept.{colour_some}
use Rattle.frame_trace.proofs.rectangles.colour.Goals as goal

pub returns-else-is_some-clause-colour : goal.returns-else-is_some-clause-colour
returns-else-is_some-clause-colour g c =
    colour_some c.args.t.now.format.antialias c.in-Some.antialias (view_in g.W.World.surfaces c.args.t.now) c.args.column c.args.row c.fine.result c.in-Some.is
    (IsSmooth.always c.fine.result (c.if-is_some.ensures.none refl) c.fine.ensures.fine)
