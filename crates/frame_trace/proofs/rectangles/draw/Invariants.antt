use Rattle.std.proofs.Common.{◌≡◌, ◌+◌, ◌*◌, ◌/◌, vec_len, vec_capacity}
use Rattle.csg_hits.specs.Hits.{Fits}
use Rattle.frame_trace.specs.Pictures.{IsPixel, IsRow}
use Rattle.frame_trace.specs.Ready.{view_in, Adds, Compares, HasRoom, StandsAt}
use Rattle.frame_trace.proofs.rectangles.draw.Given as goal

abbrev pub invariant-loop-k : goal.invariant-loop-k
invariant-loop-k g l = record {
  fits : Fits (g.W.World.surfaces l.t.world) l.work.scratch;
  room : HasRoom l.work.rows (l.part.width + 2);
  stands : Compares l.t.format.antialias → StandsAt (view_in g.W.World.surfaces l.t) l.span (l.y + l.k) l.work.rows;
  drawn : Adds (IsRow (λ row. IsRow (λ column. IsPixel (view_in g.W.World.surfaces l.t) column row) l.part.x l.part.width) l.y l.k) l.initial.out.items l.out.items;
  long : vec_len l.out ≡ vec_len l.initial.out + 3 * (l.t.format.bits / 8) * l.part.width * l.k;
  capacity : vec_capacity l.out ≡ vec_capacity l.initial.out;
}
