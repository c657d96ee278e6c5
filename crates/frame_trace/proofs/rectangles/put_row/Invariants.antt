use Rattle.std.proofs.Common.{◌≡◌, ◌+◌, ◌*◌, ◌/◌, vec_len, vec_capacity}
use Rattle.csg_hits.specs.Hits.{Fits}
use Rattle.frame_trace.specs.Pictures.{IsPixel, IsRow}
use Rattle.frame_trace.specs.Ready.{view_in, Adds}
use Rattle.frame_trace.proofs.rectangles.put_row.Given as goal

abbrev pub invariant-loop-k : goal.invariant-loop-k
invariant-loop-k g l = record {
  fits : Fits (g.W.World.surfaces l.t.world) l.s;
  drawn : Adds (IsRow (λ column. IsPixel (view_in g.W.World.surfaces l.t) column l.row) l.x l.k) l.initial.out.items l.out.items;
  long : vec_len l.out ≡ vec_len l.initial.out + 3 * (l.t.format.bits / 8) * l.k;
  capacity : vec_capacity l.out ≡ vec_capacity l.initial.out;
}
