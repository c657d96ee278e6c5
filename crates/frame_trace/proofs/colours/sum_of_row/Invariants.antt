use Rattle.std.proofs.Common.{◌*◌}
use Rattle.csg_hits.specs.Hits.{Fits}
use Rattle.frame_trace.specs.Pictures.{IsPart, IsSum}
use Rattle.frame_trace.specs.Ready.{view_in}
use Rattle.scene_model.specs.Amounts.{AreAmounts}
use Rattle.frame_trace.proofs.colours.sum_of_row.Given as goal

abbrev pub invariant-loop-j : goal.invariant-loop-j
invariant-loop-j g l = record {
  fits : Fits (g.W.World.surfaces l.t.world) l.s;
  sum : IsSum (λ j. IsPart (view_in g.W.World.surfaces l.t) l.n l.column l.row j l.k) l.j l.sum;
  amounts : AreAmounts (65536 * l.j) l.sum;
}
