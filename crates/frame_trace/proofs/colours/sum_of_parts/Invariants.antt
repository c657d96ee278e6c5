use Rattle.std.proofs.Common.{◌*◌}
use Rattle.csg_hits.specs.Hits.{Fits}
use Rattle.frame_trace.specs.Pictures.{IsPart, IsSum}
use Rattle.frame_trace.specs.Ready.{view_in}
use Rattle.scene_model.specs.Amounts.{AreAmounts}
use Rattle.frame_trace.proofs.colours.sum_of_parts.Given as goal

abbrev pub invariant-loop-k : goal.invariant-loop-k
invariant-loop-k g l = record {
  fits : Fits (g.W.World.surfaces l.t.world) l.s;
  sum : IsSum (λ k. IsSum (λ j. IsPart (view_in g.W.World.surfaces l.t) l.n l.column l.row j k) l.n) l.k l.sum;
  amounts : AreAmounts (65536 * l.n * l.k) l.sum;
}
