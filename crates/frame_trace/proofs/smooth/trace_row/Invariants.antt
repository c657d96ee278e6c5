use Rattle.std.proofs.Common.{ℕ, ◌+◌, ◌<◌}
use Rattle.csg_hits.specs.Hits.{Fits}
use Rattle.fix_math.specs.Matrices.{row_at}
use Rattle.frame_trace.specs.Ready.{view_in, IsKept}
use Rattle.frame_trace.proofs.smooth.trace_row.Given as goal

abbrev pub invariant-loop-k : goal.invariant-loop-k
invariant-loop-k g l = record {
  fits : Fits (g.W.World.surfaces l.t.world) l.s;
  kept : (k : ℕ) → k < l.k → IsKept (view_in g.W.World.surfaces l.t) (l.from + k) l.row (row_at l.colours k);
}
