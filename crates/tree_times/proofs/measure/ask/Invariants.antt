use Rattle.csg_hits.specs.Hits.{Fits}
use Rattle.tree_times.proofs.measure.ask.Given as goal

abbrev pub invariant-loop-row : goal.invariant-loop-row
invariant-loop-row g l = Fits (g.W.World.surfaces l.world) l.scratch

abbrev pub invariant-loop-column : goal.invariant-loop-column
invariant-loop-column g l = Fits (g.W.World.surfaces l.world) l.scratch
