use Rattle.csg_hits.specs.Hits.{Fits}
use Rattle.tree_rows.proofs.asked.hits.Given as goal

abbrev pub invariant-loop : goal.invariant-loop
invariant-loop g l = Fits (g.W.World.surfaces l.world) l.scratch
