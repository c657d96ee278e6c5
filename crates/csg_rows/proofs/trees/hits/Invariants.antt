use Rattle.csg_hits.specs.Hits.{Fits}
use Rattle.csg_hits.specs.Ready.{surfaces_in}
use Rattle.csg_rows.proofs.trees.hits.Given as goal

abbrev pub invariant-loop-place : goal.invariant-loop-place
invariant-loop-place l = Fits (surfaces_in l.world.built) l.scratch
