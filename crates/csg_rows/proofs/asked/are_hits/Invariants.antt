use Rattle.csg_hits.specs.Hits.{Fits}
use Rattle.csg_hits.specs.Ready.{surfaces_in}
use Rattle.csg_rows.proofs.asked.are_hits.Given as goal

abbrev pub invariant-loop-expected : goal.invariant-loop-expected
invariant-loop-expected l = Fits (surfaces_in l.world.built) l.scratch
