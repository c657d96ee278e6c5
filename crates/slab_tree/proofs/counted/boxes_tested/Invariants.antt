use Rattle.csg_hits.specs.Hits.{Fits}
use Rattle.csg_hits.specs.Ready.{surfaces_in}
use Rattle.slab_tree.proofs.counted.boxes_tested.Given as goal

abbrev pub invariant-loop-i : goal.invariant-loop-i
invariant-loop-i l = Fits (surfaces_in l.world.built) l.scratch
