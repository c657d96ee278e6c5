use Rattle.std.proofs.Common.{◌≡◌, take}
use Rattle.csg_hits.specs.Ready.{leaves_of}
use Rattle.csg_hits.proofs.making.ready_leaves.Given as goal

abbrev pub invariant-loop-leaf : goal.invariant-loop-leaf
invariant-loop-leaf l = leaves_of l.ready.items ≡ take l.leaf-index l.leaves
