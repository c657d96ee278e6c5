use Rattle.std.proofs.Common.{map}
use Rattle.leaf_boxes.proofs.Grouping.{IsSoFar}
use Rattle.leaf_boxes.proofs.groups.+shape_box.Given as goal

abbrev pub invariant-loop-index : goal.invariant-loop-index
invariant-loop-index g l = IsSoFar l.op (map g.L.Boxed.extent l.leaves) l.part-items l.index l.all
