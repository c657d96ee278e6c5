use Rattle.std.proofs.Common.{◌-◌}
use Rattle.slab_tree.proofs.arrange.+arrange.Given as goal

abbrev pub decreases-arrange : goal.decreases-arrange
decreases-arrange l = l.last - l.first
