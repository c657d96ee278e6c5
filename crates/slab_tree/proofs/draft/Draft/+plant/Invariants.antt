use Rattle.std.proofs.Common.{◌-◌}
use Rattle.slab_tree.proofs.draft.Draft.+plant.Given as goal

abbrev pub decreases-plant : goal.decreases-plant
decreases-plant l = l.run.last - l.run.first
