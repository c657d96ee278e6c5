-- Rays end: each that goes on has one level less.
use Rattle.std.proofs.Common.{◌+◌, ◌*◌}
use Rattle.finish_shade.proofs.shading.+shade.Given as goal

abbrev pub decreases-shade : goal.decreases-shade
decreases-shade g l = l.levels * 2

abbrev pub decreases-thrown : goal.decreases-thrown
decreases-thrown g l = l.levels * 2 + 1

abbrev pub decreases-passed : goal.decreases-passed
decreases-passed g l = l.levels * 2 + 1
