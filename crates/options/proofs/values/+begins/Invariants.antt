-- The letters get fewer.
use Rattle.std.proofs.Common.{length}
use Rattle.options.proofs.values.+begins.Given as goal

abbrev pub decreases-begins : goal.decreases-begins
decreases-begins l = length l.letters.now
