-- What is left is trimmed to the same.
use Rattle.std.proofs.Common.{◌≡◌, length}
use Rattle.options.specs.Ini.{trim_start}
use Rattle.options.proofs.ini.trim_start.Given as goal

abbrev pub invariant-loop-rest : goal.invariant-loop-rest
invariant-loop-rest l = trim_start l.text ≡ trim_start l.rest

abbrev pub decreases-loop-rest : goal.decreases-loop-rest
decreases-loop-rest l = length l.rest
