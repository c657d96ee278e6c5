-- What is left is trimmed to the same.
use Rattle.std.proofs.Common.{◌≡◌, length}
use Rattle.options.specs.Ini.{trim_end}
use Rattle.options.proofs.ini.trim_end.Given as goal

abbrev pub invariant-loop-rest : goal.invariant-loop-rest
invariant-loop-rest l = trim_end l.text ≡ trim_end l.rest

abbrev pub decreases-loop-rest : goal.decreases-loop-rest
decreases-loop-rest l = length l.rest
