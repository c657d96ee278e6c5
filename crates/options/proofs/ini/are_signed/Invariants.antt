-- What is left has the signs that the whole line has.
use Rattle.std.proofs.Common.{◌≡◌, length}
use Rattle.std.specs.List.{list_all}
use Rattle.options.specs.Ini.{is_signed, pieces}
use Rattle.options.proofs.ini.are_signed.Given as goal

abbrev pub invariant-loop-rest : goal.invariant-loop-rest
invariant-loop-rest l = list_all is_signed (pieces l.line) ≡ list_all is_signed (pieces l.rest)

abbrev pub decreases-loop-rest : goal.decreases-loop-rest
decreases-loop-rest l = length l.rest
