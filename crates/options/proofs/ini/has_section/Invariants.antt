-- What is left has the section where the whole text has it.
use Rattle.std.proofs.Common.{◌≡◌, length}
use Rattle.std.specs.Str.Lines.{lines}
use Rattle.options.specs.Ini.{has_section}
use Rattle.options.proofs.ini.has_section.Given as goal

abbrev pub invariant-loop-rest : goal.invariant-loop-rest
invariant-loop-rest l = has_section l.name (lines l.text) ≡ has_section l.name (lines l.rest)

abbrev pub decreases-loop-rest : goal.decreases-loop-rest
decreases-loop-rest l = length l.rest
