-- The lines before this ball stand there.
use Rattle.std.proofs.Common.{◌≡◌, ◌++◌}
use Rattle.options.specs.Generated.{surroundings, balls}
use Rattle.options.proofs.generator.generated.Given as goal

abbrev pub invariant-loop-number : goal.invariant-loop-number
invariant-loop-number l = l.text.items ≡ surroundings ++ balls l.number
