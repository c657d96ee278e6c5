-- A product that is too large.
use Rattle.std.proofs.Common.{arith}
use Rattle.scene_lexer.proofs.NumberLemmas.{up_large, units_large}
use Rattle.scene_lexer.proofs.number.multiplied.Goals as goal
use Rattle.scene_lexer.proofs.number.multiplied.Goals.{then-up-gt9-via-then-up-gt9, then-up-gt9-via-else-up-gt9+then-units}

pub returns-then-up-gt9 : goal.returns-then-up-gt9
returns-then-up-gt9 c = λ small. elim c.then-up-gt9.branch [
  | then-up-gt9-via-then-up-gt9 w ↦ omega (arith, up_large c.args.units c.args.up (omega arith) (omega arith))
  | then-up-gt9-via-else-up-gt9+then-units w ↦ omega (arith, units_large c.args.units c.args.up (omega arith))
]
