-- What short expressions are read by; no public clause cites this word.
use Rattle.std.specs.Prelude.{ℕ}
use Rattle.scene_expr.specs.declared.value.Level.{Level}

-- how many tiers of operators a level has
abbrev pub tiers_in : Level → ℕ
tiers_in Level.Choice = 4
tiers_in Level.Sum = 2
