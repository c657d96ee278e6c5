-- What the reader's own functions find; no public clause cites these words.
use Rattle.std.specs.Prelude.{ℕ, Bool, nat_eq, List}
use Rattle.scene_lexer.specs.declared.token.Token.{Token}
use Rattle.scene_expr.specs.declared.value.Settings.{Settings}
use Rattle.scene_expr.specs.declared.value.Value.{Value}
use Rattle.scene_expr.specs.Grammar.{Read, Reading, Inner, inner}

abbrev pub Level : Type 1
Level = List Token → Settings → Bool → (Inner → Reading) → Reading

-- a level, where so many depths are left
abbrev pub at_depths : Level → List Token → Settings → ℕ → Reading
at_depths level tokens set depths = level tokens set (nat_eq depths 0) (inner tokens set depths)

-- the value of a call, and the number of the token behind it
abbrev pub read : Value → ℕ → Read
read value next = record { value = value; next = next }
