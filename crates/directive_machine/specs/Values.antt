-- The values of lists that are kept aside.
use Rattle.std.specs.Prelude.{ℕ, nat_eq, List, drop, length, Result, Ok, Err, if◌then◌else◌}
use Rattle.scene_lexer.specs.declared.token.Token.{Token}
use Rattle.scene_lexer.specs.declared.token.Place.{Place}
use Rattle.scene_expr.specs.declared.value.ExprFault.{ExprFault}
use Rattle.scene_expr.specs.declared.value.Level.{Level}
use Rattle.scene_expr.specs.declared.value.Settings.{Settings}
use Rattle.scene_expr.specs.declared.value.Value.{Value}
use Rattle.scene_expr.specs.Grammar.{Read, IsValue}
use Rattle.scene_expr.specs.Heads.{place_at}
use Rattle.scene_expr.specs.Then.{IsThen, Is}
use Rattle.text_structure.specs.Texts.{Text}
use Rattle.directive_machine.specs.declared.stop.Stop.{Stop}
use Rattle.directive_machine.specs.declared.part.Part.{Part}
use Rattle.directive_machine.specs.State.{State, Stopped, stopped, counted, wrong, restored}

-- the whole list must be one expression
abbrev pub whole_of : List Token → Read → Result Value ExprFault
whole_of list read = if nat_eq read.next (length list) then Ok read.value else Err (ExprFault.Expected (place_at list read.next))

abbrev pub IsWhole : Settings → List Token → Result Value ExprFault → Type 0
IsWhole set list r = IsThen Read Value ExprFault (IsValue list set Level.Choice 0) (λ read. Is (whole_of list read)) r

-- a value, the place of the first token of its list, and the state without the list
pub record Valued : Type 0 where
  pub value : Value
  pub first : Place
  pub state : State

abbrev pub given : Value → Place → State → Valued
given value first s = record { value = value; first = first; state = s }

abbrev pub valued : ℕ → State → Value → Valued
valued from s value = record { value = value; first = place_at (drop from s.out) 0; state = restored from s }

-- a list aside comes to its value, or to the first fault of its expression
pub data IsEvaluated (set : Settings) (from : ℕ) (s : State) : Result Valued Stopped → Type 0 where
  value : (value : Value) → IsWhole set (drop from s.out) (Ok value) → IsEvaluated set from s (Ok (valued from s value))
  fault : (f : ExprFault) → IsWhole set (drop from s.out) (Err f) → IsEvaluated set from s (Err (stopped (Stop.Expr f) s))

-- the fault of an expression, as one of an expansion
abbrev pub stop_of : ExprFault → Stop
stop_of ExprFault.NoMemory = Stop.NoMemory
stop_of other = Stop.Expr other

-- the closer of a list is taken; where its own part ends before it, that is a fault
abbrev pub closed : Text → Part → State → Result State Stopped
closed t part s = if part.closed then counted t part.end s else wrong 4 t part.end s

-- a list is evaluated behind its closer
abbrev pub IsValued : Settings → Text → Part → State → Result Valued Stopped → Type 0
IsValued set t part s r = IsThen State Valued Stopped (Is (closed t part s)) (λ s'. IsEvaluated set part.from s') r
