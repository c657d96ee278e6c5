-- What is made of a part, by all that an expansion carries along.
use Rattle.std.specs.Prelude.{ℕ, ◌≡◌, Bool, MatchBool, drop, Option, None, Result}
use Rattle.scene_expr.specs.declared.value.Settings.{Settings}
use Rattle.scene_expr.specs.Then.{IsThen, Is}
use Rattle.text_structure.specs.Texts.{Text}
use Rattle.directive_machine.specs.declared.part.Part.{Part}
use Rattle.directive_machine.specs.declared.part.Then.{Then}
use Rattle.directive_machine.specs.State.{State, Stopped, Settled}
use Rattle.directive_machine.specs.Values.{Valued, IsEvaluated, IsValued, closed}
use Rattle.directive_machine.specs.Holds.{held_block, is_one_block}
use Rattle.directive_machine.specs.Settles.{made, settled_by}

-- a value, and what is made of it
abbrev pub IsMade : Settings → Text → Option Text → Part → State → Result Settled Stopped → Type 0
IsMade set t home part s r = IsThen Valued Settled Stopped (IsValued set t part s) (λ v. Is (made t home part part.then v)) r

abbrev pub IsExpression : Settings → Text → Part → ℕ → Bool → State → Result Settled Stopped → Type 0
IsExpression set t part name local s r = IsThen Valued Settled Stopped (IsEvaluated set part.from s) (λ v. Is (made t None part (Then.Bind name local) v)) r

-- a right side is one block, or else an expression
abbrev pub IsSideBy : Settings → Text → Part → ℕ → Bool → State → Result Settled Stopped → Type 0
IsSideBy set t part name local s r = MatchBool (is_one_block (drop part.from s.out)) (r ≡ held_block part name local s) (IsExpression set t part name local s r)

abbrev pub IsSide : Settings → Text → Part → ℕ → Bool → State → Result Settled Stopped → Type 0
IsSide set t part name local s r = IsThen State Settled Stopped (Is (closed t part s)) (IsSideBy set t part name local) r

-- what is made of a part that names no text
abbrev pub IsTold : Settings → Text → Option Text → Part → Then → State → Result Settled Stopped → Type 0
IsTold set t home part (Then.Bind name local) s r = IsSide set t part name local s r
IsTold set t home part (Then.Decide held otherwise) s r = IsMade set t home part s r
IsTold set t home part (Then.Test circle) s r = IsMade set t home part s r
IsTold set t home part (Then.Choose first) s r = IsMade set t home part s r
IsTold set t home part (Then.Case c) s r = IsMade set t home part s r
IsTold set t home part (Then.Low c) s r = IsMade set t home part s r
IsTold set t home part (Then.High c low) s r = IsMade set t home part s r
IsTold set t home part (Then.From turns) s r = IsMade set t home part s r
IsTold set t home part (Then.To turns first) s r = IsMade set t home part s r
IsTold set t home part (Then.By turns first last) s r = IsMade set t home part s r
IsTold set t home part (Then.Pass call) s r = IsMade set t home part s r
IsTold set t home part (Then.Say error at) s r = IsMade set t home part s r
IsTold set t home part then' s r = r ≡ settled_by t home part then' s
