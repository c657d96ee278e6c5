-- Tokens of a part that begin nothing.
use Rattle.std.specs.Prelude.{ℕ, ◌+◌, ◌≡◌, ◌<◌, Ok}
use Rattle.text_structure.specs.Texts.{Text}
use Rattle.directive_machine.specs.declared.part.Part.{Part}
use Rattle.directive_machine.specs.Moves.{Action}
use Rattle.directive_machine.specs.State.{State, begun}
use Rattle.directive_machine.specs.Tokens.{begun_in}

-- a token of the text begins nothing
abbrev pub is_step : Text → Part → ℕ → State → State → Type 0
is_step t part at s s' = begun_in t part at s ≡ Ok (begun (Action.Step (at + 1)) s')

-- from one token on, in a state, each begins nothing up to another one, in the state then
pub data IsPassage (t : Text) (part : Part) (at : ℕ) (s : State) : ℕ → State → Type 0 where
  none : IsPassage t part at s at s
  further : (next : ℕ) (s' s'' : State) → IsPassage t part at s next s' → next < part.end → is_step t part next s' s'' → IsPassage t part at s (next + 1) s''
