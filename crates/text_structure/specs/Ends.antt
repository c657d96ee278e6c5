-- Where each list of a text ends.
use Rattle.std.specs.Prelude.{ℕ, ◌≡◌, List}
use Rattle.text_structure.specs.declared.mark.Mark.{Mark}
use Rattle.text_structure.specs.declared.closer.Closer.{Closer}
use Rattle.text_structure.specs.declared.closer.Turn.{Turn}
use Rattle.text_structure.specs.Turns.{turn_at, past}

-- a list from a place on ends at a place: at its closer, or where the body ends in which it stands
pub data Ends (m : List Mark) : Closer → ℕ → ℕ → Type 0 where
  here : (closer : Closer) (at : ℕ) → turn_at m closer at ≡ Turn.Stop → Ends m closer at at
  over : (closer : Closer) (at next end : ℕ) → turn_at m closer at ≡ Turn.Over next → Ends m closer next end → Ends m closer at end
  inside : (closer inner : Closer) (at start last end : ℕ) → turn_at m closer at ≡ Turn.Inside inner start → Ends m inner start last → Ends m closer (past m inner last) end → Ends m closer at end
