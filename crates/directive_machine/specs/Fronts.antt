-- What was said up to a place: it stands first in what is said in the end.
use Rattle.std.specs.Prelude.{ℕ, ◌≡◌, List, ◌++◌, Result, Ok, Err}
use Rattle.directive_machine.specs.declared.part.Part.{Part}
use Rattle.directive_machine.specs.Course.{Given, Course, Halted, Outcome}
use Rattle.directive_machine.specs.Expands.{Expands}

-- bytes stand first in others
pub record IsFront (said whole : List ℕ) : Type 0 where
  pub more : List ℕ
  pub is : whole ≡ said ++ more

-- what was said once a part is over, or where it stops
abbrev pub said_by : Outcome → List ℕ
said_by (Ok a) = a.course.state.messages
said_by (Err f) = f.messages

-- what was said once a scene is over, or where it stops
abbrev pub said_in : Result Course Halted → List ℕ
said_in (Ok w) = w.state.messages
said_in (Err f) = f.messages

-- what was said before a part stands first in what is said once it is over, or where it stops
abbrev pub SaysOn : Type 0
SaysOn = (g : Given) (part : Part) (at : ℕ) (w : Course) (r : Outcome) → Expands g part at w r → IsFront w.state.messages (said_by r)
