-- An expansion under way: its state, the texts that it read, and how it ends.
use Rattle.std.specs.Prelude.{ℕ, Bool, List, Result, Ok, Err}
use Rattle.scene_expr.specs.declared.value.Settings.{Settings}
use Rattle.directive_machine.specs.declared.stop.Stop.{Stop}
use Rattle.directive_machine.specs.declared.texts.Text.{Text as Held}
use Rattle.directive_machine.specs.Moves.{Next}
use Rattle.directive_machine.specs.State.{State, Stopped}
use Rattle.directive_machine.specs.Sources.{Sources, Unread}

-- what an expansion is given: the numbers of the frame, the library paths, and the texts that there are
pub record Given : Type 0 where
  pub settings : Settings
  pub libraries : List (List ℕ)
  pub held : List Held

abbrev pub given : Settings → List (List ℕ) → List Held → Given
given set libraries held = record { settings = set; libraries = libraries; held = held }

pub record Course : Type 0 where
  pub state : State
  pub sources : Sources

abbrev pub course : State → Sources → Course
course s sources = record { state = s; sources = sources }

-- a fault, with the messages and the names up to it
pub record Halted : Type 0 where
  pub stop : Stop
  pub messages : List ℕ
  pub names : List (List ℕ)

abbrev pub halted : Stop → Course → Halted
halted stop w = record { stop = stop; messages = w.state.messages; names = w.sources.names }

-- the course behind a part, and whether a `#break` ended it
pub record After : Type 0 where
  pub course : Course
  pub broken : Bool

abbrev pub after : Course → Bool → After
after w broken = record { course = w; broken = broken }

abbrev pub Outcome : Type 0
Outcome = Result After Halted

-- what comes behind an expanded part, and the course then
pub record Came : Type 0 where
  pub next : Next
  pub course : Course

abbrev pub came : Next → Course → Came
came next w = record { next = next; course = w }

-- a step that reads no text, in an expansion
abbrev pub halted_by : Sources → Stopped → Halted
halted_by sources f = record { stop = f.stop; messages = f.messages; names = sources.names }

pub data Within (A : Type 0) (sources : Sources) (holds : Result A Stopped → Type 0) : Result A Halted → Type 0 where
  ok : (a : A) → holds (Ok a) → Within A sources holds (Ok a)
  fault : (f : Stopped) → holds (Err f) → Within A sources holds (Err (halted_by sources f))

-- a step that only reads a text
pub data Beside (A : Type 0) (s : State) (holds : Result A Unread → Type 0) : Result A Halted → Type 0 where
  ok : (a : A) → holds (Ok a) → Beside A s holds (Ok a)
  fault : (f : Unread) → holds (Err f) → Beside A s holds (Err (record { stop = f.stop; messages = s.messages; names = f.names }))
