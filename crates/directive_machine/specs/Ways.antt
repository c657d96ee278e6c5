-- What is made of a part of a text, and what a token of it begins, in a whole expansion.
use Rattle.std.specs.Prelude.{ℕ, ◌≡◌, MatchBool, Option, Some, None, Result, Ok}
use Rattle.scene_expr.specs.declared.value.Settings.{Settings}
use Rattle.scene_expr.specs.Then.{IsThen, Is}
use Rattle.text_structure.specs.Texts.{Text}
use Rattle.directive_machine.specs.declared.part.Part.{Part}
use Rattle.directive_machine.specs.declared.part.Then.{Then}
use Rattle.directive_machine.specs.State.{State, Stopped, Begun, Settled}
use Rattle.directive_machine.specs.Tokens.{begun_in}
use Rattle.directive_machine.specs.Settles.{given_up}
use Rattle.directive_machine.specs.Parts.{IsTold}
use Rattle.directive_machine.specs.Sources.{Sources, text_at}
use Rattle.directive_machine.specs.Course.{Given, Course, Halted, After, Came, course, came, Within}
use Rattle.directive_machine.specs.Includes.{IsIncluded}

-- a token begins what it begins in its own text
abbrev pub begun_at : Sources → Part → ℕ → State → Result Begun Stopped
begun_at sources part at s = begun_in (text_at sources part.text) part at s

-- the place of an include's name
abbrev pub read_at : Then → Option ℕ
read_at (Then.Read at) = Some at
read_at other = None

-- the text of the macro that an argument is given to
abbrev pub home_number : Then → Option ℕ
home_number (Then.Pass call) = Some call.called.text
home_number (Then.Give call) = Some call.called.text
home_number (Then.Refer call name) = Some call.called.text
home_number other = None

abbrev pub home_by : Sources → Option ℕ → Option Text
home_by sources None = None
home_by sources (Some number) = Some (text_at sources number)

abbrev pub IsToldIn : Settings → Part → Course → Result Settled Stopped → Type 0
IsToldIn set part w r = IsTold set (text_at w.sources part.text) (home_by w.sources (home_number part.then)) part part.then w.state r

abbrev pub IsSettledBy : Option ℕ → Given → Part → Course → Result Came Halted → Type 0
IsSettledBy (Some at) g part w r = IsIncluded g at part w r
IsSettledBy None g part w r =
    IsThen Settled Came Halted (Within Settled w.sources (IsToldIn g.settings part w)) (λ found. Is (Ok (came found.next (course found.state w.sources)))) r

abbrev pub given_up_in : Part → Course → Came
given_up_in part w = came (given_up part part.then w.state).next (course (given_up part part.then w.state).state w.sources)

-- what is made of a part whose run is over: it is given up where a `#break` ended it
abbrev pub IsSettled : Given → Part → After → Result Came Halted → Type 0
IsSettled g part a r = MatchBool a.broken (r ≡ Ok (given_up_in part a.course)) (IsSettledBy (read_at part.then) g part a.course r)
