-- What a scene comes to: its first text, read and expanded to the end.
use Rattle.std.specs.Prelude.{ℕ, ◌≡◌, false, List, [], ◌∷◌, length, Option, Some, None, Result, Ok, Err}
use Rattle.scene_lexer.specs.declared.token.Place.{Place}
use Rattle.scene_lexer.specs.declared.token.Token.{Token}
use Rattle.scene_expr.specs.Then.{IsThen, Is}
use Rattle.directive_machine.specs.declared.flat.Source.{Source}
use Rattle.directive_machine.specs.declared.stop.Stop.{Stop}
use Rattle.directive_machine.specs.declared.part.Part.{Part}
use Rattle.directive_machine.specs.declared.part.Then.{Then}
use Rattle.directive_machine.specs.declared.texts.Text.{Text as Held}
use Rattle.directive_machine.specs.State.{State}
use Rattle.directive_machine.specs.Sources.{Sources, Opened, source, found_under, text_at, IsOpened}
use Rattle.directive_machine.specs.Course.{Given, Course, Halted, After, course, halted, Beside}
use Rattle.directive_machine.specs.Expands.{Expands}

-- nothing is read yet, and the global scope is empty
abbrev pub no_sources : Sources
no_sources = record { names = []; files = []; texts = []; words = []; size = 0 }

abbrev pub first_state : State
first_state = record { scopes = [] ∷ []; waiting = []; taken = 0; out = []; messages = [] }

abbrev pub start : Place
start = record { file = 0; at = 0; line = 1 }

-- the first text: the one that is given, or the one that is held under its name
abbrev pub first_text : List Held → List ℕ → Option (List ℕ) → Option Source
first_text held name (Some bytes) = Some (source name bytes)
first_text held name None = found_under held name

abbrev pub whole_part : ℕ → ℕ → Part
whole_part number end = record { text = number; depth = 0; at = 0; end = end; closed = false; from = 0; outer = false; then = Then.Plain }

-- the text is expanded from its first token on, to its end
abbrev pub IsExpanded : Given → Opened → Result Course Halted → Type 0
IsExpanded g found r =
    IsThen After Course Halted (Expands g (whole_part found.number (length (text_at found.sources found.number).marks)) 0 (course first_state found.sources)) (λ a. Is (Ok a.course)) r

-- the text that was found is read
abbrev pub IsExpandedFrom : Given → Source → Result Course Halted → Type 0
IsExpandedFrom g file r = IsThen Opened Course Halted (Beside Opened first_state (IsOpened file start no_sources)) (IsExpanded g) r

abbrev pub IsExpansionOf : Option Source → Given → List ℕ → Result Course Halted → Type 0
IsExpansionOf None g name r = r ≡ Err (halted (Stop.Absent name start) (course first_state no_sources))
IsExpansionOf (Some file) g name r = IsExpandedFrom g file r

-- what a scene comes to, by the name of its first text: its tokens, texts and messages stand in the course at its end
abbrev pub IsExpansion : Given → List ℕ → Option (List ℕ) → Result Course Halted → Type 0
IsExpansion g name bytes r = IsExpansionOf (first_text g.held name bytes) g name r

-- what is handed out
pub record Handed : Type 0 where
  pub tokens : List Token
  pub files : List Source
  pub messages : List ℕ
  pub names : List (List ℕ)

abbrev pub handed : Course → Handed
handed w = record { tokens = w.state.out; files = w.sources.files; messages = w.state.messages; names = w.sources.names }

-- the scene comes to these tokens, texts, messages and names
pub data ComesTo (g : Given) (name : List ℕ) (bytes : Option (List ℕ)) (found : Handed) : Type 0 where
  comes : (w : Course) → handed w ≡ found → IsExpansion g name bytes (Ok w) → ComesTo g name bytes found

-- the scene's first fault is this one, with the messages and names up to it
abbrev pub StopsAt : Given → List ℕ → Option (List ℕ) → Halted → Type 0
StopsAt g name bytes f = IsExpansion g name bytes (Err f)

-- a course is reached that hands this out
pub data Reaches (holds : Result Course Halted → Type 0) (found : Handed) : Type 0 where
  reaches : (w : Course) → handed w ≡ found → holds (Ok w) → Reaches holds found
