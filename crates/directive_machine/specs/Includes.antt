-- An include: its text stands in a scope of its own.
use Rattle.std.specs.Prelude.{ℕ, ◌≡◌, false, List, length, Option, Some, None, Result, Ok, Err}
use Rattle.scene_lexer.specs.declared.token.Place.{Place}
use Rattle.scene_expr.specs.declared.value.Settings.{Settings}
use Rattle.scene_expr.specs.Heads.{place_at}
use Rattle.scene_expr.specs.Then.{IsThen, Is}
use Rattle.text_structure.specs.Texts.{Text}
use Rattle.scope_tables.specs.Names.{entered}
use Rattle.directive_machine.specs.declared.flat.Source.{Source}
use Rattle.directive_machine.specs.declared.stop.Stop.{Stop}
use Rattle.directive_machine.specs.declared.part.Part.{Part}
use Rattle.directive_machine.specs.declared.part.Then.{Then}
use Rattle.directive_machine.specs.Moves.{Next}
use Rattle.directive_machine.specs.State.{State, Stopped}
use Rattle.directive_machine.specs.Values.{Valued, IsValued}
use Rattle.directive_machine.specs.Holds.{text_of}
use Rattle.directive_machine.specs.Sources.{Opened, found_text, text_at, IsOpened}
use Rattle.directive_machine.specs.Course.{Given, Course, Halted, Came, course, halted, came, Within, Beside}

-- the whole of a text that is included; it is left with its scope
abbrev pub included : Part → ℕ → ℕ → Part
included part number end = record { text = number; depth = part.depth; at = 0; end = end; closed = false; from = 0; outer = part.outer; then = Then.Leave }

abbrev pub included_next : Part → State → Opened → Came
included_next part s found =
    came (Next.Further (included part found.number (length (text_at found.sources found.number).marks))) (course (record s { scopes = entered s.scopes }) found.sources)

-- the text that was found is taken in
abbrev pub IsIncludedBy : Option Source → List ℕ → Part → Place → Course → Result Came Halted → Type 0
IsIncludedBy None name part place w r = r ≡ Err (halted (Stop.Absent name place) w)
IsIncludedBy (Some file) name part place w r =
    IsThen Opened Came Halted (Beside Opened w.state (IsOpened file place w.sources)) (λ found. Is (Ok (included_next part w.state found))) r

-- the text's name is known
pub record Asking : Type 0 where
  pub name : List ℕ
  pub state : State

abbrev pub asking : List ℕ → State → Asking
asking name s = record { name = name; state = s }

abbrev pub IsAsked : Settings → Text → Part → State → Result Asking Stopped → Type 0
IsAsked set t part s r =
    IsThen Valued Asking Stopped (IsValued set t part s) (λ v. IsThen (List ℕ) Asking Stopped (Is (text_of v)) (λ name. Is (Ok (asking name v.state)))) r

-- the name is evaluated, the text is looked for and taken in
abbrev pub IsIncluded : Given → ℕ → Part → Course → Result Came Halted → Type 0
IsIncluded g at part w r =
    IsThen Asking Came Halted (Within Asking w.sources (IsAsked g.settings (text_at w.sources part.text) part w.state)) (λ asked.
    IsIncludedBy (found_text g.held g.libraries asked.name) asked.name part (place_at (text_at w.sources part.text).tokens at) (course asked.state w.sources)) r
