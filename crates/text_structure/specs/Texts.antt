-- A text: its tokens, what they are to directives, and where its lists end.
use Rattle.std.specs.Prelude.{ℕ, ◌≡◌, ◌≤◌, ◌+◌, ◌*◌, ◌^◌, List, length, slice_get}
use Rattle.std.specs.Option.{unwrap_or}
use Rattle.scene_lexer.specs.declared.token.Token.{Token}
use Rattle.text_structure.specs.declared.mark.Mark.{Mark}
use Rattle.text_structure.specs.declared.closer.Closer.{Closer}
use Rattle.text_structure.specs.Tables.{number_of, IsTable}

pub record Text : Type 0 where
  pub tokens : List Token
  pub marks : List Mark
  pub ends : List ℕ

abbrev pub text : List Token → List Mark → List ℕ → Text
text tokens marks ends = record { tokens = tokens; marks = marks; ends = ends }

-- the table of ends is that of the marks
pub record IsText (t : Text) : Type 0 where
  pub small : length t.marks ≤ 2 ^ 24
  pub tokens : length t.marks ≡ length t.tokens
  pub length : length t.ends ≡ (length t.marks + 1) * 10
  pub filled : IsTable t.marks 0 t.ends

-- where a list that begins at a place ends
abbrev pub end_of : Text → Closer → ℕ → ℕ
end_of t closer at = unwrap_or (slice_get t.ends (at * 10 + number_of closer)) (length t.marks)
