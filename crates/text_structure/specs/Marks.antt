-- What the tokens of a text are to its directives. The words that a scene may give a meaning are numbered in the
-- order in which they come, over all texts of an expansion.
use Rattle.std.specs.Prelude.{ℕ, List, [], ◌∷◌, ◌++◌, Option, Some, None, if◌then◌else◌}
use Rattle.std.specs.Str.{bytes_eq}
use Rattle.std.specs.List.{list_any, position_or_len}
use Rattle.scene_lexer.specs.declared.token.Kind.{Kind}
use Rattle.scene_lexer.specs.declared.token.Token.{Token}
use Rattle.text_structure.specs.declared.mark.Known.{Known}
use Rattle.text_structure.specs.declared.mark.Mark.{Mark}
use Rattle.text_structure.specs.Words.{known_of}

-- the words that came before, each once
abbrev pub Vocabulary : Type 0
Vocabulary = List (List ℕ)

-- the number of a word: its own, or the next one
abbrev pub number_in : Vocabulary → List ℕ → ℕ
number_in words word = position_or_len (bytes_eq word) words

abbrev pub with_word : Vocabulary → List ℕ → Vocabulary
with_word words word = if list_any (bytes_eq word) words then words else words ++ word ∷ []

-- a token's mark, and the words behind it
pub record Marking : Type 0 where
  pub mark : Mark
  pub words : Vocabulary

abbrev pub marking : Mark → Vocabulary → Marking
marking mark words = record { mark = mark; words = words }

abbrev pub word_marking : Option Known → Vocabulary → List ℕ → Marking
word_marking (Some known) words word = marking (Mark.Known known) words
word_marking None words word = marking (Mark.Name (number_in words word)) (with_word words word)

abbrev pub kind_marking : Vocabulary → Kind → Marking
kind_marking words (Kind.Word word) = word_marking (known_of word) words word
kind_marking words (Kind.Number value) = marking Mark.Number words
kind_marking words (Kind.Text text) = marking Mark.Text words
kind_marking words (Kind.Sign code) = marking (Mark.Sign code) words

-- the marks of all tokens, behind those of earlier ones, and the words then
pub record Marked : Type 0 where
  pub marks : List Mark
  pub words : Vocabulary

abbrev pub marked : List Token → List Mark → Vocabulary → Marked
marked [] marks words = record { marks = marks; words = words }
marked (token ∷ tokens) marks words = marked tokens (marks ++ (kind_marking words token.kind).mark ∷ []) (kind_marking words token.kind).words
