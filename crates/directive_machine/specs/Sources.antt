-- The texts that an expansion reads: where they are looked for, how they are counted and numbered.
use Rattle.std.specs.Prelude.{ℕ, ◌+◌, ◌≡◌, nat_lt, MatchBool, List, [], ◌∷◌, ◌++◌, length, slice_get, Option, Some, None, Result, Ok, Err, if◌then◌else◌}
use Rattle.std.specs.List.{position_or_len}
use Rattle.std.specs.Option.{unwrap_or}
use Rattle.std.specs.Str.{bytes_eq}
use Rattle.scene_lexer.specs.declared.token.Token.{Token}
use Rattle.scene_lexer.specs.declared.token.Place.{Place}
use Rattle.scene_lexer.specs.declared.token.LexFault.{LexFault}
use Rattle.scene_lexer.specs.Tokens.{tokens_of}
use Rattle.scene_expr.specs.Heads.{place_at}
use Rattle.scene_expr.specs.Then.{IsThen, Is}
use Rattle.text_structure.specs.declared.levels.Misplaced.{Misplaced}
use Rattle.text_structure.specs.Levels.{structure}
use Rattle.text_structure.specs.Marks.{Vocabulary, Marked, marked}
use Rattle.text_structure.specs.Texts.{Text, text, IsText}
use Rattle.directive_machine.specs.declared.flat.Source.{Source}
use Rattle.directive_machine.specs.declared.stop.Stop.{Stop}
use Rattle.directive_machine.specs.declared.texts.Text.{Text as Held}
use Rattle.directive_machine.specs.Texts.{text_of}

-- the names under which texts were found, the texts by their numbers, as read and as directives see them, the words
-- met, and the bytes counted
pub record Sources : Type 0 where
  pub names : List (List ℕ)
  pub files : List Source
  pub texts : List Text
  pub words : Vocabulary
  pub size : ℕ

-- a text by its number
abbrev pub text_at : Sources → ℕ → Text
text_at s number = unwrap_or (slice_get s.texts number) (text [] [] [])

-- ---- where a text is looked for

abbrev pub source : List ℕ → List ℕ → Source
source name bytes = record { name = name; text = bytes }

abbrev pub found_under : List Held → List ℕ → Option Source
found_under held name = found_by (text_of held name)
  where
    found_by : Option (List ℕ) → Option Source
    found_by None = None
    found_by (Some bytes) = Some (source name bytes)

abbrev pub or_else : Option Source → Option Source → Option Source
or_else None further = further
or_else (Some file) further = Some file

abbrev pub beneath : List ℕ → List ℕ → List ℕ
beneath path name = path ++ 47 ∷ name

-- under the library paths, in their order
abbrev pub found_beneath : List Held → List (List ℕ) → List ℕ → Option Source
found_beneath held [] name = None
found_beneath held (path ∷ paths) name = or_else (found_under held (beneath path name)) (found_beneath held paths name)

-- under the name itself, and then under the library paths
abbrev pub found_text : List Held → List (List ℕ) → List ℕ → Option Source
found_text held libraries name = or_else (found_under held name) (found_beneath held libraries name)

-- ---- how it is taken in

-- a refusal, and the names up to it
pub record Unread : Type 0 where
  pub stop : Stop
  pub names : List (List ℕ)

abbrev pub unread : Stop → Sources → Unread
unread stop s = record { stop = stop; names = s.names }

-- the number of a text, and the texts then
pub record Opened : Type 0 where
  pub number : ℕ
  pub sources : Sources

abbrev pub opened : ℕ → Sources → Opened
opened number s = record { number = number; sources = s }

abbrev pub most_bytes : ℕ
most_bytes = 16777216

-- bytes count when they are read
abbrev pub counted_bytes : ℕ → Place → Sources → Result Sources Unread
counted_bytes count place s =
    if nat_lt (s.size + count) (most_bytes + 1) then Ok (record s { size = s.size + count }) else Err (unread (Stop.Limit 4 place) s)

-- a name is listed at its first reading
abbrev pub listed_name : List ℕ → Sources → Sources
listed_name name s = record s { names = s.names ++ name ∷ [] }

abbrev pub misplaced_stop : List Token → Misplaced → Stop
misplaced_stop tokens (Misplaced.Stray at) = Stop.Directive 3 (place_at tokens at)
misplaced_stop tokens (Misplaced.NoEnd at) = Stop.Directive 2 (place_at tokens at)
misplaced_stop tokens Misplaced.NoMemory = Stop.NoMemory

abbrev pub with_text : Source → Text → Marked → Sources → Sources
with_text file t m s = record s { files = s.files ++ file ∷ []; texts = s.texts ++ t ∷ []; words = m.words }

-- the first fault of a text's tokens
pub data IsMisspelt (number : ℕ) (bytes : List ℕ) : Stop → Type 0 where
  lex : (f : LexFault) → tokens_of number bytes ≡ Err f → IsMisspelt number bytes (Stop.Lex f)

-- a text has its tokens, and its directives nest; or the first that is wrong with it
pub data IsWritten (number : ℕ) (file : Source) (s : Sources) : Result Sources Unread → Type 0 where
  misspelt : (stop : Stop) → IsMisspelt number file.text stop → IsWritten number file s (Err (unread stop s))
  misplaced : (tokens : List Token) (f : Misplaced) → tokens_of number file.text ≡ Ok tokens → structure (marked tokens [] s.words).marks ≡ Err f → IsWritten number file s (Err (unread (misplaced_stop tokens f) s))
  written : (tokens : List Token) (t : Text) (m : Marked) → tokens_of number file.text ≡ Ok tokens → marked tokens [] s.words ≡ m → structure m.marks ≡ Ok 0 → t.tokens ≡ tokens → t.marks ≡ m.marks → IsText t → IsWritten number file s (Ok (with_text file t m s))

abbrev pub number_of_name : Sources → List ℕ → ℕ
number_of_name s name = position_or_len (bytes_eq name) s.names

-- a text that was read before keeps its number, and its bytes count again
abbrev pub again : Source → Place → ℕ → Sources → Result Opened Unread
again file place number s = reopened (counted_bytes (length file.text) place s)
  where
    reopened : Result Sources Unread → Result Opened Unread
    reopened (Ok s') = Ok (opened number s')
    reopened (Err f) = Err f

-- a new one has the next number; its name and eight bytes count too
abbrev pub IsNew : Source → Place → ℕ → Sources → Result Opened Unread → Type 0
IsNew file place number s r =
    IsThen Sources Opened Unread (Is (counted_bytes (length file.name + 8 + length file.text) place (listed_name file.name s))) (λ s1.
    IsThen Sources Opened Unread (IsWritten number file s1) (λ s2. Is (Ok (opened number s2)))) r

-- a text that was found is taken in; a limit is passed at a place
abbrev pub IsOpened : Source → Place → Sources → Result Opened Unread → Type 0
IsOpened file place s r =
    MatchBool (nat_lt (number_of_name s file.name) (length s.names)) (r ≡ again file place (number_of_name s file.name) s) (IsNew file place (number_of_name s file.name) s r)
