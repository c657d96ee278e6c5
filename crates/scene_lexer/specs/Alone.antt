-- A number that stands alone. (Reference manual, numbers)
use Rattle.std.specs.Prelude.{List, ℕ, ℤ, if◌then◌else◌, Option, Some, None, Result, Ok}
use Rattle.scene_lexer.specs.Spellings.{is_number}
use Rattle.scene_lexer.specs.Tokens.{number_of}
use Rattle.scene_lexer.specs.declared.token.Kind.{Kind}
use Rattle.scene_lexer.specs.declared.token.Kind.TheVariants.{Number}
use Rattle.scene_lexer.specs.declared.token.LexFault.{LexFault}
use Rattle.scene_lexer.specs.declared.token.Place.{Place}

abbrev pub start : Place
start = record { file = 0; at = 0; line = 1 }

abbrev pub value_in : Result Kind LexFault → Option ℤ
value_in (Ok (Number value)) = Some value
value_in other = None

-- the value of a number as a token, where a token can have it
abbrev pub value_of : List ℕ → Option ℤ
value_of s = value_in (number_of start s)

-- the value of a text that is a number and nothing else
abbrev pub number_in : List ℕ → Option ℤ
number_in s = if is_number s then value_of s else None
