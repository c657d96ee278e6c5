-- Tokens that begin nothing in any text, where no name is bound: all but the `#` of a directive and the word `defined`.
use Rattle.std.specs.Prelude.{nat_eq, not, Bool, true, false, Option, Some}
use Rattle.scene_lexer.specs.declared.token.Kind.{Kind}
use Rattle.scene_lexer.specs.declared.token.Token.{Token}
use Rattle.text_structure.specs.declared.mark.Known.{Known}
use Rattle.text_structure.specs.Words.{known_of}

abbrev pub is_defined : Option Known → Bool
is_defined (Some Known.Defined) = true
is_defined other = false

abbrev pub is_plain : Kind → Bool
is_plain (Kind.Word word) = not (is_defined (known_of word))
is_plain (Kind.Sign code) = not (nat_eq code 35)
is_plain other = true

abbrev pub is_plain_token : Token → Bool
is_plain_token token = is_plain token.kind
