-- What an expression takes memory for: a text that is made, and a row of more than five parts.
use Rattle.std.specs.Prelude.{Bool, true, false, ◌||◌, nat_eq, nat_le, List, Option, Some, count_by}
use Rattle.std.specs.List.{list_any}
use Rattle.scene_lexer.specs.declared.sign.TheConstants.{COMMA}
use Rattle.scene_lexer.specs.declared.token.Kind.{Kind}
use Rattle.scene_lexer.specs.declared.token.Token.{Token}
use Rattle.scene_expr.specs.Calls.{makes_text}
use Rattle.scene_expr.specs.Words.{word_of}
use Rattle.scene_expr.specs.declared.words.Word.{Word}

abbrev pub calls_text : Option Word → Bool
calls_text (Some (Word.Call call)) = makes_text call
calls_text other = false

-- a text, or the word of a call that makes one
abbrev pub tells_text : Kind → Bool
tells_text (Kind.Text text) = true
tells_text (Kind.Word word) = calls_text (word_of word)
tells_text other = false

abbrev pub is_comma : Kind → Bool
is_comma (Kind.Sign code) = nat_eq code COMMA
is_comma other = false

-- six parts have five commas between them
abbrev pub needs_memory : List Token → Bool
needs_memory tokens = list_any (λ token. tells_text token.kind) tokens || nat_le 5 (count_by (λ token. is_comma token.kind) tokens)
