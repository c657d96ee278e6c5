-- What stands at a place among the tokens.
use Rattle.std.specs.Prelude.{ℕ, ◌+◌, List, [], ◌-◌, length, nat_eq, slice_get, Option, Some, None, Result, Ok, Err, if◌then◌else◌}
use Rattle.scene_lexer.specs.declared.token.Kind.{Kind}
use Rattle.scene_lexer.specs.declared.token.Place.{Place}
use Rattle.scene_lexer.specs.declared.token.Token.{Token}
use Rattle.scene_lexer.specs.declared.sign.TheConstants.{OPEN_BRACKET, LESS}
use Rattle.scene_expr.specs.declared.value.ExprFault.{ExprFault}
use Rattle.scene_expr.specs.declared.heads.Head.{Head}
use Rattle.scene_expr.specs.declared.heads.Mark.{Mark}
use Rattle.scene_expr.specs.declared.heads.Opener.{Opener}
use Rattle.scene_expr.specs.declared.operators.Prefix.{Prefix}
use Rattle.scene_expr.specs.declared.words.Channel.{Channel}
use Rattle.scene_expr.specs.declared.words.Component.{Component}
use Rattle.scene_expr.specs.declared.words.Word.{Word}
use Rattle.scene_expr.specs.Operators.{prefix}
use Rattle.scene_expr.specs.Words.{word_of, channel_of, component_of}

-- the end of the last token; the start of the first text where there is none
abbrev pub end_of : Option Token → Place
end_of None = record { file = 0; at = 0; line = 1 }
end_of (Some token) = record { file = token.place.file; at = token.to; line = token.place.line }

-- the place of a token, or that of the end
abbrev pub place_of : List Token → Option Token → Place
place_of tokens None = end_of (slice_get tokens (length tokens - 1))
place_of tokens (Some token) = token.place

abbrev pub place_at : List Token → ℕ → Place
place_at tokens at = place_of tokens (slice_get tokens at)

-- the code of a sign; 0 for any other token and for the end
abbrev pub sign_of : Option Token → ℕ
sign_of None = 0
sign_of (Some token) = code_of token.kind
  where
    code_of : Kind → ℕ
    code_of (Kind.Sign code) = code
    code_of other = 0

abbrev pub sign_at : List Token → ℕ → ℕ
sign_at tokens at = sign_of (slice_get tokens at)

-- the bytes of a text; none for any other token
abbrev pub bytes_of : Option Token → List ℕ
bytes_of None = []
bytes_of (Some token) = text_of token.kind
  where
    text_of : Kind → List ℕ
    text_of (Kind.Text text) = text
    text_of other = []

abbrev pub text_at : List Token → ℕ → List ℕ
text_at tokens at = bytes_of (slice_get tokens at)

-- what a word means, if it is one
abbrev pub of_word : {A : Type 0} → (List ℕ → Option A) → Kind → Option A
of_word meaning (Kind.Word word) = meaning word
of_word meaning other = None

abbrev pub meaning_of : {A : Type 0} → (List ℕ → Option A) → Option Token → Option A
meaning_of meaning None = None
meaning_of meaning (Some token) = of_word meaning token.kind

abbrev pub channel_at : List Token → ℕ → Option Channel
channel_at tokens at = meaning_of channel_of (slice_get tokens at)

abbrev pub component_at : List Token → ℕ → Option Component
component_at tokens at = meaning_of component_of (slice_get tokens at)

-- ---- what a factor begins with

abbrev pub prefix_head : Option Prefix → Head
prefix_head None = Head.Nothing
prefix_head (Some sign) = Head.Opener (Opener.Mark (Mark.Sign sign))

abbrev pub sign_head : ℕ → Head
sign_head sign =
    if nat_eq sign OPEN_BRACKET then Head.Opener Opener.Bracket else
    (if nat_eq sign LESS then Head.Opener Opener.Angle else prefix_head (prefix sign))

abbrev pub word_head : Option Word → Head
word_head None = Head.Unknown
word_head (Some (Word.Constant constant)) = Head.Constant constant
word_head (Some (Word.Call call)) = Head.Opener (Opener.Call call)
word_head (Some Word.Colour) = Head.Opener (Opener.Mark Mark.Colour)
word_head (Some (Word.Form form)) = Head.Opener (Opener.Mark (Mark.Form form))
word_head (Some (Word.Channel channel)) = Head.Opener Opener.Channels

abbrev pub kind_head : Kind → Head
kind_head (Kind.Word word) = word_head (word_of word)
kind_head (Kind.Number value) = Head.Number value
kind_head (Kind.Text text) = Head.Text
kind_head (Kind.Sign sign) = sign_head sign

abbrev pub head_of : Option Token → Head
head_of None = Head.Nothing
head_of (Some token) = kind_head token.kind

abbrev pub head_at : List Token → ℕ → Head
head_at tokens at = head_of (slice_get tokens at)

-- ---- signs that have to stand there

-- the place behind a sign
abbrev pub passed : ℕ → List Token → ℕ → Result ℕ ExprFault
passed sign tokens at =
    if nat_eq (sign_at tokens at) sign then Ok (at + 1) else Err (ExprFault.Expected (place_at tokens at))
