-- The tokens of a scene text, each with its place, or the first fault.
use Rattle.std.specs.Prelude.{ℕ, zero, suc, ◌+◌, ◌-◌, ◌*◌, ◌^◌, true, false, ◌==◌, nat_lt, nat_le, nat_eq, List, [], ◌∷◌, ◌++◌, length, take, drop, ℤ, pos, fold, true, if◌then◌else◌, Result, Ok, Err, unsigned_abs, All, AllPairs, ◌<◌, ◌≤◌, ◌||◌, Option, Some, None, unwrap_or, Bool}
use Rattle.std.specs.List.{starts_with}
use Rattle.fix_math.specs.Numbers.{rnd}
use Rattle.scene_lexer.specs.Bytes.{is_word}
use Rattle.scene_lexer.specs.Spellings.{digit_count, is_number, is_sign, is_gap, is_piece, longest, after_digits, fraction_length, sign_length, two_byte_sign, escape, escape_tail, is_text, is_open_comment, is_open_text}
use Rattle.scene_lexer.specs.declared.token.Place.{Place}
use Rattle.scene_lexer.specs.declared.token.Token.{Token}
use Rattle.scene_lexer.specs.declared.token.Kind.{Kind}
use Rattle.scene_lexer.specs.declared.token.Kind.TheVariants.{Word, Number, Text, Sign}
use Rattle.scene_lexer.specs.declared.token.LexFault.{LexFault}
use Rattle.scene_lexer.specs.declared.token.LexFault.TheVariants.{BadByte, OpenComment, OpenString, LongName, NumberRange}

-- only a text takes memory of its own
abbrev pub holds_text : Kind → Bool
holds_text (Text text) = true
holds_text other = false

-- the number that digits spell in base ten, after so much
abbrev pub decimal_from : ℕ → List ℕ → ℕ
decimal_from n digits = fold (λ m b. m * 10 + (b - 48)) n digits

-- the digits of a number before its dot, and behind it
abbrev pub whole_digits : List ℕ → List ℕ
whole_digits s = take (digit_count s) s

abbrev pub fraction_digits : List ℕ → List ℕ
fraction_digits s = drop 1 (take (fraction_length (after_digits s)) (after_digits s))

-- the exponent of a number: its sign and its digits
abbrev pub exponent_part : List ℕ → List ℕ
exponent_part s = drop 1 (drop (fraction_length (after_digits s)) (after_digits s))

abbrev pub is_minus_first : List ℕ → Bool
is_minus_first [] = false
is_minus_first (b ∷ s) = b == 45

abbrev pub exponent_size : List ℕ → ℕ
exponent_size part = decimal_from 0 (whole_digits (drop (sign_length part) part))

-- how far an exponent moves the digits up, and down
abbrev pub size_up : List ℕ → ℕ
size_up part = if is_minus_first part then 0 else exponent_size part

abbrev pub size_down : List ℕ → ℕ
size_down part = if is_minus_first part then exponent_size part else 0

-- a number's units are its digits as one number, times ten to the power of up - down
abbrev pub power_up : List ℕ → ℕ
power_up s = size_up (exponent_part s)

abbrev pub power_down : List ℕ → ℕ
power_down s = size_down (exponent_part s) + length (fraction_digits s)

-- N·10^(up - down) units as a raw number, rounded once
abbrev pub scaled : ℕ → ℕ → ℕ → ℤ
scaled n up down = rnd (pos (n * 10 ^ (up - down) * 65536)) (pos (10 ^ (down - up)))

abbrev pub raw_of : List ℕ → ℤ
raw_of s = scaled (decimal_from 0 (whole_digits s ++ fraction_digits s)) (power_up s) (power_down s)

-- more than 30 digits, a power of ten outside -30 to 30, or a raw number of 2^47 and more
abbrev pub is_out_of_range : List ℕ → Bool
is_out_of_range s =
    nat_lt 30 (length (whole_digits s ++ fraction_digits s))
    || (nat_lt 30 (power_up s - power_down s) || (nat_lt 30 (power_down s - power_up s)
    || nat_le (2 ^ 47) (unsigned_abs (raw_of s))))

unfoldable pub number_of : Place → List ℕ → Result Kind LexFault
number_of place s = if is_out_of_range s then Err (NumberRange place) else Ok (Number (raw_of s))

unfoldable pub word_of : Place → List ℕ → Result Kind LexFault
word_of place s = if nat_le (length s) 40 then Ok (Word s) else Err (LongName place)

-- the bytes that a text means, its escapes resolved; so many bytes are still to be passed over
unfoldable pub unescaped : ℕ → List ℕ → List ℕ
unescaped skip [] = []
unescaped (suc skip) (b ∷ s) = unescaped skip s
unescaped zero (b ∷ s) = unwrap_or (escape (b ∷ s)) b ∷ unescaped (escape_tail (b ∷ s)) s

-- the bytes between the quotes of a text
abbrev pub within_quotes : List ℕ → List ℕ
within_quotes s = drop 1 (take (length s - 1) s)

-- a sign of one byte has that byte for its code
abbrev pub sign_code : List ℕ → ℕ
sign_code [] = 0
sign_code (b ∷ []) = b
sign_code (b ∷ c ∷ s) = unwrap_or (two_byte_sign b c) 0

-- what a spelling means
unfoldable pub kind_of : Place → List ℕ → Result Kind LexFault
kind_of place s =
    if is_word s then word_of place s
    else (if is_number s then number_of place s
    else (if is_text s then Ok (Text (unescaped 0 (within_quotes s)))
    else (if is_sign s then Ok (Sign (sign_code s))
    else (if is_open_comment s then Err (OpenComment place)
    else (if is_open_text s then Err (OpenString place) else Err (BadByte place))))))

abbrev pub tokens_at : Place → ℕ → Option Kind → List Token
tokens_at place to None = []
tokens_at place to (Some kind) = record { kind = kind; place = place; to = to } ∷ []

abbrev pub token_list : Place → ℕ → Result Kind LexFault → Result (List Token) LexFault
token_list place to (Ok kind) = Ok (tokens_at place to (Some kind))
token_list place to (Err fault) = Err fault

-- the tokens of one piece of a text: none for a gap
unfoldable pub piece_tokens : Place → List ℕ → Result (List Token) LexFault
piece_tokens place s =
    if is_gap s then Ok [] else token_list place (place.at + length s) (kind_of place s)

-- the first fault, or both lists
unfoldable pub joined : Result (List Token) LexFault → Result (List Token) LexFault → Result (List Token) LexFault
joined (Err fault) rest = Err fault
joined (Ok tokens) (Err fault) = Err fault
joined (Ok tokens) (Ok more) = Ok (tokens ++ more)

-- a line ends with its line feed
abbrev pub line_after : ℕ → ℕ → ℕ
line_after line b = if b == 10 then line + 1 else line

-- the longest piece that a text begins with
unfoldable pub front_of : List ℕ → List ℕ
front_of text = take (longest is_piece (length text) text) text

-- the tokens of a text from a place on, where so many bytes are still to be passed over
unfoldable pub tokens_from : ℕ → ℕ → ℕ → ℕ → List ℕ → Result (List Token) LexFault
tokens_from file skip at line [] = Ok []
tokens_from file (suc skip) at line (b ∷ text) = tokens_from file skip (at + 1) (line_after line b) text
tokens_from file zero at line (b ∷ text) =
    joined (piece_tokens (record { file = file; at = at; line = line }) (front_of (b ∷ text)))
    (tokens_from file (length (front_of (b ∷ text)) - 1) (at + 1) (line_after line b) text)

-- a UTF-8 mark at the start of a text is passed over
abbrev pub mark_length : List ℕ → ℕ
mark_length text = if starts_with nat_eq text (239 ∷ 187 ∷ 191 ∷ []) then 3 else 0

-- the tokens of the text with this number
unfoldable pub tokens_of : ℕ → List ℕ → Result (List Token) LexFault
tokens_of file text = tokens_from file (mark_length text) 0 1 text

-- each token has a byte, none begins before the one ahead of it ends, and all end within the text
pub record Ascend (size : ℕ) (tokens : List Token) : Type 0 where
  pub some : All (λ token. token.place.at < token.to) tokens
  pub apart : AllPairs (λ before after. before.to ≤ after.place.at) tokens
  pub within : All (λ token. token.to ≤ size) tokens
