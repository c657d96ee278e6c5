-- How gaps and tokens are spelled. (Reference manual, identifiers, numbers, strings and comments)
use Rattle.std.specs.Prelude.{ℕ, zero, suc, ◌+◌, Bool, true, false, not, ◌&&◌, ◌||◌, ◌==◌, nat_lt, nat_eq, List, [], ◌∷◌, take, drop, codes, if◌then◌else◌, Option, Some, None, is_some, is_none}
use Rattle.std.specs.List.{prefix_len, list_any, list_all, starts_with}
use Rattle.scene_lexer.specs.Bytes.{is_white, is_digit, is_word}
use Rattle.scene_lexer.specs.declared.sign.TheConstants.{EQUAL, LESS, GREATER, NOT, AT_MOST, AT_LEAST, NOT_EQUAL}

-- how many digits a text begins with
abbrev pub digit_count : List ℕ → ℕ
digit_count s = prefix_len is_digit s

abbrev pub after_digits : List ℕ → List ℕ
after_digits s = drop (digit_count s) s

-- how many bytes a dot and the digits behind it take; 0 where no digit follows a dot
abbrev pub fraction_length : List ℕ → ℕ
fraction_length [] = 0
fraction_length (b ∷ s) = if b == 46 && nat_lt 0 (digit_count s) then 1 + digit_count s else 0

abbrev pub is_empty : List ℕ → Bool
is_empty [] = true
is_empty (b ∷ s) = false

abbrev pub is_plus_or_minus : ℕ → Bool
is_plus_or_minus b = b == 43 || b == 45

-- how many bytes a sign takes at the start of a text
abbrev pub sign_length : List ℕ → ℕ
sign_length [] = 0
sign_length (b ∷ s) = if is_plus_or_minus b then 1 else 0

abbrev pub is_exponent_mark : ℕ → Bool
is_exponent_mark b = b == 101 || b == 69

-- one digit at least, and nothing else
abbrev pub is_digits : List ℕ → Bool
is_digits s = nat_lt 0 (digit_count s) && is_empty (after_digits s)

-- e or E, perhaps a sign, and digits
abbrev pub is_exponent : List ℕ → Bool
is_exponent [] = false
is_exponent (b ∷ s) = is_exponent_mark b && is_digits (drop (sign_length s) s)

-- what may stand behind the digits of a number: nothing, or an exponent
unfoldable pub is_number_end : List ℕ → Bool
is_number_end s = is_empty s || is_exponent s

-- a dot, then digits, and the end of a number
unfoldable pub is_fraction : List ℕ → Bool
is_fraction [] = false
is_fraction (b ∷ s) = b == 46 && (nat_lt 0 (digit_count s) && is_number_end (after_digits s))

-- digits, or digits with a dot and digits, or a dot and digits; then perhaps an exponent
unfoldable pub is_number : List ℕ → Bool
is_number s =
    (nat_lt 0 (digit_count s) && is_number_end (after_digits s)) || is_fraction (after_digits s)

abbrev pub is_sign_byte : ℕ → Bool
is_sign_byte b = list_any (λ sign. b == sign) (codes "{}()<>[],;:?.+-*/=!&|#")

-- the codes of `<=`, `>=` and `!=`
abbrev pub two_byte_sign : ℕ → ℕ → Option ℕ
two_byte_sign b c =
    if c == EQUAL then
    (if b == LESS then Some AT_MOST else (if b == GREATER then Some AT_LEAST else (if b == NOT then Some NOT_EQUAL else None)))
    else None

-- one byte, or two
unfoldable pub is_sign : List ℕ → Bool
is_sign [] = false
is_sign (b ∷ []) = is_sign_byte b
is_sign (b ∷ c ∷ []) = is_some (two_byte_sign b c)
is_sign (b ∷ c ∷ d ∷ s) = false

-- what a backslash and this byte stand for together
abbrev pub escape_of : ℕ → Option ℕ
escape_of c =
    if c == 34 then Some 34 else (if c == 92 then Some 92 else (if c == 39 then Some 39 else
    (if c == 97 then Some 7 else (if c == 98 then Some 8 else (if c == 102 then Some 12 else
    (if c == 110 then Some 10 else (if c == 114 then Some 13 else (if c == 116 then Some 9 else
    (if c == 118 then Some 11 else None)))))))))

-- the byte that an escape at the start of a list stands for
unfoldable pub escape : List ℕ → Option ℕ
escape [] = None
escape (b ∷ []) = None
escape (b ∷ c ∷ s) = if b == 92 then escape_of c else None

-- how many bytes of an escape follow the first one
abbrev pub escape_tail : List ℕ → ℕ
escape_tail s = if is_some (escape s) then 1 else 0

-- what follows the quote that ends a text, if one does; so many bytes are still to be passed over
unfoldable pub text_rest : ℕ → List ℕ → Option (List ℕ)
text_rest skip [] = None
text_rest (suc skip) (b ∷ s) = text_rest skip s
text_rest zero (b ∷ s) = if b == 34 then Some s else text_rest (escape_tail (b ∷ s)) s

abbrev pub opens_comment : List ℕ → Bool
opens_comment s = starts_with nat_eq s (codes "/*")

abbrev pub closes_comment : List ℕ → Bool
closes_comment s = starts_with nat_eq s (codes "*/")

-- how many comments are open behind the mark or byte that a list begins with,
-- where one more than depth are open before it
abbrev pub depth_after : ℕ → List ℕ → ℕ
depth_after depth s = if opens_comment s then suc (suc depth) else (if closes_comment s then depth else suc depth)

-- how many bytes of a mark follow the first one
abbrev pub mark_tail : List ℕ → ℕ
mark_tail s = if opens_comment s || closes_comment s then 1 else 0

-- what follows the comments that are open to this depth, if all are closed;
-- so many bytes are still to be passed over
unfoldable pub comment_rest : ℕ → ℕ → List ℕ → Option (List ℕ)
comment_rest zero zero s = Some s
comment_rest (suc skip) depth [] = None
comment_rest (suc skip) depth (b ∷ s) = comment_rest skip depth s
comment_rest zero (suc depth) [] = None
comment_rest zero (suc depth) (b ∷ s) = comment_rest (mark_tail (b ∷ s)) (depth_after depth (b ∷ s)) s

-- nothing follows
abbrev pub ends_there : Option (List ℕ) → Bool
ends_there None = false
ends_there (Some rest) = is_empty rest

unfoldable pub is_text : List ℕ → Bool
is_text s = starts_with nat_eq s (codes "\"") && ends_there (text_rest 0 (drop 1 s))

unfoldable pub is_open_text : List ℕ → Bool
is_open_text s = starts_with nat_eq s (codes "\"") && is_none (text_rest 0 (drop 1 s))

unfoldable pub is_block_comment : List ℕ → Bool
is_block_comment s = opens_comment s && ends_there (comment_rest 0 1 (drop 2 s))

unfoldable pub is_open_comment : List ℕ → Bool
is_open_comment s = opens_comment s && is_none (comment_rest 0 1 (drop 2 s))

abbrev pub opens_line_comment : List ℕ → Bool
opens_line_comment s = starts_with nat_eq s (codes "//")

abbrev pub is_in_line : ℕ → Bool
is_in_line b = not (b == 10)

-- `//`, and no line feed
unfoldable pub is_line_comment : List ℕ → Bool
is_line_comment s = opens_line_comment s && list_all is_in_line s

unfoldable pub is_white_space : List ℕ → Bool
is_white_space [] = false
is_white_space (b ∷ []) = is_white b
is_white_space (b ∷ c ∷ s) = false

-- a byte of white space, or a comment
unfoldable pub is_gap : List ℕ → Bool
is_gap s = is_white_space s || (is_line_comment s || is_block_comment s)

-- a gap, the spelling of a token, or a comment or text that no front of the text closes
unfoldable pub is_piece : List ℕ → Bool
is_piece s =
    is_gap s || (is_word s || (is_number s || (is_text s || (is_sign s
    || (is_open_comment s || is_open_text s)))))

-- the greatest length up to n of a front of the text that passes, or 0
unfoldable pub longest : (List ℕ → Bool) → ℕ → List ℕ → ℕ
longest p zero text = zero
longest p (suc n) text = if p (take (suc n) text) then suc n else longest p n text
