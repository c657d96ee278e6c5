-- What the lexer's own functions find; no public clause cites these words.
use Rattle.std.specs.Prelude.{ℕ, suc, ◌+◌, ◌-◌, ◌&&◌, ◌==◌, nat_lt, List, [], ◌∷◌, length, take, drop, if◌then◌else◌, Option, Some, None, Ok, count_by, ◌≡◌, ◌<◌, ◌≤◌}
use Rattle.fix_math.specs.Numbers.{IsInRange}
use Rattle.scene_lexer.specs.Spellings.{digit_count, sign_length, is_exponent_mark, two_byte_sign, comment_rest}
use Rattle.scene_lexer.specs.Tokens.{scaled, tokens_at, piece_tokens, front_of}
use Rattle.scene_lexer.specs.declared.found.Found.{Found}
use Rattle.scene_lexer.specs.declared.token.Place.{Place}
use Rattle.scene_lexer.specs.declared.token.Token.{Token}

-- how many bytes an exponent takes at the start of a text; 0 where there is none
abbrev pub exponent_length : List ℕ → ℕ
exponent_length [] = 0
exponent_length (b ∷ s) =
    if is_exponent_mark b && nat_lt 0 (digit_count (drop (sign_length s) s))
    then suc (sign_length s + digit_count (drop (sign_length s) s)) else 0

abbrev pub two_byte_sign_of : List ℕ → Option ℕ
two_byte_sign_of [] = None
two_byte_sign_of (b ∷ []) = None
two_byte_sign_of (b ∷ c ∷ s) = two_byte_sign b c

-- a power of ten from -30 to 30, and a raw number below 2^47
pub record IsScalable (n up down : ℕ) : Type 0 where
  pub above : up - down ≤ 30
  pub below : down - up ≤ 30
  pub within : IsInRange (scaled n up down)

-- how many line feeds stand among these bytes
abbrev pub line_feeds : List ℕ → ℕ
line_feeds s = count_by (λ b. b == 10) s

-- the tokens of a piece that was found: none for a gap
abbrev pub found_tokens : Place → Found → List Token
found_tokens place found = tokens_at place (place.at + found.length) found.kind

-- what the text begins with: the tokens of its longest piece, that piece's length and its line feeds
pub record IsFound (place : Place) (text : List ℕ) (found : Found) : Type 0 where
  pub tokens_are : piece_tokens place (front_of text) ≡ Ok (found_tokens place found)
  pub length_is : found.length ≡ length (front_of text)
  pub lines_are : found.lines ≡ line_feeds (front_of text)
  pub some : 0 < found.length

-- the comment that a text begins with is closed where the found piece ends
pub record IsClosedComment (text : List ℕ) (found : Found) : Type 0 where
  pub closed : comment_rest 0 1 (drop 2 text) ≡ Some (drop found.length text)
  pub marks : 2 ≤ found.length
  pub within : found.length ≤ length text
  pub lines_are : found.lines ≡ line_feeds (take found.length text)
  pub no_token : found.kind ≡ None
