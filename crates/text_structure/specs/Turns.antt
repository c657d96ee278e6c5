-- What each token of a text is to a list that ends with a given closer. All is told by the tokens as written.
use Rattle.std.specs.Prelude.{ℕ, ◌<◌, ◌≤◌, ◌+◌, ◌-◌, nat_eq, nat_lt, not, Bool, true, false, ◌&&◌, ◌||◌, length, slice_get, Option, Some, None, List, if◌then◌else◌}
use Rattle.text_structure.specs.declared.mark.Directive.{Directive}
use Rattle.text_structure.specs.declared.mark.Known.{Known}
use Rattle.text_structure.specs.declared.mark.Mark.{Mark}
use Rattle.text_structure.specs.declared.closer.Closer.{Closer}
use Rattle.text_structure.specs.declared.closer.Turn.{Turn}

abbrev pub sign_in : Option Mark → ℕ
sign_in (Some (Mark.Sign code)) = code
sign_in other = 0

-- the code of the sign at a place; 0 for every other token
abbrev pub sign_at : List Mark → ℕ → ℕ
sign_at m at = sign_in (slice_get m at)

abbrev pub directive_in : Option Mark → Option Directive
directive_in (Some (Mark.Known (Known.Directive directive))) = Some directive
directive_in other = None

-- the directive whose `#` stands at a place
abbrev pub directive_at : List Mark → ℕ → Option Directive
directive_at m at = if nat_eq (sign_at m at) 35 then directive_in (slice_get m (at + 1)) else None

abbrev pub is_word : Option Mark → Bool
is_word (Some (Mark.Known known)) = true
is_word (Some (Mark.Name name)) = true
is_word other = false

abbrev pub is_block_word : Option Mark → Bool
is_block_word (Some (Mark.Known Known.Block)) = true
is_block_word other = false

abbrev pub is_colour : Option Mark → Bool
is_colour (Some (Mark.Known Known.Colour)) = true
is_colour other = false

abbrev pub is_number : Option Mark → Bool
is_number (Some Mark.Number) = true
is_number other = false

abbrev pub is_operand : Option Mark → Bool
is_operand mark = is_number mark || is_word mark

-- a word of a block with its opening brace
abbrev pub is_block : List Mark → ℕ → Bool
is_block m at = is_block_word (slice_get m at) && nat_eq (sign_at m (at + 1)) 123

-- `<` opens a vector or colour behind a sign other than `)`, `]`, `}` and `>` ..
abbrev pub opens_after : ℕ → Bool
opens_after code = not (nat_eq code 0) && not (nat_eq code 41) && not (nat_eq code 93) && not (nat_eq code 125) && not (nat_eq code 62)

-- .. and behind a word of a colour that doesn't follow a dot
abbrev pub opens_angle : List Mark → ℕ → Bool
opens_angle m at =
    if nat_eq at 0 then false
    else (if opens_after (sign_at m (at - 1)) then true
    else (if not (is_colour (slice_get m (at - 1))) then false
    else (nat_eq at 1 || not (nat_eq (sign_at m (at - 2)) 46))))

-- the sign that closes a list; none, told as 0, where a directive's word does
abbrev pub closing : Closer → ℕ
closing Closer.End = 0
closing Closer.Branch = 0
closing Closer.Parenthesis = 41
closing Closer.Brace = 125
closing Closer.Semicolon = 59
closing Closer.Comma = 44
closing Closer.Round = 41
closing Closer.Square = 93
closing Closer.Curly = 125
closing Closer.Angle = 62

-- whether all kinds of brackets and right sides count in a list
abbrev pub is_mixed : Closer → Bool
is_mixed Closer.End = false
is_mixed Closer.Branch = false
is_mixed Closer.Parenthesis = false
is_mixed Closer.Brace = false
is_mixed other = true

-- a right side is a block up to its brace, or reaches to its semicolon
abbrev pub side_turn : List Mark → ℕ → Turn
side_turn m at = if is_block m at then Turn.Inside Closer.Brace (at + 2) else Turn.Inside Closer.Semicolon at

-- a declaration is passed over with its right side
abbrev pub declare_turn : List Mark → Closer → ℕ → Turn
declare_turn m closer at =
    if is_mixed closer && is_word (slice_get m (at + 2)) && nat_eq (sign_at m (at + 3)) 61 then side_turn m (at + 4) else Turn.Over (at + 1)

-- `#version` with its number or name and a semicolon
abbrev pub version_turn : List Mark → ℕ → Turn
version_turn m at =
    if is_operand (slice_get m (at + 2)) && nat_eq (sign_at m (at + 3)) 59 then Turn.Over (at + 4) else Turn.Over (at + 1)

-- what divides a body ends every list in it, but not the search for its `#end`
abbrev pub divided_turn : Closer → ℕ → Turn
divided_turn Closer.End at = Turn.Over (at + 1)
divided_turn other at = Turn.Stop

-- a directive that has an `#end` is passed over up to it; of most others only the `#` and the word
abbrev pub directive_turn : List Mark → Closer → ℕ → Directive → Turn
directive_turn m closer at Directive.If = Turn.Inside Closer.End (at + 2)
directive_turn m closer at Directive.Ifdef = Turn.Inside Closer.End (at + 2)
directive_turn m closer at Directive.Ifndef = Turn.Inside Closer.End (at + 2)
directive_turn m closer at Directive.While = Turn.Inside Closer.End (at + 2)
directive_turn m closer at Directive.For = Turn.Inside Closer.End (at + 2)
directive_turn m closer at Directive.Switch = Turn.Inside Closer.End (at + 2)
directive_turn m closer at Directive.Macro = Turn.Inside Closer.End (at + 2)
directive_turn m closer at Directive.End = Turn.Stop
directive_turn m closer at Directive.Else = divided_turn closer at
directive_turn m closer at Directive.Case = divided_turn closer at
directive_turn m closer at Directive.Range = divided_turn closer at
directive_turn m closer at Directive.Declare = declare_turn m closer at
directive_turn m closer at Directive.Local = declare_turn m closer at
directive_turn m closer at Directive.Version = version_turn m at
directive_turn m closer at other = Turn.Over (at + 1)

-- where one kind of bracket alone is counted
abbrev pub bracket_turn : Closer → ℕ → ℕ → ℕ → Turn
bracket_turn closer opening at code =
    if nat_eq code opening then Turn.Inside closer (at + 1) else (if nat_eq code (closing closer) then Turn.Stop else Turn.Over (at + 1))

-- where all brackets count: a closing sign closes the innermost open one where that is of its kind, else it closes nothing
abbrev pub mixed_turn : List Mark → Closer → ℕ → ℕ → Turn
mixed_turn m closer at code =
    if nat_eq code (closing closer) then Turn.Stop
    else (if nat_eq code 40 then Turn.Inside Closer.Round (at + 1)
    else (if nat_eq code 91 then Turn.Inside Closer.Square (at + 1)
    else (if nat_eq code 123 then Turn.Inside Closer.Curly (at + 1)
    else (if nat_eq code 60 && opens_angle m at then Turn.Inside Closer.Angle (at + 1) else Turn.Over (at + 1)))))

abbrev pub sign_turn : List Mark → Closer → ℕ → ℕ → Turn
sign_turn m Closer.End at code = Turn.Over (at + 1)
sign_turn m Closer.Branch at code = Turn.Over (at + 1)
sign_turn m Closer.Parenthesis at code = bracket_turn Closer.Parenthesis 40 at code
sign_turn m Closer.Brace at code = bracket_turn Closer.Brace 123 at code
sign_turn m closer at code = mixed_turn m closer at code

abbrev pub turn_by : List Mark → Closer → ℕ → Option Directive → Turn
turn_by m closer at (Some directive) = directive_turn m closer at directive
turn_by m closer at None = sign_turn m closer at (sign_at m at)

-- what the token at a place is to a list
abbrev pub turn_at : List Mark → Closer → ℕ → Turn
turn_at m closer at = if nat_lt at (length m) then turn_by m closer at (directive_at m at) else Turn.Stop

-- a list goes on behind the token, and within the text
abbrev pub IsAhead : ℕ → ℕ → Turn → Type 0
IsAhead at count Turn.Stop = at ≤ at
IsAhead at count (Turn.Over next) = (at < next) × (next ≤ count)
IsAhead at count (Turn.Inside inner start) = (at < start) × (start ≤ count)

-- ---- where the outer list goes on behind an inner one that ends at a place

abbrev pub is_end : Option Directive → Bool
is_end (Some Directive.End) = true
is_end other = false

abbrev pub past_end : List Mark → ℕ → ℕ
past_end m at = if is_end (directive_at m at) then at + 2 else at

abbrev pub past_brace : List Mark → ℕ → ℕ
past_brace m at = if not (nat_eq (sign_at m at) 125) then at else (if nat_eq (sign_at m (at + 1)) 59 then at + 2 else at + 1)

abbrev pub past_sign : List Mark → ℕ → ℕ → ℕ
past_sign m code at = if nat_eq (sign_at m at) code then at + 1 else at

abbrev pub past : List Mark → Closer → ℕ → ℕ
past m Closer.End at = past_end m at
past m Closer.Branch at = at
past m Closer.Comma at = at
past m Closer.Brace at = past_brace m at
past m Closer.Parenthesis at = past_sign m 41 at
past m Closer.Semicolon at = past_sign m 59 at
past m Closer.Round at = past_sign m 41 at
past m Closer.Square at = past_sign m 93 at
past m Closer.Curly at = past_sign m 125 at
past m Closer.Angle at = past_sign m 62 at
