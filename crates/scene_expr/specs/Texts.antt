-- Calls of texts. (Reference manual, string functions)
use Rattle.std.specs.Prelude.{ℕ, ◌-◌, ◌*◌, ◌/◌, ◌%◌, ◌^◌, ℤ, pos, int_lt, unsigned_abs, nat_eq, List, [], ◌∷◌, ◌++◌, length, replicate, Result, Ok, Err, Option, Some, None, if◌then◌else◌}
use Rattle.std.specs.Fmt.{decimal}
use Rattle.fix_math.specs.Numbers.{rnd}
use Rattle.fix_math.specs.Outcomes.{in_range}
use Rattle.scene_expr.specs.declared.value.Value.{Value}
use Rattle.scene_expr.specs.declared.value.Trouble.{Trouble}
use Rattle.scene_expr.specs.Numbers.{natural_of}
use Rattle.scene_expr.specs.Values.{float, is_short}

abbrev pub size_value : List ℕ → Result Value Trouble
size_value text = float (in_range (pos (length text * 65536)))

-- a text of at most 65,536 bytes
abbrev pub text_value : List ℕ → Result Value Trouble
text_value text = if is_short text then Ok (Value.Text text) else Err Trouble.Range

-- the text of one byte
abbrev pub byte_value : Option ℕ → Result Value Trouble
byte_value None = Err Trouble.Range
byte_value (Some byte) = Ok (Value.Text (byte ∷ []))

-- ---- numbers as texts

-- with so many decimals, as a whole number
abbrev pub scaled_to : ℕ → ℤ → ℕ
scaled_to places a = unsigned_abs (rnd (pos (unsigned_abs a * 10 ^ places)) (pos 65536))

-- so many digits, zeros in front
abbrev pub padded : ℕ → List ℕ → List ℕ
padded width digits = replicate (width - length digits) 48 ++ digits

-- a dot and so many digits; nothing for none
abbrev pub decimals : ℕ → ℕ → List ℕ
decimals places n = if nat_eq places 0 then [] else 46 ∷ padded places (decimal (n % 10 ^ places))

-- the digits before the dot, one at least, and those behind it
abbrev pub digits_of : ℕ → ℕ → List ℕ
digits_of places n = decimal (n / 10 ^ places) ++ decimals places n

abbrev pub minus_of : ℤ → List ℕ
minus_of a = if int_lt a (pos 0) then 45 ∷ [] else []

abbrev pub number_text : ℤ → ℕ → List ℕ
number_text a places = minus_of a ++ digits_of places (scaled_to places a)

-- spaces in front up to a length
abbrev pub spaced : ℕ → List ℕ → List ℕ
spaced width text = replicate (width - length text) 32 ++ text

-- a number as a text of at least this length, with so many decimals
abbrev pub written : ℤ → Option ℕ → Option ℕ → Result Value Trouble
written a (Some width) (Some places) = Ok (Value.Text (spaced width (number_text a places)))
written a width places = Err Trouble.Range

abbrev pub str_value : ℤ → ℤ → ℤ → Result Value Trouble
str_value a width places = written a (natural_of 64 width) (natural_of 9 places)
