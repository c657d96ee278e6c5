-- Parameters: the kinds and ranges of their values. Numbers are raw: 1 unit is 65536. (Reference manual, vectors, colours and floats)
use Rattle.std.specs.Prelude.{ℤ, pos, neg_ℤ, Bool, true, ◌&&◌, List, [], ◌∷◌, replicate, int_le, if◌then◌else◌, Option, Some, None, Result, Ok, Err}
use Rattle.fix_math.specs.declared.fix.V3.{V3}
use Rattle.scene_lexer.specs.declared.token.Place.{Place}
use Rattle.scene_lexer.specs.declared.token.Token.{Token}
use Rattle.scene_expr.specs.declared.value.Settings.{Settings}
use Rattle.scene_expr.specs.declared.value.Value.{Value}
use Rattle.scene_expr.specs.Grammar.{Read}
use Rattle.scene_expr.specs.Heads.{place_at}
use Rattle.scene_expr.specs.Operators.{repeated, colour_numbers, number_at}
use Rattle.scene_expr.specs.Then.{IsThen, Is}
use Rattle.item_blocks.specs.declared.fault.ParseFault.{ParseFault}
use Rattle.item_blocks.specs.declared.fault.Wanted.{Wanted}
use Rattle.item_blocks.specs.Tokens.{IsExpression, Behind, behind, Reading}

-- ---- kinds

abbrev pub float_in : Value → Option ℤ
float_in (Value.Float a) = Some a
float_in (Value.Vector v) = None
float_in (Value.Color c) = None
float_in (Value.Text s) = None

-- a float stands for each component
abbrev pub vector_in : Value → Option V3
vector_in (Value.Float a) = Some (repeated a)
vector_in (Value.Vector v) = Some v
vector_in (Value.Color c) = None
vector_in (Value.Text s) = None

-- the five numbers of a colour: a float stands for each, and a vector has no filter and transmit
abbrev pub colour_in : Value → Option (List ℤ)
colour_in (Value.Float a) = Some (replicate 5 a)
colour_in (Value.Vector v) = Some (colour_numbers v)
colour_in (Value.Color c) = Some c
colour_in (Value.Text s) = None

abbrev pub first_three : List ℤ → List ℤ
first_three c = number_at c 0 ∷ number_at c 1 ∷ number_at c 2 ∷ []

-- red, green and blue alone
abbrev pub rgb_from : Option (List ℤ) → Option (List ℤ)
rgb_from None = None
rgb_from (Some c) = Some (first_three c)

-- ---- ranges

abbrev pub is_between : ℤ → ℤ → ℤ → Bool
is_between low high value = int_le low value && int_le value high

abbrev pub is_vector_between : ℤ → ℤ → V3 → Bool
is_vector_between low high v = is_between low high v.x && (is_between low high v.y && is_between low high v.z)

abbrev pub are_between : ℤ → ℤ → List ℤ → Bool
are_between low high c = is_between low high (number_at c 0) && (is_between low high (number_at c 1) && is_between low high (number_at c 2))

-- red, green and blue are from 0 to 256 units, filter and transmit to 1
abbrev pub is_colour : List ℤ → Bool
is_colour c =
    are_between (pos 0) (pos 16777216) c && (is_between (pos 0) (pos 65536) (number_at c 3) && is_between (pos 0) (pos 65536) (number_at c 4))

-- ---- values of a kind, in a range: else a fault at the parameter's first token

abbrev pub in_range : {A : Type 0} → Bool → A → Place → Result A ParseFault
in_range inside a place = if inside then Ok a else Err (ParseFault.ValueRange place)

abbrev pub checked : {A : Type 0} → (A → Bool) → Option A → Place → Result A ParseFault
checked inside None place = Err (ParseFault.Expected place Wanted.Parameter)
checked inside (Some a) place = in_range (inside a) a place

abbrev pub float_of : ℤ → ℤ → Value → Place → Result ℤ ParseFault
float_of low high value place = checked (is_between low high) (float_in value) place

abbrev pub vector_of : ℤ → ℤ → Value → Place → Result V3 ParseFault
vector_of low high value place = checked (is_vector_between low high) (vector_in value) place

-- coordinates are at most 4096 units in size
abbrev pub point_of : Value → Place → Result V3 ParseFault
point_of value place = vector_of (neg_ℤ (pos 268435456)) (pos 268435456) value place

-- a direction has no range of its own
abbrev pub any_vector_of : Value → Place → Result V3 ParseFault
any_vector_of value place = checked (λ v. true) (vector_in value) place

abbrev pub any_float_of : Value → Place → Result ℤ ParseFault
any_float_of value place = checked (λ a. true) (float_in value) place

-- of a colour red, green and blue alone, from 0 to a greatest one
abbrev pub rgb_of : ℤ → Value → Place → Result (List ℤ) ParseFault
rgb_of high value place = checked (are_between (pos 0) high) (rgb_from (colour_in value)) place

-- the colour of a light
abbrev pub light_of : Value → Place → Result (List ℤ) ParseFault
light_of value place = rgb_of (pos 16777216) value place

abbrev pub colour_of : Value → Place → Result (List ℤ) ParseFault
colour_of value place = checked is_colour (colour_in value) place

-- ---- a parameter: its expression's fault, else its kind's or its range's

abbrev pub IsParameter : (A : Type 0) → (Value → Place → Result A ParseFault) → List Token → Settings → Reading A
IsParameter A meaning tokens set at r =
    IsThen Read (Behind A) ParseFault (IsExpression tokens set at) (λ read. Is (behind (meaning read.value (place_at tokens at)) read.next)) r
