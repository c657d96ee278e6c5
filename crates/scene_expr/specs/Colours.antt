-- Colours: red, green, blue, filter and transmit. (Reference manual, specifying colors)
use Rattle.std.specs.Prelude.{ℕ, ℤ, pos, ◌∷◌, [], List, replicate, set, Result, Ok, Err, Option, Some, None}
use Rattle.fix_math.specs.declared.fix.V3.{V3}
use Rattle.scene_expr.specs.declared.value.Value.{Value}
use Rattle.scene_expr.specs.declared.value.Trouble.{Trouble}
use Rattle.scene_expr.specs.declared.words.ColourForm.{ColourForm}
use Rattle.scene_expr.specs.declared.words.ColourForm.TheVariants.{Rgb, Rgbf, Rgbt, Rgbft}
use Rattle.scene_expr.specs.declared.words.Channel.{Channel}
use Rattle.scene_expr.specs.declared.words.Channel.TheVariants.{Red, Green, Blue, Filter, Transmit}
use Rattle.scene_expr.specs.declared.words.Axis.{Axis}
use Rattle.scene_expr.specs.declared.words.Component.{Component}
use Rattle.scene_expr.specs.Operators.{colour_numbers, number_at}

abbrev pub black : List ℤ
black = replicate 5 (pos 0)

-- the numbers that the word of a form keeps; `rgbt` takes the fourth for transmit
abbrev pub kept : ColourForm → List ℤ → List ℤ
kept Rgb c = number_at c 0 ∷ number_at c 1 ∷ number_at c 2 ∷ pos 0 ∷ pos 0 ∷ []
kept Rgbf c = number_at c 0 ∷ number_at c 1 ∷ number_at c 2 ∷ number_at c 3 ∷ pos 0 ∷ []
kept Rgbt c = number_at c 0 ∷ number_at c 1 ∷ number_at c 2 ∷ pos 0 ∷ number_at c 3 ∷ []
kept Rgbft c = c

-- a float stands for each number that the word names, a vector for the first three
abbrev pub formed : ColourForm → Value → Result Value Trouble
formed form (Value.Float a) = Ok (Value.Color (kept form (replicate 5 a)))
formed form (Value.Vector v) = Ok (Value.Color (kept form (colour_numbers v)))
formed form (Value.Color c) = Ok (Value.Color (kept form c))
formed form (Value.Text s) = Err Trouble.Kind

-- what `color` before a value means: a vector or a colour alone
abbrev pub as_colour : Value → Result Value Trouble
as_colour (Value.Vector v) = Ok (Value.Color (colour_numbers v))
as_colour (Value.Color c) = Ok (Value.Color c)
as_colour (Value.Float a) = Err Trouble.Kind
as_colour (Value.Text s) = Err Trouble.Kind

abbrev pub place_of : Channel → ℕ
place_of Red = 0
place_of Green = 1
place_of Blue = 2
place_of Filter = 3
place_of Transmit = 4

-- a colour with another number, which is a float
abbrev pub with_channel : List ℤ → Channel → Value → Result (List ℤ) Trouble
with_channel c channel (Value.Float a) = Ok (set c (place_of channel) a)
with_channel c channel value = Err Trouble.Kind

abbrev pub along : V3 → Axis → ℤ
along v Axis.X = v.x
along v Axis.Y = v.y
along v Axis.Z = v.z

-- a component of a vector or of a colour
abbrev pub component : Component → Value → Result Value Trouble
component (Component.Axis axis) (Value.Vector v) = Ok (Value.Float (along v axis))
component (Component.Channel channel) (Value.Color c) = Ok (Value.Float (number_at c (place_of channel)))
component other value = Err Trouble.Kind

-- ---- numbers between `<` and `>`

-- the number, if it is a float
abbrev pub number_in : Value → Result ℤ Trouble
number_in (Value.Float a) = Ok a
number_in value = Err Trouble.Kind

abbrev pub with_first : ℤ → Option (List ℤ) → Option (List ℤ)
with_first a None = None
with_first a (Some numbers) = Some (a ∷ numbers)

-- the numbers, if all are floats
abbrev pub floats_of : List Value → Option (List ℤ)
floats_of [] = Some []
floats_of (Value.Float a ∷ values) = with_first a (floats_of values)
floats_of (_ ∷ values) = None

-- three are a vector; four or five are a colour, whose last is 0 where it is missing; no other number is anything
abbrev pub group_of : Option (List ℤ) → Result Value Trouble
group_of None = Err Trouble.Kind
group_of (Some (x ∷ y ∷ z ∷ [])) = Ok (Value.Vector (record { x = x; y = y; z = z }))
group_of (Some (red ∷ green ∷ blue ∷ filter ∷ [])) = Ok (Value.Color (red ∷ green ∷ blue ∷ filter ∷ pos 0 ∷ []))
group_of (Some (red ∷ green ∷ blue ∷ filter ∷ transmit ∷ [])) = Ok (Value.Color (red ∷ green ∷ blue ∷ filter ∷ transmit ∷ []))
group_of (Some numbers) = Err Trouble.Kind

abbrev pub grouped : List Value → Result Value Trouble
grouped values = group_of (floats_of values)
