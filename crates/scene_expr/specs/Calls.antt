-- What calls make of their arguments. (Reference manual, float, vector and string functions)
use Rattle.std.specs.Prelude.{ℕ, ℤ, List, [], ◌∷◌, ◌++◌, Result, Ok, Err, Option, Some, None, Bool, true, false}
use Rattle.std.specs.Int.{int_min, int_max}
use Rattle.fix_math.specs.Directions.{unit_of}
use Rattle.fix_math.specs.Outcomes.{in_range}
use Rattle.fix_math.specs.declared.fix.NumFault.{NumFault}
use Rattle.fix_math.specs.declared.fix.V3.{V3}
use Rattle.scene_expr.specs.declared.value.Value.{Value}
use Rattle.scene_expr.specs.declared.value.Trouble.{Trouble}
use Rattle.scene_expr.specs.declared.words.Call.{Call}
use Rattle.scene_expr.specs.declared.words.Call.TheVariants.{Abs, Ceil, Floor, Int, Sqrt, Sin, Cos, Tan, Radians, Degrees, Mod, Div, Pow, Min, Max, Vdot, Vcross, Vrotate, Vlength, Vnormalize, Strlen, Concat, Chr, Str}
use Rattle.scene_expr.specs.Values.{answer, float}
use Rattle.scene_expr.specs.Numbers.{size_of, floor_of, ceil_of, cut, root_of, sine, cosine, tangent, radians_of, degrees_of, whole_quotient, remainder, power_to, natural_of}
use Rattle.scene_expr.specs.Vectors.{dot_value, cross_value, rotated, length_value}
use Rattle.scene_expr.specs.Texts.{size_value, text_value, byte_value, str_value}

-- ---- kinds of arguments: any other kind or number of them is refused

abbrev pub on_float : (ℤ → Result Value Trouble) → List Value → Result Value Trouble
on_float f (Value.Float a ∷ []) = f a
on_float f values = Err Trouble.Kind

abbrev pub on_two_floats : (ℤ → ℤ → Result Value Trouble) → List Value → Result Value Trouble
on_two_floats f (Value.Float a ∷ Value.Float b ∷ []) = f a b
on_two_floats f values = Err Trouble.Kind

abbrev pub on_three_floats : (ℤ → ℤ → ℤ → Result Value Trouble) → List Value → Result Value Trouble
on_three_floats f (Value.Float a ∷ Value.Float b ∷ Value.Float c ∷ []) = f a b c
on_three_floats f values = Err Trouble.Kind

abbrev pub on_vector : (V3 → Result Value Trouble) → List Value → Result Value Trouble
on_vector f (Value.Vector v ∷ []) = f v
on_vector f values = Err Trouble.Kind

abbrev pub on_two_vectors : (V3 → V3 → Result Value Trouble) → List Value → Result Value Trouble
on_two_vectors f (Value.Vector v ∷ Value.Vector w ∷ []) = f v w
on_two_vectors f values = Err Trouble.Kind

abbrev pub on_text : (List ℕ → Result Value Trouble) → List Value → Result Value Trouble
on_text f (Value.Text s ∷ []) = f s
on_text f values = Err Trouble.Kind

-- all are floats, one at least: the first, and each further one in turn
abbrev pub folded : (ℤ → ℤ → ℤ) → ℤ → List Value → Result Value Trouble
folded f a [] = Ok (Value.Float a)
folded f a (Value.Float b ∷ values) = folded f (f a b) values
folded f a (_ ∷ values) = Err Trouble.Kind

abbrev pub on_floats : (ℤ → ℤ → ℤ) → List Value → Result Value Trouble
on_floats f (Value.Float a ∷ values) = folded f a values
on_floats f values = Err Trouble.Kind

abbrev pub with_front : List ℕ → Option (List ℕ) → Option (List ℕ)
with_front s None = None
with_front s (Some text) = Some (s ++ text)

-- the bytes of texts, one after another, if all are texts
abbrev pub joined : List Value → Option (List ℕ)
joined [] = Some []
joined (Value.Text s ∷ values) = with_front s (joined values)
joined (_ ∷ values) = None

abbrev pub on_texts : (List ℕ → Result Value Trouble) → Option (List ℕ) → Result Value Trouble
on_texts f None = Err Trouble.Kind
on_texts f (Some text) = f text

-- ---- calls

abbrev pub vector_value : Result V3 NumFault → Result Value Trouble
vector_value calculated = answer Value.Vector calculated

-- what a call makes of its arguments
unfoldable pub called : Call → List Value → Result Value Trouble
called Abs values = on_float (λ a. float (size_of a)) values
called Ceil values = on_float (λ a. float (in_range (ceil_of a))) values
called Floor values = on_float (λ a. float (in_range (floor_of a))) values
called Int values = on_float (λ a. Ok (Value.Float (cut a))) values
called Sqrt values = on_float (λ a. float (root_of a)) values
called Sin values = on_float (λ a. float (sine a)) values
called Cos values = on_float (λ a. float (cosine a)) values
called Tan values = on_float (λ a. float (tangent a)) values
called Radians values = on_float (λ a. float (radians_of a)) values
called Degrees values = on_float (λ a. float (degrees_of a)) values
called Mod values = on_two_floats (λ a b. float (remainder a b)) values
called Div values = on_two_floats (λ a b. float (whole_quotient a b)) values
called Pow values = on_two_floats (λ a b. float (power_to a b)) values
called Min values = on_floats int_min values
called Max values = on_floats int_max values
called Vdot values = on_two_vectors (λ v w. float (dot_value v w)) values
called Vcross values = on_two_vectors (λ v w. vector_value (cross_value v w)) values
called Vrotate values = on_two_vectors (λ v w. vector_value (rotated v w)) values
called Vlength values = on_vector (λ v. float (length_value v)) values
called Vnormalize values = on_vector (λ v. Ok (Value.Vector (unit_of v))) values
called Strlen values = on_text size_value values
called Concat values = on_texts text_value (joined values)
called Chr values = on_float (λ a. byte_value (natural_of 255 a)) values
called Str values = on_three_floats str_value values

-- the calls whose value is a text
abbrev pub makes_text : Call → Bool
makes_text Concat = true
makes_text Chr = true
makes_text Str = true
makes_text other = false
