-- What operators make of values. (Reference manual, operators)
use Rattle.std.specs.Prelude.{ℕ, ℤ, pos, ◌+ℤ◌, ◌-ℤ◌, neg_ℤ, ◌∷◌, [], List, map, replicate, Bool, true, false, not, ◌&&◌, ◌||◌, nat_eq, int_lt, int_le, Result, Ok, Err, Option, Some, None, if◌then◌else◌, slice_index_or}
use Rattle.std.specs.Ordering.{int_eq}
use Rattle.std.specs.List.{list_any}
use Rattle.fix_math.specs.Numbers.{product_of}
use Rattle.fix_math.specs.Outcomes.{in_range, divided}
use Rattle.fix_math.specs.declared.fix.NumFault.{NumFault}
use Rattle.fix_math.specs.declared.fix.V3.{V3}
use Rattle.scene_lexer.specs.declared.sign.TheConstants.{AND, AT_LEAST, AT_MOST, EQUAL, GREATER, LESS, MINUS, NOT, NOT_EQUAL, OR, OVER, PLUS, TIMES}
use Rattle.scene_expr.specs.declared.value.Value.{Value}
use Rattle.scene_expr.specs.declared.value.Trouble.{Trouble}
use Rattle.scene_expr.specs.declared.operators.Prefix.{Prefix}
use Rattle.scene_expr.specs.declared.operators.Prefix.TheVariants.{Minus, Plus, Not}
use Rattle.scene_expr.specs.declared.operators.Arithmetic.{Arithmetic}
use Rattle.scene_expr.specs.declared.operators.Arithmetic.TheVariants.{Add, Subtract, Multiply, Divide}
use Rattle.scene_expr.specs.declared.operators.Comparison.{Comparison}
use Rattle.scene_expr.specs.declared.operators.Comparison.TheVariants.{Equal, NotEqual, Less, AtMost, Greater, AtLeast}
use Rattle.scene_expr.specs.declared.operators.Connective.{Connective}
use Rattle.scene_expr.specs.declared.operators.Connective.TheVariants.{And, Or}
use Rattle.scene_expr.specs.declared.operators.Operator.{Operator}
use Rattle.scene_expr.specs.Values.{answer, float}

-- ---- numbers

-- each result is rounded once
abbrev pub calculated : Arithmetic → ℤ → ℤ → Result ℤ NumFault
calculated Add a b = in_range (a +ℤ b)
calculated Subtract a b = in_range (a -ℤ b)
calculated Multiply a b = in_range (product_of a b)
calculated Divide a b = divided a b

abbrev pub compares : Comparison → ℤ → ℤ → Bool
compares Equal a b = int_eq a b
compares NotEqual a b = not (int_eq a b)
compares Less a b = int_lt a b
compares AtMost a b = int_le a b
compares Greater a b = int_lt b a
compares AtLeast a b = int_le b a

-- a number that isn't 0 stands for true
abbrev pub is_true : ℤ → Bool
is_true a = not (int_eq a (pos 0))

-- true is 1, false is 0
abbrev pub truth : Bool → Value
truth b = Value.Float (if b then pos 65536 else pos 0)

abbrev pub connects : Connective → Bool → Bool → Bool
connects And a b = a && b
connects Or a b = a || b

-- ---- vectors and colours

-- a float for each component of a vector
abbrev pub repeated : ℤ → V3
repeated a = record { x = a; y = a; z = a }

-- a vector as a colour has no filter and no transmit
abbrev pub colour_numbers : V3 → List ℤ
colour_numbers v = v.x ∷ v.y ∷ v.z ∷ pos 0 ∷ pos 0 ∷ []

abbrev pub number_at : List ℤ → ℕ → ℤ
number_at numbers k = slice_index_or numbers k (pos 0)

abbrev pub is_zero_divisor : Result ℤ NumFault → Bool
is_zero_divisor (Err NumFault.ZeroDivisor) = true
is_zero_divisor (Err NumFault.Range) = false
is_zero_divisor (Ok a) = false

abbrev pub is_range : Result ℤ NumFault → Bool
is_range (Err NumFault.ZeroDivisor) = false
is_range (Err NumFault.Range) = true
is_range (Ok a) = false

abbrev pub number_or_zero : Result ℤ NumFault → ℤ
number_or_zero (Ok a) = a
number_or_zero (Err fault) = pos 0

-- all numbers, or the fault: a zero divisor in one component comes before an overflow in another
abbrev pub all_of : List (Result ℤ NumFault) → Result (List ℤ) NumFault
all_of calculations =
    if list_any is_zero_divisor calculations then Err NumFault.ZeroDivisor
    else (if list_any is_range calculations then Err NumFault.Range else Ok (map number_or_zero calculations))

abbrev pub vector_of : List ℤ → V3
vector_of numbers = record { x = number_at numbers 0; y = number_at numbers 1; z = number_at numbers 2 }

-- component by component
abbrev pub vectors : (ℤ → ℤ → Result ℤ NumFault) → V3 → V3 → Result Value Trouble
vectors f v w = answer (λ numbers. Value.Vector (vector_of numbers)) (all_of (f v.x w.x ∷ f v.y w.y ∷ f v.z w.z ∷ []))

abbrev pub colours : (ℤ → ℤ → Result ℤ NumFault) → List ℤ → List ℤ → Result Value Trouble
colours f c d =
    answer Value.Color (all_of (f (number_at c 0) (number_at d 0) ∷ f (number_at c 1) (number_at d 1) ∷ f (number_at c 2) (number_at d 2) ∷ f (number_at c 3) (number_at d 3) ∷ f (number_at c 4) (number_at d 4) ∷ []))

-- a float goes with each component; a vector with a colour is its first three, the others 0; texts take no operator
abbrev pub arithmetic_of : (ℤ → ℤ → Result ℤ NumFault) → Value → Value → Result Value Trouble
arithmetic_of f (Value.Float a) (Value.Float b) = float (f a b)
arithmetic_of f (Value.Float a) (Value.Vector w) = vectors f (repeated a) w
arithmetic_of f (Value.Float a) (Value.Color d) = colours f (replicate 5 a) d
arithmetic_of f (Value.Vector v) (Value.Float b) = vectors f v (repeated b)
arithmetic_of f (Value.Vector v) (Value.Vector w) = vectors f v w
arithmetic_of f (Value.Vector v) (Value.Color d) = colours f (colour_numbers v) d
arithmetic_of f (Value.Color c) (Value.Float b) = colours f c (replicate 5 b)
arithmetic_of f (Value.Color c) (Value.Vector w) = colours f c (colour_numbers w)
arithmetic_of f (Value.Color c) (Value.Color d) = colours f c d
arithmetic_of f (Value.Text s) right = Err Trouble.Kind
arithmetic_of f left (Value.Text s) = Err Trouble.Kind

-- ---- operators

abbrev pub on_floats : (ℤ → ℤ → Value) → Value → Value → Result Value Trouble
on_floats f (Value.Float a) (Value.Float b) = Ok (f a b)
on_floats f left right = Err Trouble.Kind

-- what an operator makes of its two sides
abbrev pub applied : Operator → Value → Value → Result Value Trouble
applied (Operator.Arithmetic op) left right = arithmetic_of (calculated op) left right
applied (Operator.Comparison op) left right = on_floats (λ a b. truth (compares op a b)) left right
applied (Operator.Connective op) left right = on_floats (λ a b. truth (connects op (is_true a) (is_true b))) left right

-- what a sign makes of the value behind it
abbrev pub prefixed : Prefix → Value → Result Value Trouble
prefixed Minus (Value.Float a) = Ok (Value.Float (neg_ℤ a))
prefixed Minus (Value.Vector v) = Ok (Value.Vector (record { x = neg_ℤ v.x; y = neg_ℤ v.y; z = neg_ℤ v.z }))
prefixed Minus (Value.Color c) = Ok (Value.Color (map neg_ℤ c))
prefixed Minus (Value.Text s) = Err Trouble.Kind
prefixed Plus (Value.Text s) = Err Trouble.Kind
prefixed Plus value = Ok value
prefixed Not (Value.Float a) = Ok (truth (not (is_true a)))
prefixed Not value = Err Trouble.Kind

-- the second or the third part of a choice
abbrev pub chosen : Value → Value → Value → Result Value Trouble
chosen (Value.Float a) first second = Ok (if is_true a then first else second)
chosen condition first second = Err Trouble.Kind

-- ---- their signs

abbrev pub sum_operator : ℕ → Option Operator
sum_operator sign =
    if nat_eq sign PLUS then Some (Operator.Arithmetic Add) else
    (if nat_eq sign MINUS then Some (Operator.Arithmetic Subtract) else None)

abbrev pub term_operator : ℕ → Option Operator
term_operator sign =
    if nat_eq sign TIMES then Some (Operator.Arithmetic Multiply) else
    (if nat_eq sign OVER then Some (Operator.Arithmetic Divide) else None)

abbrev pub comparison : ℕ → Option Operator
comparison sign =
    if nat_eq sign EQUAL then Some (Operator.Comparison Equal) else
    (if nat_eq sign NOT_EQUAL then Some (Operator.Comparison NotEqual) else
    (if nat_eq sign LESS then Some (Operator.Comparison Less) else
    (if nat_eq sign AT_MOST then Some (Operator.Comparison AtMost) else
    (if nat_eq sign GREATER then Some (Operator.Comparison Greater) else
    (if nat_eq sign AT_LEAST then Some (Operator.Comparison AtLeast) else None)))))

abbrev pub connective : ℕ → Option Operator
connective sign =
    if nat_eq sign AND then Some (Operator.Connective And) else
    (if nat_eq sign OR then Some (Operator.Connective Or) else None)

abbrev pub prefix : ℕ → Option Prefix
prefix sign =
    if nat_eq sign MINUS then Some Minus else
    (if nat_eq sign PLUS then Some Plus else (if nat_eq sign NOT then Some Not else None))
