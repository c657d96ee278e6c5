-- The values of expressions, and why there is none.
use Rattle.std.specs.Prelude.{ℕ, ◌<◌, ◌^◌, ℤ, Bool, nat_le, List, length, Result, Ok, Err}
use Rattle.fix_math.specs.declared.fix.NumFault.{NumFault}
use Rattle.scene_lexer.specs.declared.token.Place.{Place}
use Rattle.scene_expr.specs.declared.value.Settings.{Settings}
use Rattle.scene_expr.specs.declared.value.Value.{Value}
use Rattle.scene_expr.specs.declared.value.Trouble.{Trouble}
use Rattle.scene_expr.specs.declared.value.ExprFault.{ExprFault}

-- the fault of the operator or call that stands here
abbrev pub fault_at : Trouble → Place → ExprFault
fault_at Trouble.Kind place = ExprFault.Kind place
fault_at Trouble.ZeroDivisor place = ExprFault.ZeroDivisor place
fault_at Trouble.Range place = ExprFault.Range place
fault_at Trouble.NoMemory place = ExprFault.NoMemory

abbrev pub trouble_of : NumFault → Trouble
trouble_of NumFault.ZeroDivisor = Trouble.ZeroDivisor
trouble_of NumFault.Range = Trouble.Range

-- the value that a calculation answers
abbrev pub answer : {A : Type 0} → (A → Value) → Result A NumFault → Result Value Trouble
answer value (Ok a) = Ok (value a)
answer value (Err fault) = Err (trouble_of fault)

abbrev pub float : Result ℤ NumFault → Result Value Trouble
float calculated = answer Value.Float calculated

-- a text has at most so many bytes
abbrev pub is_short : List ℕ → Bool
is_short text = nat_le (length text) 65536

-- what a frame tells in whole numbers is a value
pub record AreWhole (set : Settings) : Type 0 where
  pub frame_number : set.frame_number < 2 ^ 31
  pub initial_frame : set.initial_frame < 2 ^ 31
  pub final_frame : set.final_frame < 2 ^ 31
  pub image_width : set.image_width < 2 ^ 31
  pub image_height : set.image_height < 2 ^ 31
