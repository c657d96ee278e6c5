-- What follows a part: a further one, or nothing; and what a condition decides.
use Rattle.std.specs.Prelude.{ℕ, ℤ, pos, not, Bool, false, length, Result, Ok, if◌then◌else◌}
use Rattle.std.specs.Ordering.{int_eq}
use Rattle.scene_expr.specs.declared.value.ExprFault.{ExprFault}
use Rattle.scene_expr.specs.declared.value.Value.{Value}
use Rattle.directive_machine.specs.declared.stop.Stop.{Stop}
use Rattle.directive_machine.specs.declared.part.Span.{Span}
use Rattle.directive_machine.specs.declared.part.Circle.{Circle}
use Rattle.directive_machine.specs.declared.part.Part.{Part}
use Rattle.directive_machine.specs.declared.part.Then.{Then}
use Rattle.directive_machine.specs.Moves.{Next}
use Rattle.directive_machine.specs.State.{State, Stopped, Settled, settled, refused}
use Rattle.directive_machine.specs.Begins.{chosen}
use Rattle.directive_machine.specs.Values.{Valued}

abbrev pub done : State → Result Settled Stopped
done s = Ok (settled (Next.Done false) s)

-- a further part of the same text and depth
abbrev pub next_part : Part → Span → Bool → ℕ → Then → Part
next_part part list closed from then' = record { text = part.text; depth = part.depth; at = list.at; end = list.end; closed = closed; from = from; outer = part.outer; then = then' }

abbrev pub goes_on : Part → Span → Bool → Then → State → Result Settled Stopped
goes_on part list closed then' s = Ok (settled (Next.Further (next_part part list closed (length s.out) then')) s)

abbrev pub run_next : Part → Span → Then → Next
run_next part list then' = Next.Further (next_part part list false 0 then')

abbrev pub runs : Part → Span → Then → State → Result Settled Stopped
runs part list then' s = Ok (settled (run_next part list then') s)

-- a directive takes a float
abbrev pub float : Valued → Result ℤ Stopped
float v = float_of v.value
  where
    float_of : Value → Result ℤ Stopped
    float_of (Value.Float value) = Ok value
    float_of other = refused (Stop.Expr (ExprFault.Kind v.first)) v.state

abbrev pub is_true : ℤ → Bool
is_true value = not (int_eq value (pos 0))

abbrev pub decided_next : Part → Span → Span → ℤ → Next
decided_next part held otherwise value = run_next part (chosen (is_true value) held otherwise) Then.Plain

abbrev pub decided : Part → Span → Span → ℤ → State → Result Settled Stopped
decided part held otherwise value s = Ok (settled (decided_next part held otherwise value) s)

abbrev pub tested_next : Part → Circle → ℤ → Next
tested_next part circle value = if is_true value then run_next part circle.body (Then.Again circle) else Next.Done false

abbrev pub tested : Part → Circle → ℤ → State → Result Settled Stopped
tested part circle value s = Ok (settled (tested_next part circle value) s)
