-- The turns of a `#for`: its numbers, and when it ends.
use Rattle.std.specs.Prelude.{◌+◌, nat_lt, ℤ, pos, ◌+ℤ◌, int_lt, int_le, Bool, Result, Ok, Err, if◌then◌else◌}
use Rattle.std.specs.Ordering.{int_eq}
use Rattle.fix_math.specs.declared.fix.NumFault.{NumFault}
use Rattle.fix_math.specs.Outcomes.{in_range}
use Rattle.scene_expr.specs.declared.value.ExprFault.{ExprFault}
use Rattle.scene_expr.specs.declared.value.Value.{Value}
use Rattle.scene_expr.specs.Heads.{place_at}
use Rattle.text_structure.specs.Texts.{Text}
use Rattle.scope_tables.specs.declared.binding.Binding.{Binding}
use Rattle.scope_tables.specs.Names.{bound}
use Rattle.directive_machine.specs.declared.stop.Stop.{Stop}
use Rattle.directive_machine.specs.declared.part.Turns.{Turns}
use Rattle.directive_machine.specs.declared.part.Part.{Part}
use Rattle.directive_machine.specs.declared.part.Then.{Then}
use Rattle.directive_machine.specs.State.{State, Stopped, Settled, refused, wrong}
use Rattle.directive_machine.specs.Begins.{piece, is_piece_closed}
use Rattle.directive_machine.specs.Nexts.{done, goes_on, runs}

abbrev pub numbered : Turns → ℤ → State → State
numbered turns number s = record s { scopes = bound s.scopes turns.name (Binding.Value (Value.Float number)) }

abbrev pub goes_round : ℤ → ℤ → ℤ → Bool
goes_round number last step = if int_lt (pos 0) step then int_le number last else int_le last number

-- a number is tried: the variable has it, and the body runs or the loop ends
abbrev pub tried : Part → Turns → ℤ → ℤ → ℤ → State → Result Settled Stopped
tried part turns number last step s =
    if goes_round number last step then runs part turns.body (Then.Turn turns number last step) (numbered turns number s) else done (numbered turns number s)

abbrev pub begun_turns : Text → Part → Turns → ℤ → ℤ → ℤ → State → Result Settled Stopped
begun_turns t part turns first last step s = if int_eq step (pos 0) then wrong 7 t turns.word s else tried part turns first last step s

abbrev pub made_from : Text → Part → Turns → ℤ → State → Result Settled Stopped
made_from t part turns first s =
    if nat_lt part.end turns.close then goes_on part (piece t (part.end + 1) turns.close) (is_piece_closed t (part.end + 1) turns.close turns.closed) (Then.To turns first) s else wrong 4 t part.end s

abbrev pub made_to : Text → Part → Turns → ℤ → ℤ → State → Result Settled Stopped
made_to t part turns first last s =
    if nat_lt part.end turns.close then goes_on part (piece t (part.end + 1) turns.close) (is_piece_closed t (part.end + 1) turns.close turns.closed) (Then.By turns first last) s
    else begun_turns t part turns first last (pos 65536) s

abbrev pub made_by : Text → Part → Turns → ℤ → ℤ → ℤ → State → Result Settled Stopped
made_by t part turns first last step s = if nat_lt part.end turns.close then wrong 4 t part.end s else begun_turns t part turns first last step s

abbrev pub turned_by : Result ℤ NumFault → Text → Part → Turns → ℤ → ℤ → State → Result Settled Stopped
turned_by (Ok number) t part turns last step s = tried part turns number last step s
turned_by (Err f) t part turns last step s = refused (Stop.Expr (ExprFault.Range (place_at t.tokens turns.word))) s

-- a step of 0 never comes to a turn
abbrev pub turned : Text → Part → Turns → ℤ → ℤ → ℤ → State → Result Settled Stopped
turned t part turns number last step s = if int_eq step (pos 0) then done s else turned_by (in_range (number +ℤ step)) t part turns last step s
