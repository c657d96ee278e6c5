-- The arguments of a call, and the call itself.
use Rattle.std.specs.Prelude.{ℕ, ◌+◌, ◌*◌, nat_lt, false, [], ◌∷◌, ◌++◌, length, min, slice_get, Option, Some, None, Result, Ok, if◌then◌else◌}
use Rattle.text_structure.specs.declared.mark.Mark.{Mark}
use Rattle.text_structure.specs.Texts.{Text}
use Rattle.scope_tables.specs.declared.binding.Binding.{Binding}
use Rattle.scope_tables.specs.declared.binding.Macro.{Macro}
use Rattle.scope_tables.specs.Names.{bound, left, scope_at, innermost}
use Rattle.directive_machine.specs.declared.part.Call.{Call}
use Rattle.directive_machine.specs.declared.part.Part.{Part}
use Rattle.directive_machine.specs.declared.part.Then.{Then}
use Rattle.directive_machine.specs.Moves.{Next}
use Rattle.directive_machine.specs.State.{State, Stopped, Settled, settled, on_ok}
use Rattle.directive_machine.specs.Words.{Argued, argument}

abbrev pub parameter_in : Option Mark → Option ℕ
parameter_in (Some (Mark.Name name)) = Some name
parameter_in other = None

abbrev pub parameter_by : Option Text → Macro → ℕ → Option ℕ
parameter_by None called index = None
parameter_by (Some t) called index = if nat_lt index called.count then parameter_in (slice_get t.marks (called.parameters + 2 * index)) else None

abbrev pub with_argument : Option ℕ → Binding → State → State
with_argument None b s = s
with_argument (Some name) b s = record s { waiting = bound s.waiting name b }

-- the scope of a call is entered, and the body of its macro follows
abbrev pub called_state : State → State
called_state s = record s { scopes = s.scopes ++ scope_at s.waiting (innermost s.waiting) ∷ []; waiting = left s.waiting }

abbrev pub called_part : Part → Macro → Part
called_part part called = record { text = called.text; depth = part.depth; at = called.body; end = called.end; closed = false; from = 0; outer = part.outer; then = Then.Leave }

abbrev pub made_call : Part → Macro → State → Result Settled Stopped
made_call part called s = Ok (settled (Next.Further (called_part part called)) (called_state s))

abbrev pub next_call : Call → Call
next_call call = record { called = call.called; index = if nat_lt call.index call.called.count then call.index + 1 else call.index; close = call.close; closed = call.closed }

abbrev pub further_argument : Argued → Result Settled Stopped
further_argument next = Ok (settled (Next.Further next.part) next.state)

-- an argument is bound; the next one follows, or the body
abbrev pub made_argument : Text → Option Text → Part → Call → Binding → State → Result Settled Stopped
made_argument t home part call b s =
    if nat_lt part.end (min call.close (length t.marks))
    then on_ok (argument t part (next_call call) (part.end + 1) (with_argument (parameter_by home call.called call.index) b s)) further_argument
    else made_call part call.called (with_argument (parameter_by home call.called call.index) b s)
