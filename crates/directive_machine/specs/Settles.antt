-- What is made of each part, once it is expanded.
use Rattle.std.specs.Prelude.{Bool, true, false, drop, Option, None, Result}
use Rattle.std.specs.Ordering.{int_eq}
use Rattle.text_structure.specs.Texts.{Text}
use Rattle.text_structure.specs.Turns.{directive_at}
use Rattle.scope_tables.specs.declared.binding.Binding.{Binding}
use Rattle.scope_tables.specs.Names.{left}
use Rattle.directive_machine.specs.declared.part.Part.{Part}
use Rattle.directive_machine.specs.declared.part.Then.{Then}
use Rattle.directive_machine.specs.Moves.{Next}
use Rattle.directive_machine.specs.State.{State, Stopped, Settled, settled, on_ok, passed, restored}
use Rattle.directive_machine.specs.Declares.{bound_as}
use Rattle.directive_machine.specs.Values.{Valued, closed}
use Rattle.directive_machine.specs.Nexts.{done, goes_on, float, decided, tested}
use Rattle.directive_machine.specs.Cases.{next_case, matched_case, made_low, made_high, fallen_by}
use Rattle.directive_machine.specs.Rounds.{numbered, made_from, made_to, made_by, turned}
use Rattle.directive_machine.specs.Arguments.{made_call, made_argument}
use Rattle.directive_machine.specs.Holds.{text_of, said, made_block}

-- what is made of a value; the text is that of the macro that a call calls
abbrev pub made : Text → Option Text → Part → Then → Valued → Result Settled Stopped
made t home part (Then.Bind name local) v = done (bound_as local name (Binding.Value v.value) v.state)
made t home part (Then.Decide held otherwise) v = on_ok (float v) (λ value. decided part held otherwise value v.state)
made t home part (Then.Test circle) v = on_ok (float v) (λ value. tested part circle value v.state)
made t home part (Then.Choose first) v = on_ok (float v) (λ value. next_case t part value None first v.state)
made t home part (Then.Case c) v = on_ok (float v) (λ value. matched_case t part c (int_eq c.value value) v.state)
made t home part (Then.Low c) v = on_ok (float v) (λ value. made_low t part c value v.state)
made t home part (Then.High c low) v = on_ok (float v) (λ value. made_high t part c low value v.state)
made t home part (Then.From turns) v = on_ok (float v) (λ value. made_from t part turns value v.state)
made t home part (Then.To turns first) v = on_ok (float v) (λ value. made_to t part turns first value v.state)
made t home part (Then.By turns first last) v = on_ok (float v) (λ value. made_by t part turns first last value v.state)
made t home part (Then.Pass call) v = made_argument t home part call (Binding.Value v.value) v.state
made t home part (Then.Say error at) v = on_ok (text_of v) (λ text. said t at error text v.state)
made t home part other v = done v.state

-- the kinds of parts whose value binds no argument and names no text
abbrev pub is_plain : Then → Bool
is_plain (Then.Bind name local) = true
is_plain (Then.Decide held otherwise) = true
is_plain (Then.Test circle) = true
is_plain (Then.Choose first) = true
is_plain (Then.Case c) = true
is_plain (Then.Low c) = true
is_plain (Then.High c low) = true
is_plain (Then.From turns) = true
is_plain (Then.To turns first) = true
is_plain (Then.By turns first last) = true
is_plain (Then.Say error at) = true
is_plain other = false

-- what is made of a part that isn't evaluated
abbrev pub settled_by : Text → Option Text → Part → Then → State → Result Settled Stopped
settled_by t home part Then.Leave s = done (record s { scopes = left s.scopes })
settled_by t home part (Then.Hold name local stop) s = made_block t part name local stop s
settled_by t home part (Then.Again circle) s = on_ok (passed 40 t circle.sign circle.body.end s) (goes_on part circle.condition circle.closed (Then.Test circle))
settled_by t home part (Then.Fall parted) s = fallen_by (directive_at t.marks part.end) t part parted part.end s
settled_by t home part (Then.Turn turns number last step) s = turned t part turns number last step s
settled_by t home part (Then.Give call) s = on_ok (closed t part s) (λ s'. made_argument t home part call (Binding.Block (drop part.from s'.out)) (restored part.from s'))
settled_by t home part (Then.Refer call name) s = on_ok (closed t part s) (made_argument t home part call (Binding.Reference name))
settled_by t home part (Then.Enter call) s = on_ok (closed t part s) (made_call part call.called)
settled_by t home part other s = done s

-- without the scope of a call whose arguments are read
abbrev pub dropped : State → State
dropped s = record s { waiting = left s.waiting }

-- what a `#break` gives up: the switch or loop that it ends goes no further, and all else passes it on
abbrev pub given_up : Part → Then → State → Settled
given_up part Then.Plain s = settled (Next.Done true) s
given_up part Then.Leave s = settled (Next.Done true) (record s { scopes = left s.scopes })
given_up part (Then.Again circle) s = settled (Next.Done false) s
given_up part (Then.Fall parted) s = settled (Next.Done false) s
given_up part (Then.Turn turns number last step) s = settled (Next.Done false) (numbered turns number s)
given_up part (Then.Test circle) s = settled (Next.Done false) (restored part.from s)
given_up part (Then.Choose first) s = settled (Next.Done false) (restored part.from s)
given_up part (Then.Case c) s = settled (Next.Done false) (restored part.from s)
given_up part (Then.Low c) s = settled (Next.Done false) (restored part.from s)
given_up part (Then.High c low) s = settled (Next.Done false) (restored part.from s)
given_up part (Then.From turns) s = settled (Next.Done false) (restored part.from s)
given_up part (Then.To turns first) s = settled (Next.Done false) (restored part.from s)
given_up part (Then.By turns first last) s = settled (Next.Done false) (restored part.from s)
given_up part (Then.Pass call) s = settled (Next.Done true) (dropped (restored part.from s))
given_up part (Then.Give call) s = settled (Next.Done true) (dropped (restored part.from s))
given_up part (Then.Refer call name) s = settled (Next.Done true) (dropped (restored part.from s))
given_up part (Then.Enter call) s = settled (Next.Done true) (dropped (restored part.from s))
given_up part other s = settled (Next.Done true) (restored part.from s)

abbrev pub is_argument : Then → Bool
is_argument (Then.Pass call) = true
is_argument (Then.Give call) = true
is_argument (Then.Refer call name) = true
is_argument other = false

-- the kinds of parts that bind no argument and name no text
abbrev pub is_told : Then → Bool
is_told (Then.Pass call) = false
is_told (Then.Give call) = false
is_told (Then.Refer call name) = false
is_told (Then.Read at) = false
is_told other = true
