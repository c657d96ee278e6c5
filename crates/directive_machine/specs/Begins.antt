-- What each token begins.
use Rattle.std.specs.Prelude.{ℕ, ◌+◌, nat_lt, Bool, true, false, ◌||◌, not, List, is_some, length, min, Option, Some, None, Result, Ok, if◌then◌else◌}
use Rattle.text_structure.specs.declared.mark.Directive.{Directive}
use Rattle.text_structure.specs.declared.closer.Closer.{Closer}
use Rattle.text_structure.specs.Texts.{Text, end_of}
use Rattle.text_structure.specs.Turns.{directive_at}
use Rattle.scope_tables.specs.Names.{Scope, found}
use Rattle.directive_machine.specs.declared.part.Circle.{Circle}
use Rattle.directive_machine.specs.declared.part.Turns.{Turns}
use Rattle.directive_machine.specs.declared.part.Span.{Span}
use Rattle.directive_machine.specs.declared.part.Part.{Part}
use Rattle.directive_machine.specs.declared.part.Then.{Then}
use Rattle.directive_machine.specs.Moves.{Action}
use Rattle.directive_machine.specs.State.{State, Stopped, Begun, begun, on_ok, counted, deeper, passed, asked, named, is_aside}

abbrev pub span : ℕ → ℕ → Span
span at end = record { at = at; end = end }

-- a part that a token of another one opens
abbrev pub opened : Part → ℕ → Span → Bool → ℕ → Then → ℕ → Action
opened outer depth list closed from then' behind =
    Action.Open (record { text = outer.text; depth = depth; at = list.at; end = list.end; closed = closed; from = from; outer = is_aside outer; then = then' }) behind

-- a list behind a `(`, up to its `)` or the end of what it stands in
abbrev pub listed : Text → ℕ → ℕ → Span
listed t at limit = span at (min (end_of t Closer.Parenthesis at) limit)

abbrev pub is_closed : Text → ℕ → ℕ → Bool
is_closed t at limit = nat_lt (end_of t Closer.Parenthesis at) limit

abbrev pub is_else : Option Directive → Bool
is_else (Some Directive.Else) = true
is_else other = false

-- the body behind an `#else`, if one stands there
abbrev pub otherwise : Text → ℕ → Span
otherwise t at = if is_else (directive_at t.marks at) then span (at + 2) (end_of t Closer.Branch (at + 2)) else span at at

abbrev pub opened_body : Part → ℕ → Span → ℕ → Action
opened_body outer depth list behind = opened outer depth list false 0 Then.Plain behind

-- where the first body of an `#if` or `#switch` ends that begins at a place, and where the whole directive does
abbrev pub limit_of : Text → ℕ → ℕ
limit_of t at = end_of t Closer.Branch (at + 2)

abbrev pub finish_of : Text → ℕ → ℕ
finish_of t at = end_of t Closer.End (at + 2)

-- an `#if`: its `(`, and then its condition; behind it one of its bodies
abbrev pub begun_if : Text → Part → ℕ → State → Result Begun Stopped
begun_if t part at s =
    on_ok (deeper t at part.depth s) (λ inside.
    on_ok (counted t (at + 1) s) (λ s1.
    on_ok (passed 40 t (at + 2) (limit_of t at) s1) (λ s2.
    Ok (begun (opened part inside (listed t (at + 3) (limit_of t at)) (is_closed t (at + 3) (limit_of t at)) (length s2.out)
    (Then.Decide (span ((listed t (at + 3) (limit_of t at)).end + 1) (limit_of t at)) (otherwise t (limit_of t at))) (finish_of t at + 2)) s2))))

abbrev pub is_bound : List Scope → Option ℕ → Bool
is_bound scopes None = false
is_bound scopes (Some name) = is_some (found scopes name)

abbrev pub is_held : List Scope → Option ℕ → Bool → Bool
is_held scopes name wanted = if wanted then is_bound scopes name else not (is_bound scopes name)

abbrev pub chosen : Bool → Span → Span → Span
chosen held first second = if held then first else second

-- an `#ifdef` or `#ifndef`: one of its bodies
abbrev pub begun_ifdef : Text → Part → Bool → ℕ → State → Result Begun Stopped
begun_ifdef t part wanted at s =
    on_ok (deeper t at part.depth s) (λ inside.
    on_ok (counted t (at + 1) s) (λ s1.
    on_ok (passed 40 t (at + 2) (limit_of t at) s1) (λ s2.
    on_ok (asked t (at + 3) (limit_of t at) s2) (λ name.
    on_ok (passed 41 t (at + 4) (limit_of t at) name.state) (λ s4.
    Ok (begun (opened_body part inside (chosen (is_held s4.scopes name.name wanted) (span (at + 5) (limit_of t at)) (otherwise t (limit_of t at))) (finish_of t at + 2)) s4))))))

abbrev pub circle : Text → ℕ → Circle
circle t at = record { sign = at + 2; condition = listed t (at + 3) (finish_of t at); closed = is_closed t (at + 3) (finish_of t at); body = span ((listed t (at + 3) (finish_of t at)).end + 1) (finish_of t at) }

-- a `#while`: its `(`, and then its condition
abbrev pub begun_while : Text → Part → ℕ → State → Result Begun Stopped
begun_while t part at s =
    on_ok (deeper t at part.depth s) (λ inside.
    on_ok (counted t (at + 1) s) (λ s1.
    on_ok (passed 40 t (at + 2) (finish_of t at) s1) (λ s2.
    Ok (begun (opened part inside (circle t at).condition (circle t at).closed (length s2.out) (Then.Test (circle t at)) (finish_of t at + 2)) s2))))

-- one of several lists that commas divide, up to its comma or to the end of all
abbrev pub piece : Text → ℕ → ℕ → Span
piece t at close = span at (min (end_of t Closer.Comma at) close)

abbrev pub is_piece_closed : Text → ℕ → ℕ → Bool → Bool
is_piece_closed t at close closed = closed || nat_lt (end_of t Closer.Comma at) close

abbrev pub turns : Text → ℕ → ℕ → Turns
turns t name at = record { name = name; word = at + 1; close = (listed t (at + 3) (finish_of t at)).end; closed = is_closed t (at + 3) (finish_of t at); body = span ((listed t (at + 3) (finish_of t at)).end + 1) (finish_of t at) }

-- a `#for`: its `(`, its variable and a comma, and then its first number
abbrev pub begun_for : Text → Part → ℕ → State → Result Begun Stopped
begun_for t part at s =
    on_ok (deeper t at part.depth s) (λ inside.
    on_ok (counted t (at + 1) s) (λ s1.
    on_ok (passed 40 t (at + 2) (finish_of t at) s1) (λ s2.
    on_ok (named t (at + 3) (finish_of t at) s2) (λ variable.
    on_ok (passed 44 t (at + 4) (finish_of t at) variable.state) (λ s4.
    Ok (begun (opened part inside (piece t (at + 5) (turns t variable.name at).close) (is_piece_closed t (at + 5) (turns t variable.name at).close (turns t variable.name at).closed) (length s4.out)
    (Then.From (turns t variable.name at)) (finish_of t at + 2)) s4))))))

-- a `#switch`: its `(`, and then its value
abbrev pub begun_switch : Text → Part → ℕ → State → Result Begun Stopped
begun_switch t part at s =
    on_ok (deeper t at part.depth s) (λ inside.
    on_ok (counted t (at + 1) s) (λ s1.
    on_ok (passed 40 t (at + 2) (limit_of t at) s1) (λ s2.
    Ok (begun (opened part inside (listed t (at + 3) (limit_of t at)) (is_closed t (at + 3) (limit_of t at)) (length s2.out) (Then.Choose (limit_of t at)) (finish_of t at + 2)) s2))))
