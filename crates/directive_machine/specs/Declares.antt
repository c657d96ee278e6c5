-- Declarations, macros, and the other directives without an `#end`.
use Rattle.std.specs.Prelude.{ℕ, zero, suc, ◌+◌, nat_lt, nat_eq, Bool, true, false, ◌&&◌, ◌||◌, List, length, min, slice_get, Option, Some, None, Result, Ok, if◌then◌else◌}
use Rattle.scene_lexer.specs.declared.token.Token.{Token}
use Rattle.scene_expr.specs.declared.value.Value.{Value}
use Rattle.text_structure.specs.declared.mark.Mark.{Mark}
use Rattle.text_structure.specs.declared.mark.Directive.{Directive}
use Rattle.text_structure.specs.declared.closer.Closer.{Closer}
use Rattle.text_structure.specs.Texts.{Text, end_of}
use Rattle.text_structure.specs.Turns.{sign_at, is_block}
use Rattle.scope_tables.specs.declared.binding.Binding.{Binding}
use Rattle.scope_tables.specs.Names.{Scope, found, declared, bound, removed}
use Rattle.directive_machine.specs.declared.part.Part.{Part}
use Rattle.directive_machine.specs.declared.part.Then.{Then}
use Rattle.directive_machine.specs.Moves.{Action}
use Rattle.directive_machine.specs.State.{State, Stopped, Begun, begun, on_ok, counted, deeper, passed, asked, named, wrong}
use Rattle.directive_machine.specs.Begins.{span, opened, finish_of}

abbrev pub step : ℕ → State → Result Begun Stopped
step next s = Ok (begun (Action.Step next) s)

-- `#local` binds in the innermost scope, `#declare` by its own rule
abbrev pub bound_as : Bool → ℕ → Binding → State → State
bound_as local name b s = record s { scopes = if local then bound s.scopes name b else declared s.scopes name b }

-- a semicolon is taken where one stands
abbrev pub has_stop : Text → ℕ → ℕ → Bool
has_stop t at end = nat_lt at end && nat_eq (sign_at t.marks at) 59

abbrev pub stop_taken : Text → ℕ → ℕ → State → Result State Stopped
stop_taken t at end s = if has_stop t at end then counted t at s else Ok s

abbrev pub behind_stop : Text → ℕ → ℕ → ℕ
behind_stop t at end = if has_stop t at end then at + 1 else at

-- the block that a name is bound to, which stands at a place
abbrev pub block_in : Option Binding → Option (List Token)
block_in (Some (Binding.Block block)) = Some block
block_in other = None

abbrev pub block_by : List Scope → Option Mark → Option (List Token)
block_by scopes (Some (Mark.Name name)) = block_in (found scopes name)
block_by scopes other = None

abbrev pub block_at : Text → ℕ → List Scope → Option (List Token)
block_at t at scopes = block_by scopes (slice_get t.marks at)

-- a block with its word, up to its brace
abbrev pub begun_block : Text → Part → Bool → ℕ → ℕ → State → Result Begun Stopped
begun_block t part local name at s =
    Ok (begun (opened part part.depth (span at (min (end_of t Closer.Brace (at + 2) + 1) part.end)) (nat_lt (end_of t Closer.Brace (at + 2)) part.end) (length s.out)
    (Then.Hold name local (has_stop t (end_of t Closer.Brace (at + 2) + 1) part.end)) (behind_stop t (end_of t Closer.Brace (at + 2) + 1) part.end)) s)

-- a bare name of a block, which ends the right side
abbrev pub begun_copy : Text → Part → Bool → ℕ → ℕ → List Token → State → Result Begun Stopped
begun_copy t part local name at block s =
    on_ok (counted t at s) (λ s1.
    on_ok (stop_taken t (at + 1) part.end s1) (λ s2.
    step (behind_stop t (at + 1) part.end) (bound_as local name (Binding.Block block) s2)))

-- every other right side runs to its semicolon
abbrev pub begun_list : Text → Part → Bool → ℕ → ℕ → State → Result Begun Stopped
begun_list t part local name at s =
    Ok (begun (opened part part.depth (span at (min (end_of t Closer.Semicolon at) part.end)) (nat_lt (end_of t Closer.Semicolon at) part.end) (length s.out) (Then.Bind name local) (end_of t Closer.Semicolon at + 1)) s)

abbrev pub begun_name : Text → Part → Bool → ℕ → ℕ → Option (List Token) → State → Result Begun Stopped
begun_name t part local name at (Some block) s = begun_copy t part local name at block s
begun_name t part local name at None s = begun_list t part local name at s

abbrev pub begun_side : Text → Part → Bool → ℕ → ℕ → State → Result Begun Stopped
begun_side t part local name at s =
    if is_block t.marks at then begun_block t part local name at s
    else (if nat_lt at part.end then begun_name t part local name at (block_at t at s.scopes) s else begun_list t part local name at s)

abbrev pub directive_of : Bool → Directive
directive_of local = if local then Directive.Local else Directive.Declare

-- a `#declare` or `#local`: its name, its `=` and its right side
abbrev pub begun_declare : Text → Part → Bool → ℕ → State → Result Begun Stopped
begun_declare t part local at s =
    on_ok (counted t (at + 1) s) (λ s1.
    on_ok (named t (at + 2) part.end s1) (λ target.
    on_ok (passed 61 t (at + 3) part.end target.state) (λ s3.
    begun_side t part local target.name (at + 4) s3)))

-- an `#undef`
abbrev pub unbound : Option ℕ → State → State
unbound None s = s
unbound (Some name) s = record s { scopes = removed s.scopes name }

abbrev pub begun_undef : Text → Part → ℕ → State → Result Begun Stopped
begun_undef t part at s =
    on_ok (counted t (at + 1) s) (λ s1.
    on_ok (asked t (at + 2) part.end s1) (λ target.
    step (at + 3) (unbound target.name target.state)))

-- the text of a message, or the name of a text: a text, a word, or a word with its parentheses
abbrev pub word_told : Text → Part → ℕ → ℕ → Then → State → Result Begun Stopped
word_told t part depth at then' s =
    if nat_lt (at + 1) part.end && nat_eq (sign_at t.marks (at + 1)) 40
    then Ok (begun (opened part depth (span at (min (end_of t Closer.Parenthesis (at + 2) + 1) part.end)) (nat_lt (end_of t Closer.Parenthesis (at + 2)) part.end) (length s.out) then' (end_of t Closer.Parenthesis (at + 2) + 1)) s)
    else Ok (begun (opened part depth (span at (at + 1)) true (length s.out) then' (at + 1)) s)

-- a token that doesn't fit is taken, and then refused
abbrev pub refused_at : Text → ℕ → State → Result Begun Stopped
refused_at t at s = on_ok (counted t at s) (wrong 4 t at)

abbrev pub told_by : Option Mark → Text → Part → ℕ → ℕ → Then → State → Result Begun Stopped
told_by (Some Mark.Text) t part depth at then' s = Ok (begun (opened part depth (span at (at + 1)) true (length s.out) then' (at + 1)) s)
told_by (Some (Mark.Name name)) t part depth at then' s = word_told t part depth at then' s
told_by (Some (Mark.Known known)) t part depth at then' s = word_told t part depth at then' s
told_by other t part depth at then' s = refused_at t at s

abbrev pub told : Text → Part → ℕ → ℕ → Then → State → Result Begun Stopped
told t part depth at then' s = if nat_lt at part.end then told_by (slice_get t.marks at) t part depth at then' s else wrong 4 t at s

abbrev pub begun_message : Text → Part → Bool → ℕ → State → Result Begun Stopped
begun_message t part error at s = on_ok (counted t (at + 1) s) (told t part part.depth (at + 2) (Then.Say error (at + 2)))

abbrev pub begun_include : Text → Part → ℕ → State → Result Begun Stopped
begun_include t part at s = on_ok (deeper t at part.depth s) (λ inside. on_ok (counted t (at + 1) s) (told t part inside (at + 2) (Then.Read (at + 2))))

-- `#version` takes a number, or a name that is bound to a float
abbrev pub is_float : Option Binding → Bool
is_float (Some (Binding.Value (Value.Float value))) = true
is_float other = false

abbrev pub is_version : Option Mark → List Scope → Bool
is_version (Some Mark.Number) scopes = true
is_version (Some (Mark.Name name)) scopes = is_float (found scopes name)
is_version other scopes = false

abbrev pub version_taken : Text → ℕ → State → Result State Stopped
version_taken t at s = if is_version (slice_get t.marks at) s.scopes then Ok s else wrong 4 t at s

abbrev pub begun_version : Text → Part → ℕ → State → Result Begun Stopped
begun_version t part at s =
    on_ok (counted t (at + 1) s) (λ s1.
    if nat_lt (at + 2) part.end then
    on_ok (counted t (at + 2) s1) (λ s2.
    on_ok (version_taken t (at + 2) s2) (λ s3.
    on_ok (stop_taken t (at + 3) part.end s3) (step (behind_stop t (at + 3) part.end))))
    else wrong 4 t (at + 2) s1)

-- the parameters of a macro, and the place behind their `)`
pub record Parameters : Type 0 where
  pub count : ℕ
  pub behind : ℕ
  pub state : State

abbrev pub all_named : ℕ → ℕ → State → Result Parameters Stopped
all_named count behind s = Ok (record { count = count; behind = behind; state = s })

-- the comma or the `)` behind a parameter
abbrev pub separated : Text → ℕ → ℕ → State → Result State Stopped
separated t at end s =
    if nat_lt at end then on_ok (counted t at s) (λ s'. if nat_eq (sign_at t.marks at) 44 || nat_eq (sign_at t.marks at) 41 then Ok s' else wrong 4 t at s') else wrong 4 t at s

abbrev pub parameters : Text → ℕ → ℕ → ℕ → ℕ → State → Result Parameters Stopped
parameters t end zero count at s = wrong 4 t at s
parameters t end (suc left) count at s =
    on_ok (named t at end s) (λ parameter.
    on_ok (separated t (at + 1) end parameter.state) (λ s'.
    if nat_eq (sign_at t.marks (at + 1)) 44 then parameters t end left (count + 1) (at + 2) s' else all_named (count + 1) (at + 2) s'))

abbrev pub parameters_of : Text → ℕ → ℕ → State → Result Parameters Stopped
parameters_of t at end s =
    if nat_lt at end && nat_eq (sign_at t.marks at) 41 then on_ok (counted t at s) (all_named 0 (at + 1)) else parameters t end end 0 at s

abbrev pub macro_of : ℕ → ℕ → ℕ → Parameters → Binding
macro_of text at end found = Binding.Macro (record { text = text; parameters = at; count = found.count; body = found.behind; end = end })

-- a `#macro`: its name is bound, and its body is passed over
abbrev pub begun_macro : Text → Part → ℕ → State → Result Begun Stopped
begun_macro t part at s =
    on_ok (counted t (at + 1) s) (λ s1.
    on_ok (named t (at + 2) (finish_of t at) s1) (λ target.
    on_ok (passed 40 t (at + 3) (finish_of t at) target.state) (λ s3.
    on_ok (parameters_of t (at + 4) (finish_of t at) s3) (λ found.
    step (finish_of t at + 2) (bound_as false target.name (macro_of part.text (at + 4) (finish_of t at) found) found.state)))))
