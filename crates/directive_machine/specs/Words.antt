-- What the words of a text that aren't directives come to.
use Rattle.std.specs.Prelude.{ℕ, zero, suc, ◌+◌, nat_lt, nat_eq, ℤ, pos, Bool, true, false, not, ◌&&◌, List, [], ◌∷◌, map, length, slice_get, Option, Some, None, is_some, Result, Ok, if◌then◌else◌}
use Rattle.scene_lexer.specs.declared.token.Kind.{Kind}
use Rattle.scene_lexer.specs.declared.token.Token.{Token}
use Rattle.scene_expr.specs.declared.value.Value.{Value}
use Rattle.text_structure.specs.declared.mark.Mark.{Mark}
use Rattle.text_structure.specs.declared.closer.Closer.{Closer}
use Rattle.text_structure.specs.Texts.{Text, end_of}
use Rattle.text_structure.specs.Turns.{sign_at, is_word, is_block_word}
use Rattle.scope_tables.specs.declared.binding.Binding.{Binding}
use Rattle.scope_tables.specs.declared.binding.Macro.{Macro}
use Rattle.scope_tables.specs.Names.{Scope, found, entered}
use Rattle.directive_machine.specs.declared.part.Call.{Call}
use Rattle.directive_machine.specs.declared.part.Part.{Part}
use Rattle.directive_machine.specs.declared.part.Then.{Then}
use Rattle.directive_machine.specs.Moves.{Action}
use Rattle.directive_machine.specs.State.{State, Stopped, Begun, begun, on_ok, counted, deeper, passed, wrong, handed, is_aside}
use Rattle.directive_machine.specs.Begins.{listed, is_closed, piece, is_piece_closed}
use Rattle.directive_machine.specs.Declares.{step}

-- a token is handed out as it is
abbrev pub handed_token : Option Token → Part → ℕ → State → Result Begun Stopped
handed_token None part next s = step next s
handed_token (Some token) part next s = on_ok (handed part (token ∷ []) token.place s) (step next)

abbrev pub handed_at : Text → Part → ℕ → State → Result Begun Stopped
handed_at t part at s = handed_token (slice_get t.tokens at) part (at + 1) s

-- a token that has the place of another one
abbrev pub like : Token → Kind → Token
like token kind = record { kind = kind; place = token.place; to = token.to }

abbrev pub rest_of_row : Token → List ℤ → List Token
rest_of_row token [] = like token (Kind.Sign 62) ∷ []
rest_of_row token (value ∷ values) = like token (Kind.Sign 44) ∷ like token (Kind.Number value) ∷ rest_of_row token values

abbrev pub row_of : Token → List ℤ → List Token
row_of token [] = []
row_of token (value ∷ values) = like token (Kind.Sign 60) ∷ like token (Kind.Number value) ∷ rest_of_row token values

-- the tokens of a value, at the place of its name
abbrev pub value_tokens : Token → Value → List Token
value_tokens token (Value.Float value) = like token (Kind.Number value) ∷ []
value_tokens token (Value.Vector v) = row_of token (v.x ∷ v.y ∷ v.z ∷ [])
value_tokens token (Value.Color c) = row_of token c
value_tokens token (Value.Text text) = like token (Kind.Text text) ∷ []

abbrev pub placed : Token → Token → Token
placed token other = like token other.kind

abbrev pub substituted : Part → ℕ → Token → List Token → State → Result Begun Stopped
substituted part next token tokens s = on_ok (handed part tokens token.place s) (step next)

-- `defined(N)` becomes 1 or 0
abbrev pub is_defined : Text → ℕ → ℕ → Bool
is_defined t at end = nat_lt (at + 3) end && nat_eq (sign_at t.marks (at + 1)) 40 && is_word (slice_get t.marks (at + 2)) && nat_eq (sign_at t.marks (at + 3)) 41

abbrev pub is_bound_by : Option Mark → List Scope → Bool
is_bound_by (Some (Mark.Name name)) scopes = is_some (found scopes name)
is_bound_by other scopes = false

abbrev pub truth : Bool → ℤ
truth held = if held then pos 65536 else pos 0

abbrev pub handed_truth : Option Token → Part → Bool → ℕ → State → Result Begun Stopped
handed_truth None part held next s = step next s
handed_truth (Some token) part held next s = substituted part next token (like token (Kind.Number (truth held)) ∷ []) s

abbrev pub begun_defined : Text → Part → ℕ → State → Result Begun Stopped
begun_defined t part at s =
    if is_defined t at part.end then
    on_ok (counted t (at + 1) s) (λ s1.
    on_ok (counted t (at + 2) s1) (λ s2.
    on_ok (counted t (at + 3) s2) (λ s3.
    handed_truth (slice_get t.tokens at) part (is_bound_by (slice_get t.marks (at + 2)) s3.scopes) (at + 4) s3)))
    else handed_at t part at s

-- ---- calls

-- how many commas divide the arguments that are left
abbrev pub commas : Text → ℕ → ℕ → ℕ → ℕ → ℕ
commas t close zero count at = count
commas t close (suc left) count at = if nat_lt (end_of t Closer.Comma at) close then commas t close left (count + 1) (end_of t Closer.Comma at + 1) else count

abbrev pub arguments : Text → ℕ → ℕ → ℕ
arguments t at close = if nat_eq at close then 0 else commas t close close 0 at + 1

-- a part that holds an argument, and the state once it is opened
pub record Argued : Type 0 where
  pub part : Part
  pub state : State

abbrev pub argued_part : Part → ℕ → ℕ → Bool → ℕ → Then → Part
argued_part p at end closed from then' = record { text = p.text; depth = p.depth; at = at; end = end; closed = closed; from = from; outer = p.outer; then = then' }

abbrev pub argued : Part → ℕ → ℕ → Bool → Then → State → Result Argued Stopped
argued p at end closed then' s = Ok (record { part = argued_part p at end closed (length s.out) then'; state = s })

-- a block is a word of a block, or a name, with its braces
abbrev pub may_hold : Option Mark → Bool
may_hold (Some (Mark.Name name)) = true
may_hold other = is_block_word other

abbrev pub is_braced : Text → ℕ → ℕ → Bool
is_braced t at end = may_hold (slice_get t.marks at) && nat_eq (sign_at t.marks (at + 1)) 123 && nat_eq (end_of t Closer.Brace (at + 2) + 1) end

abbrev pub list_argued : Text → Part → Call → ℕ → ℕ → Bool → State → Result Argued Stopped
list_argued t p call at end closed s = if is_braced t at end then argued p at end closed (Then.Give call) s else argued p at end closed (Then.Pass call) s

-- one word that isn't reserved is a reference
abbrev pub word_argued : Option Mark → Text → Part → Call → ℕ → ℕ → Bool → State → Result Argued Stopped
word_argued (Some (Mark.Name name)) t p call at end closed s =
    if nat_eq (at + 1) end then on_ok (counted t at s) (argued p end end closed (Then.Refer call name)) else list_argued t p call at end closed s
word_argued other t p call at end closed s = list_argued t p call at end closed s

-- the argument of a call that begins at a place; the part gives its text, depth and whether it stands aside
abbrev pub argument : Text → Part → Call → ℕ → State → Result Argued Stopped
argument t p call at s =
    word_argued (slice_get t.marks at) t p call at (piece t at call.close).end (is_piece_closed t at call.close call.closed) s

abbrev pub first_argument : Text → Part → Call → ℕ → State → Result Argued Stopped
first_argument t p call at s = if nat_eq at call.close then argued p at at call.closed (Then.Enter call) s else argument t p call at s

abbrev pub call_of : Text → Macro → ℕ → ℕ → Call
call_of t called at end = record { called = called; index = 0; close = (listed t at end).end; closed = is_closed t at end }

-- whether a call that is written whole has another number of arguments
abbrev pub is_misfit : Text → Macro → ℕ → ℕ → Bool
is_misfit t called at end =
    nat_lt (at + 1) end && nat_eq (sign_at t.marks (at + 1)) 40 && is_closed t (at + 2) end && not (nat_eq (arguments t (at + 2) (listed t (at + 2) end).end) called.count)

abbrev pub calling : Part → ℕ → Part
calling part inside = record { text = part.text; depth = inside; at = part.at; end = part.end; closed = part.closed; from = part.from; outer = is_aside part; then = part.then }

-- a call: its `(`, and then its first argument
abbrev pub begun_call : Text → Part → ℕ → Macro → State → Result Begun Stopped
begun_call t part at called s =
    on_ok (deeper t at part.depth s) (λ inside.
    if is_misfit t called at part.end then wrong 6 t at s else
    on_ok (passed 40 t (at + 1) part.end s) (λ s1.
    on_ok (first_argument t (calling part inside) (call_of t called (at + 2) part.end) (at + 2) (record s1 { waiting = entered s1.waiting })) (λ first.
    Ok (begun (Action.Open first.part ((call_of t called (at + 2) part.end).close + 1)) first.state))))

-- a name is handed out, or what it is bound to
abbrev pub begun_bound : Option Binding → Text → Part → ℕ → Option Token → State → Result Begun Stopped
begun_bound (Some (Binding.Macro called)) t part at token s = begun_call t part at called s
begun_bound (Some (Binding.Value value)) t part at (Some token) s = substituted part (at + 1) token (value_tokens token value) s
begun_bound (Some (Binding.Block block)) t part at (Some token) s = substituted part (at + 1) token (map (placed token) block) s
begun_bound other t part at token s = handed_token token part (at + 1) s
