-- What a message says, and the blocks that are declared.
use Rattle.std.specs.Prelude.{ℕ, ◌+◌, ◌-◌, nat_lt, nat_eq, Bool, true, false, ◌&&◌, List, [], ◌∷◌, ◌++◌, drop, length, Option, Some, Result, Ok, if◌then◌else◌}
use Rattle.scene_lexer.specs.declared.token.Token.{Token}
use Rattle.scene_lexer.specs.declared.token.Kind.{Kind}
use Rattle.scene_expr.specs.declared.value.ExprFault.{ExprFault}
use Rattle.scene_expr.specs.declared.value.Value.{Value}
use Rattle.scene_expr.specs.Heads.{place_at, sign_of}
use Rattle.text_structure.specs.declared.mark.Known.{Known}
use Rattle.text_structure.specs.Texts.{Text}
use Rattle.text_structure.specs.Words.{known_of}
use Rattle.scope_tables.specs.declared.binding.Binding.{Binding}
use Rattle.directive_machine.specs.declared.stop.Stop.{Stop}
use Rattle.directive_machine.specs.declared.part.Part.{Part}
use Rattle.directive_machine.specs.State.{State, Stopped, Settled, refused, on_ok, counted, wrong, restored}
use Rattle.directive_machine.specs.Declares.{bound_as}
use Rattle.directive_machine.specs.Values.{Valued}
use Rattle.directive_machine.specs.Nexts.{done}

abbrev pub most_messages : ℕ
most_messages = 1048576

abbrev pub text_of : Valued → Result (List ℕ) Stopped
text_of v = bytes_of v.value
  where
    bytes_of : Value → Result (List ℕ) Stopped
    bytes_of (Value.Text text) = Ok text
    bytes_of other = refused (Stop.Expr (ExprFault.Kind v.first)) v.state

abbrev pub said : Text → ℕ → Bool → List ℕ → State → Result Settled Stopped
said t at error text s =
    if error then refused (Stop.UserError text (place_at t.tokens at)) s
    else (if nat_lt (length s.messages + length text) (most_messages + 1) then done (record s { messages = s.messages ++ text }) else refused (Stop.Limit 6 (place_at t.tokens at)) s)

-- ---- blocks

-- the tokens behind an opening brace end with its closing one
abbrev pub closes_last : ℕ → List Token → Bool
closes_last depth [] = false
closes_last depth (token ∷ []) = nat_eq (sign_of (Some token)) 125 && nat_eq depth 0
closes_last depth (token ∷ next ∷ tokens) =
    if nat_eq (sign_of (Some token)) 123 then closes_last (depth + 1) (next ∷ tokens)
    else (if nat_eq (sign_of (Some token)) 125 then (if nat_eq depth 0 then false else closes_last (depth - 1) (next ∷ tokens))
    else closes_last depth (next ∷ tokens))

abbrev pub is_block_kind : Kind → Bool
is_block_kind (Kind.Word word) = is_block_known (known_of word)
  where
    is_block_known : Option Known → Bool
    is_block_known (Some Known.Block) = true
    is_block_known other = false
is_block_kind other = false

-- a list that is one block: a block's word and its braces, and nothing more
abbrev pub is_one_block : List Token → Bool
is_one_block (word ∷ brace ∷ tokens) = is_block_kind word.kind && nat_eq (sign_of (Some brace)) 123 && closes_last 0 tokens
is_one_block other = false

-- a declared block, and a semicolon after it
abbrev pub held_block : Part → ℕ → Bool → State → Result Settled Stopped
held_block part name local s = done (bound_as local name (Binding.Block (drop part.from s.out)) (restored part.from s))

abbrev pub stop_passed : Text → Bool → ℕ → State → Result State Stopped
stop_passed t stop at s = if stop then counted t at s else Ok s

abbrev pub made_block : Text → Part → ℕ → Bool → Bool → State → Result Settled Stopped
made_block t part name local stop s = if part.closed then on_ok (stop_passed t stop part.end s) (held_block part name local) else wrong 4 t part.end s
