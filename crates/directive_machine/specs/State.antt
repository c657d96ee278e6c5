-- What an expansion carries along, and its smallest steps.
use Rattle.std.specs.Prelude.{ℕ, ◌+◌, nat_lt, nat_eq, Bool, true, false, ◌||◌, List, ◌++◌, length, take, slice_get, Option, Some, None, Result, Ok, Err, if◌then◌else◌}
use Rattle.scene_lexer.specs.declared.token.Token.{Token}
use Rattle.scene_lexer.specs.declared.token.Place.{Place}
use Rattle.scene_expr.specs.Heads.{place_at}
use Rattle.text_structure.specs.declared.mark.Mark.{Mark}
use Rattle.text_structure.specs.Texts.{Text}
use Rattle.text_structure.specs.Turns.{sign_at}
use Rattle.scope_tables.specs.Names.{Scope}
use Rattle.directive_machine.specs.declared.stop.Stop.{Stop}
use Rattle.directive_machine.specs.declared.part.Part.{Part}
use Rattle.directive_machine.specs.declared.part.Then.{Then}
use Rattle.directive_machine.specs.Moves.{Action}
use Rattle.directive_machine.specs.Moves.{Next}

-- the scopes, those of calls whose arguments are read, the count of tokens taken, the tokens handed out, the messages
pub record State : Type 0 where
  pub scopes : List Scope
  pub waiting : List Scope
  pub taken : ℕ
  pub out : List Token
  pub messages : List ℕ

-- a fault, with the messages up to it
pub record Stopped : Type 0 where
  pub stop : Stop
  pub messages : List ℕ

abbrev pub stopped : Stop → State → Stopped
stopped stop s = record { stop = stop; messages = s.messages }

abbrev pub on_ok : {A B E : Type 0} → Result A E → (A → Result B E) → Result B E
on_ok (Ok a) rest = rest a
on_ok (Err e) rest = Err e

-- what a token begins, and the state behind its head
pub record Begun : Type 0 where
  pub action : Action
  pub state : State

-- what is made of an expanded part, and the state then
pub record Settled : Type 0 where
  pub next : Next
  pub state : State

abbrev pub begun : Action → State → Begun
begun action s = record { action = action; state = s }

abbrev pub settled : Next → State → Settled
settled next s = record { next = next; state = s }

abbrev pub most_taken : ℕ
most_taken = 16777216

abbrev pub most_handed : ℕ
most_handed = 4194304

abbrev pub most_depths : ℕ
most_depths = 64

abbrev pub refused : {A : Type 0} → Stop → State → Result A Stopped
refused stop s = Err (stopped stop s)

-- a directive's fault of a kind at a token
abbrev pub wrong : {A : Type 0} → ℕ → Text → ℕ → State → Result A Stopped
wrong kind t at s = refused (Stop.Directive kind (place_at t.tokens at)) s

abbrev pub limited : {A : Type 0} → ℕ → Place → State → Result A Stopped
limited which place s = refused (Stop.Limit which place) s

-- a token counts when it is taken, and the one that passes the limit is at fault
abbrev pub counted : Text → ℕ → State → Result State Stopped
counted t at s = if nat_lt s.taken most_taken then Ok (record s { taken = s.taken + 1 }) else limited 1 (place_at t.tokens at) s

abbrev pub deeper : Text → ℕ → ℕ → State → Result ℕ Stopped
deeper t at depth s = if nat_lt depth most_depths then Ok (depth + 1) else limited 3 (place_at t.tokens at) s

abbrev pub matched : ℕ → Text → ℕ → State → Result State Stopped
matched code t at s = if nat_eq (sign_at t.marks at) code then Ok s else wrong 4 t at s

-- the sign that a head wants is taken, and then looked at
abbrev pub passed : ℕ → Text → ℕ → ℕ → State → Result State Stopped
passed code t at end s = if nat_lt at end then on_ok (counted t at s) (matched code t at) else wrong 4 t at s

-- the name that a head asks for; none where it is a word that the language keeps
pub record Asked : Type 0 where
  pub name : Option ℕ
  pub state : State

abbrev pub asked_by : Option Mark → Text → ℕ → State → Result Asked Stopped
asked_by (Some (Mark.Name name)) t at s = Ok (record { name = Some name; state = s })
asked_by (Some (Mark.Known known)) t at s = Ok (record { name = None; state = s })
asked_by other t at s = wrong 4 t at s

abbrev pub asked : Text → ℕ → ℕ → State → Result Asked Stopped
asked t at end s = if nat_lt at end then on_ok (counted t at s) (λ s'. asked_by (slice_get t.marks at) t at s') else wrong 4 t at s

-- the name that a head binds
pub record Named : Type 0 where
  pub name : ℕ
  pub state : State

abbrev pub named_by : Text → ℕ → Option ℕ → State → Result Named Stopped
named_by t at (Some name) s = Ok (record { name = name; state = s })
named_by t at None s = wrong 5 t at s

abbrev pub named : Text → ℕ → ℕ → State → Result Named Stopped
named t at end s = on_ok (asked t at end s) (λ found. named_by t at found.name found.state)

-- a list that is evaluated is kept aside from the flat list
abbrev pub is_evaluated : Then → Bool
is_evaluated Then.Plain = false
is_evaluated Then.Leave = false
is_evaluated (Then.Again circle) = false
is_evaluated (Then.Fall parted) = false
is_evaluated (Then.Turn turns number last step) = false
is_evaluated other = true

abbrev pub is_aside : Part → Bool
is_aside part = part.outer || is_evaluated part.then

-- tokens of one place are handed out
abbrev pub handed : Part → List Token → Place → State → Result State Stopped
handed part tokens place s =
    if is_aside part || nat_lt (length s.out + length tokens) (most_handed + 1) then Ok (record s { out = s.out ++ tokens }) else limited 2 place s

-- whether a part may hand out one more token
abbrev pub is_free : Part → State → Bool
is_free part s = is_aside part || nat_lt (length s.out + 1) (most_handed + 1)

-- with tokens behind those that were handed out
abbrev pub given_out : List Token → State → State
given_out tokens s = record s { out = s.out ++ tokens }

-- without the tokens that a list handed out aside
abbrev pub restored : ℕ → State → State
restored from s = record s { out = take from s.out }
