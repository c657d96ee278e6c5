-- What names, right sides, calls, messages and includes come to, in their own words.
use Rattle.std.specs.Prelude.{ℕ, ◌+◌, ◌≡◌, ◌++◌, nat_lt, Bool, true, false, List, drop, length, min, Some, None, Ok, Err}
use Rattle.scene_expr.specs.declared.value.Value.{Value}
use Rattle.scene_expr.specs.Heads.{place_at}
use Rattle.scope_tables.specs.declared.binding.Binding.{Binding}
use Rattle.scope_tables.specs.Names.{left, entered}
use Rattle.directive_machine.specs.declared.flat.Source.{Source}
use Rattle.directive_machine.specs.declared.stop.Stop.{Stop}
use Rattle.directive_machine.specs.declared.part.Call.{Call}
use Rattle.directive_machine.specs.declared.part.Part.{Part}
use Rattle.directive_machine.specs.declared.part.Then.{Then}
use Rattle.directive_machine.specs.State.{State, restored}
use Rattle.directive_machine.specs.Declares.{bound_as}
use Rattle.directive_machine.specs.Words.{Argued, argument, argued_part}
use Rattle.directive_machine.specs.Values.{Valued, IsEvaluated, closed}
use Rattle.directive_machine.specs.Arguments.{parameter_by, with_argument, called_state, called_part, next_call}
use Rattle.directive_machine.specs.Holds.{is_one_block, stop_passed, most_messages}
use Rattle.directive_machine.specs.Sources.{Sources, opened, found_text, text_at, IsOpened}
use Rattle.directive_machine.specs.Course.{Given, Course, Outcome, course, halted, after}
use Rattle.directive_machine.specs.Includes.{asking, included, IsAsked}
use Rattle.directive_machine.specs.Expands.{Runs, Expands}
use Rattle.directive_machine.specs.Loops.{ComesTo}

-- a list of a part, aside from the flat list
abbrev pub aside : Part → ℕ → ℕ → Bool → ℕ → Then → Part
aside part at end closed from then' = argued_part part at end closed from then'

-- ---- right sides

-- a right side that isn't one block is an expression, whose value is bound
abbrev pub BindsValue : Type 0
BindsValue = (g : Given) (part : Part) (at end from name : ℕ) (closes local' : Bool) (w w' : Course) (s : State) (v : Valued) → Runs g (aside part at end closes from (Then.Bind name local')) at w (Ok (after w' false)) → closed (text_at w'.sources part.text) (aside part at end closes from (Then.Bind name local')) w'.state ≡ Ok s → is_one_block (drop from s.out) ≡ false → IsEvaluated g.settings from s (Ok v) → Expands g (aside part at end closes from (Then.Bind name local')) at w (Ok (after (course (bound_as local' name (Binding.Value v.value) v.state) w'.sources) false))

-- one that expands to one block is that block, and gives nothing
abbrev pub BindsBlock : Type 0
BindsBlock = (g : Given) (part : Part) (at end from name : ℕ) (closes local' : Bool) (w w' : Course) (s : State) → Runs g (aside part at end closes from (Then.Bind name local')) at w (Ok (after w' false)) → closed (text_at w'.sources part.text) (aside part at end closes from (Then.Bind name local')) w'.state ≡ Ok s → is_one_block (drop from s.out) ≡ true → Expands g (aside part at end closes from (Then.Bind name local')) at w (Ok (after (course (bound_as local' name (Binding.Block (drop from s.out)) (restored from s)) w'.sources) false))

-- a declared block is bound as it is expanded at this point
abbrev pub HoldsBlock : Type 0
HoldsBlock = (g : Given) (part : Part) (at end from name : ℕ) (local' stop : Bool) (w w' : Course) (s : State) → Runs g (aside part at end true from (Then.Hold name local' stop)) at w (Ok (after w' false)) → stop_passed (text_at w'.sources part.text) stop end w'.state ≡ Ok s → Expands g (aside part at end true from (Then.Hold name local' stop)) at w (Ok (after (course (bound_as local' name (Binding.Block (drop from s.out)) (restored from s)) w'.sources) false))

-- ---- calls

-- an argument of a call, and what its parameter is bound to: a value that is evaluated in the scopes of the caller, a
-- block that is expanded there, or a name of the caller
pub data IsArgument (g : Given) (call : Call) (w : Course) : Part → Binding → State → Sources → Type 0 where
  value : (part : Part) (at end from : ℕ) (closes : Bool) (v : Valued) (sources : Sources) → ComesTo g (aside part at end closes from (Then.Pass call)) w v sources → IsArgument g call w (aside part at end closes from (Then.Pass call)) (Binding.Value v.value) v.state sources
  block : (part : Part) (at end from : ℕ) (closes : Bool) (w' : Course) (s : State) → Runs g (aside part at end closes from (Then.Give call)) at w (Ok (after w' false)) → closed (text_at w'.sources part.text) (aside part at end closes from (Then.Give call)) w'.state ≡ Ok s → IsArgument g call w (aside part at end closes from (Then.Give call)) (Binding.Block (drop from s.out)) (restored from s) w'.sources
  reference : (part : Part) (at end from name : ℕ) (closes : Bool) (w' : Course) (s : State) → Runs g (aside part at end closes from (Then.Refer call name)) at w (Ok (after w' false)) → closed (text_at w'.sources part.text) (aside part at end closes from (Then.Refer call name)) w'.state ≡ Ok s → IsArgument g call w (aside part at end closes from (Then.Refer call name)) (Binding.Reference name) s w'.sources

-- the parameter has its argument
abbrev pub with_parameter : Call → Binding → State → Sources → State
with_parameter call b s sources = with_argument (parameter_by (Some (text_at sources call.called.text)) call.called call.index) b s

-- behind an argument that a comma ends comes the next one
abbrev pub PassesOn : Type 0
PassesOn = (g : Given) (call : Call) (part : Part) (w : Course) (b : Binding) (s : State) (sources : Sources) (next : Argued) (r : Outcome) → IsArgument g call w part b s sources → nat_lt part.end (min call.close (length (text_at sources part.text).marks)) ≡ true → argument (text_at sources part.text) part (next_call call) (part.end + 1) (with_parameter call b s sources) ≡ Ok next → Expands g next.part next.part.at (course next.state sources) r → Expands g part part.at w r

-- behind the last one comes the macro's body, in a scope more that holds the arguments
abbrev pub Calls : Type 0
Calls = (g : Given) (call : Call) (part : Part) (w : Course) (b : Binding) (s : State) (sources : Sources) (r : Outcome) → IsArgument g call w part b s sources → nat_lt part.end (min call.close (length (text_at sources part.text).marks)) ≡ false → Expands g (called_part part call.called) call.called.body (course (called_state (with_parameter call b s sources)) sources) r → Expands g part part.at w r

-- the scope of a call, or of an included text, is left behind its body
abbrev pub LeavesScope : Type 0
LeavesScope = (g : Given) (part : Part) (at end from : ℕ) (closes : Bool) (w w' : Course) (broken : Bool) → Runs g (aside part at end closes from Then.Leave) at w (Ok (after w' broken)) → Expands g (aside part at end closes from Then.Leave) at w (Ok (after (course (record w'.state { scopes = left w'.state.scopes }) w'.sources) broken))

-- ---- messages

-- a message appends the bytes of its text
abbrev pub Tells : Type 0
Tells = (g : Given) (part : Part) (at end from first : ℕ) (closes : Bool) (w : Course) (v : Valued) (sources : Sources) (bytes : List ℕ) → ComesTo g (aside part at end closes from (Then.Say false first)) w v sources → v.value ≡ Value.Text bytes → nat_lt (length v.state.messages + length bytes) (most_messages + 1) ≡ true → Expands g (aside part at end closes from (Then.Say false first)) at w (Ok (after (course (record v.state { messages = v.state.messages ++ bytes }) sources) false))

-- one that would pass the greatest number of bytes appends nothing
abbrev pub TellsTooMuch : Type 0
TellsTooMuch = (g : Given) (part : Part) (at end from first : ℕ) (closes : Bool) (w : Course) (v : Valued) (sources : Sources) (bytes : List ℕ) → ComesTo g (aside part at end closes from (Then.Say false first)) w v sources → v.value ≡ Value.Text bytes → nat_lt (length v.state.messages + length bytes) (most_messages + 1) ≡ false → Expands g (aside part at end closes from (Then.Say false first)) at w (Err (halted (Stop.Limit 6 (place_at (text_at sources part.text).tokens first)) (course v.state sources)))

-- an `#error` ends the expansion with its text
abbrev pub Errs : Type 0
Errs = (g : Given) (part : Part) (at end from first : ℕ) (closes : Bool) (w : Course) (v : Valued) (sources : Sources) (bytes : List ℕ) → ComesTo g (aside part at end closes from (Then.Say true first)) w v sources → v.value ≡ Value.Text bytes → Expands g (aside part at end closes from (Then.Say true first)) at w (Err (halted (Stop.UserError bytes (place_at (text_at sources part.text).tokens first)) (course v.state sources)))

-- ---- includes

-- an include gives the expansion of its text, in a scope of its own
abbrev pub Includes : Type 0
Includes = (g : Given) (part : Part) (at end from first : ℕ) (closes : Bool) (w w' : Course) (name : List ℕ) (s : State) (file : Source) (number : ℕ) (sources : Sources) (r : Outcome) → Runs g (aside part at end closes from (Then.Read first)) at w (Ok (after w' false)) → IsAsked g.settings (text_at w'.sources part.text) (aside part at end closes from (Then.Read first)) w'.state (Ok (asking name s)) → found_text g.held g.libraries name ≡ Some file → IsOpened file (place_at (text_at w'.sources part.text).tokens first) w'.sources (Ok (opened number sources)) → Expands g (included part number (length (text_at sources number).marks)) 0 (course (record s { scopes = entered s.scopes }) sources) r → Expands g (aside part at end closes from (Then.Read first)) at w r

-- a text that isn't there is a fault at the first token of its name
abbrev pub Misses : Type 0
Misses = (g : Given) (part : Part) (at end from first : ℕ) (closes : Bool) (w w' : Course) (name : List ℕ) (s : State) → Runs g (aside part at end closes from (Then.Read first)) at w (Ok (after w' false)) → IsAsked g.settings (text_at w'.sources part.text) (aside part at end closes from (Then.Read first)) w'.state (Ok (asking name s)) → found_text g.held g.libraries name ≡ None → Expands g (aside part at end closes from (Then.Read first)) at w (Err (halted (Stop.Absent name (place_at (text_at w'.sources part.text).tokens first)) (course s w'.sources)))
