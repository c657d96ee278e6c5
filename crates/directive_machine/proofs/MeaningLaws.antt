-- What names, right sides, calls, messages and includes come to, in their own words.
use Rattle.std.proofs.Common.{ℕ, ◌+◌, ◌≡◌, ◌++◌, subst, sym, ap, ◌∙◌, refl, Bool, true, false, List, drop, Option, Some, None, Ok, MatchBool, if◌then◌else◌}
use Rattle.scene_expr.specs.declared.value.Value.{Value}
use Rattle.scene_expr.specs.Heads.{place_at}
use Rattle.scene_expr.specs.Then.{IsThen}
use Rattle.text_structure.specs.Texts.{Text}
use Rattle.scope_tables.specs.declared.binding.Binding.{Binding}
use Rattle.scope_tables.specs.Names.{found}
use Rattle.directive_machine.specs.declared.stop.Stop.{Stop}
use Rattle.directive_machine.specs.declared.part.Call.{Call}
use Rattle.directive_machine.specs.declared.part.Part.{Part}
use Rattle.directive_machine.specs.declared.part.Then.{Then}
use Rattle.directive_machine.specs.Moves.{Next}
use Rattle.directive_machine.specs.State.{State, settled, refused, on_ok, restored}
use Rattle.directive_machine.specs.Declares.{bound_as}
use Rattle.directive_machine.specs.Words.{argument}
use Rattle.directive_machine.specs.Nexts.{done}
use Rattle.directive_machine.specs.Values.{Valued}
use Rattle.directive_machine.specs.Arguments.{called_part, called_state, made_call, next_call, further_argument, made_argument}
use Rattle.directive_machine.specs.Holds.{text_of, said, is_one_block, held_block}
use Rattle.directive_machine.specs.Sources.{Sources, text_at}
use Rattle.directive_machine.specs.Course.{Given, Course, Outcome, course, after, Within, Beside}
use Rattle.directive_machine.specs.Expands.{Expands}
use Rattle.directive_machine.specs.Loops.{ComesTo}
use Rattle.directive_machine.specs.Meanings.{aside, BindsValue, BindsBlock, HoldsBlock, IsArgument, with_parameter, PassesOn, Calls, LeavesScope, Tells, TellsTooMuch, Errs, Includes, Misses}
use Rattle.directive_machine.proofs.Including.{inc_by}

-- ---- right sides

by_false : (b : Bool) (P Q : Type 0) → b ≡ false → Q → MatchBool b P Q
by_false false P Q is q = q
by_false true P Q is q = absurd (cc is)

by_true : (b : Bool) (P Q : Type 0) → b ≡ true → P → MatchBool b P Q
by_true true P Q is p = p
by_true false P Q is p = absurd (cc is)

pub binds_value : BindsValue
binds_value g part at end from name closes local' w w' s v run shut not_one found =
    Expands.done _ at w (after w' false) false (course (bound_as local' name (Binding.Value v.value) v.state) w'.sources) run
    (IsThen.found (settled (Next.Done false) (bound_as local' name (Binding.Value v.value) v.state)) _
    (Within.ok _ (IsThen.found s _ (sym shut) (by_false (is_one_block (drop from s.out)) _ _ not_one (IsThen.found v _ found refl)))) refl)

pub binds_block : BindsBlock
binds_block g part at end from name closes local' w w' s run shut one =
    Expands.done _ at w (after w' false) false (course (bound_as local' name (Binding.Block (drop from s.out)) (restored from s)) w'.sources) run
    (IsThen.found (settled (Next.Done false) (bound_as local' name (Binding.Block (drop from s.out)) (restored from s))) _
    (Within.ok _ (IsThen.found s _ (sym shut) (by_true (is_one_block (drop from s.out)) _ _ one refl))) refl)

pub holds_block : HoldsBlock
holds_block g part at end from name local' stop w w' s run passes =
    Expands.done _ at w (after w' false) false (course (bound_as local' name (Binding.Block (drop from s.out)) (restored from s)) w'.sources) run
    (IsThen.found (settled (Next.Done false) (bound_as local' name (Binding.Block (drop from s.out)) (restored from s))) _
    (Within.ok _ (sym (ap (λ k. on_ok k (held_block (aside part at end true from (Then.Hold name local' stop)) name local')) passes))) refl)

-- ---- calls

abbrev home : Call → Sources → Option Text
home call sources = Some (text_at sources call.called.text)

-- what is made of an argument
argument_made : (g : Given) (call : Call) (part : Part) (w : Course) (b : Binding) (s : State) (sources : Sources) (next : Part) (s' : State) (r : Outcome) → IsArgument g call w part b s sources → made_argument (text_at sources part.text) (home call sources) part call b s ≡ Ok (settled (Next.Further next) s') → Expands g next next.at (course s' sources) r → Expands g part part.at w r
argument_made g call _ w _ _ _ next s' r (IsArgument.value part at end from closes _ _ (ComesTo.comes w' v run value)) makes rest =
    Expands.further _ next at w (after w' false) (course s' w'.sources) r run
    (IsThen.found (settled (Next.Further next) s') _ (Within.ok _ (IsThen.found v _ value (sym makes))) refl) rest
argument_made g call _ w _ _ _ next s' r (IsArgument.block part at end from closes w' s run shut) makes rest =
    Expands.further _ next at w (after w' false) (course s' w'.sources) r run
    (IsThen.found (settled (Next.Further next) s') _ (Within.ok _ (sym (ap (λ k. on_ok k (λ s2. made_argument (text_at w'.sources part.text) (home call w'.sources) (aside part at end closes from (Then.Give call)) call (Binding.Block (drop from s2.out)) (restored from s2))) shut ∙ makes))) refl) rest
argument_made g call _ w _ _ _ next s' r (IsArgument.reference part at end from name closes w' s run shut) makes rest =
    Expands.further _ next at w (after w' false) (course s' w'.sources) r run
    (IsThen.found (settled (Next.Further next) s') _ (Within.ok _ (sym (ap (λ k. on_ok k (made_argument (text_at w'.sources part.text) (home call w'.sources) (aside part at end closes from (Then.Refer call name)) call (Binding.Reference name))) shut ∙ makes))) refl) rest

pub passes_on : PassesOn
passes_on g call part w b s sources next r is more has rest =
    argument_made g call part w b s sources next.part next.state r is
    (ap (λ k. if k then on_ok (argument (text_at sources part.text) part (next_call call) (part.end + 1) (with_parameter call b s sources)) further_argument else made_call part call.called (with_parameter call b s sources)) more
    ∙ ap (λ k. on_ok k further_argument) has) rest

pub calls : Calls
calls g call part w b s sources r is last rest =
    argument_made g call part w b s sources (called_part part call.called) (called_state (with_parameter call b s sources)) r is
    (ap (λ k. if k then on_ok (argument (text_at sources part.text) part (next_call call) (part.end + 1) (with_parameter call b s sources)) further_argument else made_call part call.called (with_parameter call b s sources)) last) rest

pub leaves_scope : LeavesScope
leaves_scope g part at end from closes w w' false run = Expands.done _ at w (after w' false) false _ run (IsThen.found (settled (Next.Done false) _) _ (Within.ok _ refl) refl)
leaves_scope g part at end from closes w w' true run = Expands.done _ at w (after w' true) true _ run refl

-- ---- messages

text_is : (v : Valued) (bytes : List ℕ) → v.value ≡ Value.Text bytes → text_of v ≡ Ok bytes
text_is v bytes is = subst (λ k. text_of (record { value = k; first = v.first; state = v.state }) ≡ Ok bytes) (sym is) refl

pub tells : Tells
tells g part at end from first closes w _ _ bytes (ComesTo.comes w' v run value) is fits =
    let says : on_ok (text_of v) (λ text. said (text_at w'.sources part.text) first false text v.state) ≡ Ok (settled (Next.Done false) (record v.state { messages = v.state.messages ++ bytes })) =
    ap (λ k. on_ok k (λ text. said (text_at w'.sources part.text) first false text v.state)) (text_is v bytes is)
    ∙ ap (λ b. if b then done (record v.state { messages = v.state.messages ++ bytes }) else refused (Stop.Limit 6 (place_at (text_at w'.sources part.text).tokens first)) v.state) fits in
    Expands.done _ at w (after w' false) false (course (record v.state { messages = v.state.messages ++ bytes }) w'.sources) run
    (IsThen.found (settled (Next.Done false) (record v.state { messages = v.state.messages ++ bytes })) _ (Within.ok _ (IsThen.found v _ value (sym says))) refl)

pub tells_too_much : TellsTooMuch
tells_too_much g part at end from first closes w _ _ bytes (ComesTo.comes w' v run value) is long =
    let says : on_ok (text_of v) (λ text. said (text_at w'.sources part.text) first false text v.state) ≡ refused (Stop.Limit 6 (place_at (text_at w'.sources part.text).tokens first)) v.state =
    ap (λ k. on_ok k (λ text. said (text_at w'.sources part.text) first false text v.state)) (text_is v bytes is)
    ∙ ap (λ b. if b then done (record v.state { messages = v.state.messages ++ bytes }) else refused (Stop.Limit 6 (place_at (text_at w'.sources part.text).tokens first)) v.state) long in
    Expands.refused _ at w (after w' false) _ run (IsThen.fault _ (Within.fault _ (IsThen.found v _ value (sym says))))

pub errs : Errs
errs g part at end from first closes w _ _ bytes (ComesTo.comes w' v run value) is =
    let says : on_ok (text_of v) (λ text. said (text_at w'.sources part.text) first true text v.state) ≡ refused (Stop.UserError bytes (place_at (text_at w'.sources part.text).tokens first)) v.state =
    ap (λ k. on_ok k (λ text. said (text_at w'.sources part.text) first true text v.state)) (text_is v bytes is) in
    Expands.refused _ at w (after w' false) _ run (IsThen.fault _ (Within.fault _ (IsThen.found v _ value (sym says))))

-- ---- includes

pub includes : Includes
includes g part at end from first closes w w' name s file number sources r run asks has opens rest =
    Expands.further _ _ at w (after w' false) _ r run
    (inc_by g first (aside part at end closes from (Then.Read first)) w' name _ s (Some file) _ asks refl has (IsThen.found _ _ (Beside.ok _ opens) refl)) rest

pub misses : Misses
misses g part at end from first closes w w' name s run asks none =
    Expands.refused _ at w (after w' false) _ run (inc_by g first (aside part at end closes from (Then.Read first)) w' name _ s None _ asks refl none refl)
