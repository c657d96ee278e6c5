-- What was said before a part is over stands first in what is said behind it.
use Rattle.std.proofs.Common.{ℕ, ◌+◌, ◌+ℤ◌, ◌≡◌, ℤ, pos, subst, sym, Bool, true, false, MatchBool, List, drop, Option, Some, None, Result, Ok, Err}
use Rattle.fix_math.specs.declared.fix.NumFault.{NumFault}
use Rattle.fix_math.specs.Outcomes.{in_range}
use Rattle.scene_lexer.specs.declared.token.Place.{Place}
use Rattle.scene_expr.specs.declared.value.Settings.{Settings}
use Rattle.scene_expr.specs.declared.value.Value.{Value}
use Rattle.scene_expr.specs.Then.{IsThen}
use Rattle.text_structure.specs.declared.mark.Directive.{Directive}
use Rattle.text_structure.specs.Texts.{Text}
use Rattle.text_structure.specs.Turns.{directive_at}
use Rattle.scope_tables.specs.declared.binding.Binding.{Binding}
use Rattle.directive_machine.specs.declared.part.Part.{Part}
use Rattle.directive_machine.specs.declared.part.Call.{Call}
use Rattle.directive_machine.specs.declared.part.Choice.{Choice}
use Rattle.directive_machine.specs.declared.part.Turns.{Turns}
use Rattle.directive_machine.specs.declared.part.Then.{Then}
use Rattle.directive_machine.specs.State.{State, Stopped, Settled}
use Rattle.directive_machine.specs.Fronts.{IsFront}
use Rattle.directive_machine.specs.Nexts.{float}
use Rattle.directive_machine.specs.Cases.{case_taken, case_by, next_by, next_case, matched_case, made_low, made_high, fallen_case, fallen_by}
use Rattle.directive_machine.specs.Rounds.{tried, begun_turns, made_from, made_to, made_by, turned_by, turned}
use Rattle.directive_machine.specs.Arguments.{with_argument, made_argument, parameter_by, next_call}
use Rattle.directive_machine.specs.Holds.{text_of, said, held_block, made_block, is_one_block}
use Rattle.directive_machine.specs.Values.{Valued, IsEvaluated, IsValued, closed}
use Rattle.directive_machine.specs.Settles.{made, settled_by, given_up}
use Rattle.directive_machine.specs.Parts.{IsMade, IsExpression, IsSide, IsSideBy, IsTold}
use Rattle.directive_machine.proofs.Fronts.{front_more}
use Rattle.directive_machine.proofs.Heads.{Says, itself, says_if, says_on, says_wrong, says_counted, says_passed, says_argument}

abbrev pub settled_state : Settled → State
settled_state b = b.state

abbrev pub valued_state : Valued → State
valued_state v = v.state

-- ---- cases

says_case_taken : {m : List ℕ} (t : Text) (at : ℕ) (s : State) → IsFront m s.messages → Says itself m (case_taken t at s)
says_case_taken t at s is = says_on _ _ (says_counted t at s is) (λ s1 is1. says_on _ _ (says_counted t _ s1 is1) (λ s2 is2. says_passed 40 t _ _ s2 is2))

says_case_by : {m : List ℕ} (d : Option Directive) (t : Text) (part : Part) (value : ℤ) (otherwise : Option ℕ) (at : ℕ) (s : State) → IsFront m s.messages → Says settled_state m (case_by d t part value otherwise at s)
says_case_by (Some Directive.Case) t part value otherwise at s is = says_on _ _ (says_case_taken t at s is) (λ s' is'. Says.ok _ is')
says_case_by (Some Directive.Range) t part value otherwise at s is = says_on _ _ (says_case_taken t at s is) (λ s' is'. Says.ok _ is')
says_case_by (Some Directive.If) t part value otherwise at s is = Says.ok _ is
says_case_by (Some Directive.Ifdef) t part value otherwise at s is = Says.ok _ is
says_case_by (Some Directive.Ifndef) t part value otherwise at s is = Says.ok _ is
says_case_by (Some Directive.While) t part value otherwise at s is = Says.ok _ is
says_case_by (Some Directive.For) t part value otherwise at s is = Says.ok _ is
says_case_by (Some Directive.Switch) t part value otherwise at s is = Says.ok _ is
says_case_by (Some Directive.Macro) t part value otherwise at s is = Says.ok _ is
says_case_by (Some Directive.End) t part value otherwise at s is = Says.ok _ is
says_case_by (Some Directive.Else) t part value otherwise at s is = Says.ok _ is
says_case_by (Some Directive.Break) t part value otherwise at s is = Says.ok _ is
says_case_by (Some Directive.Declare) t part value otherwise at s is = Says.ok _ is
says_case_by (Some Directive.Local) t part value otherwise at s is = Says.ok _ is
says_case_by (Some Directive.Undef) t part value otherwise at s is = Says.ok _ is
says_case_by (Some Directive.Include) t part value otherwise at s is = Says.ok _ is
says_case_by (Some Directive.Error) t part value otherwise at s is = Says.ok _ is
says_case_by (Some Directive.Message) t part value otherwise at s is = Says.ok _ is
says_case_by (Some Directive.Version) t part value otherwise at s is = Says.ok _ is
says_case_by (Some Directive.Default) t part value otherwise at s is = Says.ok _ is
says_case_by None t part value otherwise at s is = Says.ok _ is

says_next_by : {m : List ℕ} (d : Option Directive) (t : Text) (part : Part) (value : ℤ) (otherwise : Option ℕ) (at : ℕ) (s : State) → IsFront m s.messages → Says settled_state m (next_by d t part value otherwise at s)
says_next_by (Some Directive.Else) t part value otherwise at s is = says_case_by _ t part value _ _ s is
says_next_by (Some Directive.Case) t part value otherwise at s is = says_case_by (Some Directive.Case) t part value otherwise at s is
says_next_by (Some Directive.Range) t part value otherwise at s is = says_case_by (Some Directive.Range) t part value otherwise at s is
says_next_by (Some Directive.If) t part value otherwise at s is = Says.ok _ is
says_next_by (Some Directive.Ifdef) t part value otherwise at s is = Says.ok _ is
says_next_by (Some Directive.Ifndef) t part value otherwise at s is = Says.ok _ is
says_next_by (Some Directive.While) t part value otherwise at s is = Says.ok _ is
says_next_by (Some Directive.For) t part value otherwise at s is = Says.ok _ is
says_next_by (Some Directive.Switch) t part value otherwise at s is = Says.ok _ is
says_next_by (Some Directive.Macro) t part value otherwise at s is = Says.ok _ is
says_next_by (Some Directive.End) t part value otherwise at s is = Says.ok _ is
says_next_by (Some Directive.Break) t part value otherwise at s is = Says.ok _ is
says_next_by (Some Directive.Declare) t part value otherwise at s is = Says.ok _ is
says_next_by (Some Directive.Local) t part value otherwise at s is = Says.ok _ is
says_next_by (Some Directive.Undef) t part value otherwise at s is = Says.ok _ is
says_next_by (Some Directive.Include) t part value otherwise at s is = Says.ok _ is
says_next_by (Some Directive.Error) t part value otherwise at s is = Says.ok _ is
says_next_by (Some Directive.Message) t part value otherwise at s is = Says.ok _ is
says_next_by (Some Directive.Version) t part value otherwise at s is = Says.ok _ is
says_next_by (Some Directive.Default) t part value otherwise at s is = Says.ok _ is
says_next_by None t part value otherwise at s is = Says.ok _ is

says_next_case : {m : List ℕ} (t : Text) (part : Part) (value : ℤ) (otherwise : Option ℕ) (at : ℕ) (s : State) → IsFront m s.messages → Says settled_state m (next_case t part value otherwise at s)
says_next_case t part value otherwise at s is = says_next_by (directive_at t.marks at) t part value otherwise at s is

says_matched : {m : List ℕ} (t : Text) (part : Part) (c : Choice) (held : Bool) (s : State) → IsFront m s.messages → Says settled_state m (matched_case t part c held s)
says_matched t part c held s is = says_if _ _ _ (Says.ok _ is) (says_next_case t part c.value c.otherwise _ s is)

says_made_low : {m : List ℕ} (t : Text) (part : Part) (c : Choice) (low : ℤ) (s : State) → IsFront m s.messages → Says settled_state m (made_low t part c low s)
says_made_low t part c low s is = says_if _ _ _ (Says.ok _ is) (says_wrong 4 t part.end s is)

says_made_high : {m : List ℕ} (t : Text) (part : Part) (c : Choice) (low high : ℤ) (s : State) → IsFront m s.messages → Says settled_state m (made_high t part c low high s)
says_made_high t part c low high s is = says_if _ _ _ (says_wrong 4 t part.end s is) (says_matched t part c _ s is)

says_fallen_case : {m : List ℕ} (t : Text) (part : Part) (parted : Bool) (at : ℕ) (s : State) → IsFront m s.messages → Says settled_state m (fallen_case t part parted at s)
says_fallen_case t part parted at s is = says_on _ _ (says_counted t at s is) (λ s1 is1. says_on _ _ (says_counted t _ s1 is1) (λ s2 is2.
    says_if _ _ _ (says_wrong 4 t _ s2 is2) (says_if _ _ _ (Says.ok _ is2) (says_wrong 4 t _ s2 is2))))

says_fallen_by : {m : List ℕ} (d : Option Directive) (t : Text) (part : Part) (parted : Bool) (at : ℕ) (s : State) → IsFront m s.messages → Says settled_state m (fallen_by d t part parted at s)
says_fallen_by (Some Directive.Case) t part parted at s is = says_fallen_case t part parted at s is
says_fallen_by (Some Directive.Range) t part parted at s is = says_fallen_case t part parted at s is
says_fallen_by (Some Directive.Else) t part parted at s is = Says.ok _ is
says_fallen_by (Some Directive.If) t part parted at s is = Says.ok _ is
says_fallen_by (Some Directive.Ifdef) t part parted at s is = Says.ok _ is
says_fallen_by (Some Directive.Ifndef) t part parted at s is = Says.ok _ is
says_fallen_by (Some Directive.While) t part parted at s is = Says.ok _ is
says_fallen_by (Some Directive.For) t part parted at s is = Says.ok _ is
says_fallen_by (Some Directive.Switch) t part parted at s is = Says.ok _ is
says_fallen_by (Some Directive.Macro) t part parted at s is = Says.ok _ is
says_fallen_by (Some Directive.End) t part parted at s is = Says.ok _ is
says_fallen_by (Some Directive.Break) t part parted at s is = Says.ok _ is
says_fallen_by (Some Directive.Declare) t part parted at s is = Says.ok _ is
says_fallen_by (Some Directive.Local) t part parted at s is = Says.ok _ is
says_fallen_by (Some Directive.Undef) t part parted at s is = Says.ok _ is
says_fallen_by (Some Directive.Include) t part parted at s is = Says.ok _ is
says_fallen_by (Some Directive.Error) t part parted at s is = Says.ok _ is
says_fallen_by (Some Directive.Message) t part parted at s is = Says.ok _ is
says_fallen_by (Some Directive.Version) t part parted at s is = Says.ok _ is
says_fallen_by (Some Directive.Default) t part parted at s is = Says.ok _ is
says_fallen_by None t part parted at s is = Says.ok _ is

-- ---- turns

says_tried : {m : List ℕ} (part : Part) (turns : Turns) (number last step : ℤ) (s : State) → IsFront m s.messages → Says settled_state m (tried part turns number last step s)
says_tried part turns number last step s is = says_if _ _ _ (Says.ok _ is) (Says.ok _ is)

says_begun_turns : {m : List ℕ} (t : Text) (part : Part) (turns : Turns) (first last step : ℤ) (s : State) → IsFront m s.messages → Says settled_state m (begun_turns t part turns first last step s)
says_begun_turns t part turns first last step s is = says_if _ _ _ (says_wrong 7 t _ s is) (says_tried part turns first last step s is)

says_made_from : {m : List ℕ} (t : Text) (part : Part) (turns : Turns) (first : ℤ) (s : State) → IsFront m s.messages → Says settled_state m (made_from t part turns first s)
says_made_from t part turns first s is = says_if _ _ _ (Says.ok _ is) (says_wrong 4 t part.end s is)

says_made_to : {m : List ℕ} (t : Text) (part : Part) (turns : Turns) (first last : ℤ) (s : State) → IsFront m s.messages → Says settled_state m (made_to t part turns first last s)
says_made_to t part turns first last s is = says_if _ _ _ (Says.ok _ is) (says_begun_turns t part turns first last (pos 65536) s is)

says_made_by : {m : List ℕ} (t : Text) (part : Part) (turns : Turns) (first last step : ℤ) (s : State) → IsFront m s.messages → Says settled_state m (made_by t part turns first last step s)
says_made_by t part turns first last step s is = says_if _ _ _ (says_wrong 4 t part.end s is) (says_begun_turns t part turns first last step s is)

says_turned_by : {m : List ℕ} (next : Result ℤ NumFault) (t : Text) (part : Part) (turns : Turns) (last step : ℤ) (s : State) → IsFront m s.messages → Says settled_state m (turned_by next t part turns last step s)
says_turned_by (Ok number) t part turns last step s is = says_tried part turns number last step s is
says_turned_by (Err f) t part turns last step s is = Says.fault _ is (λ e. cc e)

says_turned : {m : List ℕ} (t : Text) (part : Part) (turns : Turns) (number last step : ℤ) (s : State) → IsFront m s.messages → Says settled_state m (turned t part turns number last step s)
says_turned t part turns number last step s is = says_if _ _ _ (Says.ok _ is) (says_turned_by (in_range (number +ℤ step)) t part turns last step s is)

-- ---- arguments and blocks

says_with_argument : {m : List ℕ} (name : Option ℕ) (b : Binding) (s : State) → IsFront m s.messages → IsFront m (with_argument name b s).messages
says_with_argument None b s is = is
says_with_argument (Some name) b s is = is

says_made_argument : {m : List ℕ} (t : Text) (home : Option Text) (part : Part) (call : Call) (b : Binding) (s : State) → IsFront m s.messages → Says settled_state m (made_argument t home part call b s)
says_made_argument t home part call b s is =
    let is' : IsFront _ (with_argument (parameter_by home call.called call.index) b s).messages = says_with_argument (parameter_by home call.called call.index) b s is in
    says_if _ _ _ (says_on _ _ (says_argument t part (next_call call) (part.end + 1) _ is') (λ a is2. Says.ok _ is2)) (Says.ok _ is')

says_made_block : {m : List ℕ} (t : Text) (part : Part) (name : ℕ) (local' stop : Bool) (s : State) → IsFront m s.messages → Says settled_state m (made_block t part name local' stop s)
says_made_block t part name local' stop s is = says_if _ _ _ (says_on _ _ (says_if _ _ _ (says_counted t part.end s is) (Says.ok s is)) (λ s' is'. Says.ok _ is')) (says_wrong 4 t part.end s is)

says_said : {m : List ℕ} (t : Text) (at : ℕ) (error : Bool) (text : List ℕ) (s : State) → IsFront m s.messages → Says settled_state m (said t at error text s)
says_said t at error text s is = says_if _ _ _ (Says.fault _ is (λ e. cc e)) (says_if _ _ _ (Says.ok _ (front_more _ s.messages text is)) (Says.fault _ is (λ e. cc e)))

-- ---- values

says_float : {m : List ℕ} (value : Value) (first : Place) (s : State) → IsFront m s.messages → Says (λ x. s) m (float (record { value = value; first = first; state = s }))
says_float (Value.Float x) first s is = Says.ok x is
says_float (Value.Vector v) first s is = Says.fault _ is (λ e. cc e)
says_float (Value.Color c) first s is = Says.fault _ is (λ e. cc e)
says_float (Value.Text text) first s is = Says.fault _ is (λ e. cc e)

pub says_text : {m : List ℕ} (value : Value) (first : Place) (s : State) → IsFront m s.messages → Says (λ text. s) m (text_of (record { value = value; first = first; state = s }))
says_text (Value.Text text) first s is = Says.ok text is
says_text (Value.Float x) first s is = Says.fault _ is (λ e. cc e)
says_text (Value.Vector v) first s is = Says.fault _ is (λ e. cc e)
says_text (Value.Color c) first s is = Says.fault _ is (λ e. cc e)

pub says_made : {m : List ℕ} (t : Text) (home : Option Text) (part : Part) (then' : Then) (v : Valued) → IsFront m v.state.messages → Says settled_state m (made t home part then' v)
says_made t home part (Then.Bind name local') v is = Says.ok _ is
says_made t home part (Then.Decide held otherwise) v is = says_on _ _ (says_float v.value v.first v.state is) (λ x is'. Says.ok _ is')
says_made t home part (Then.Test circle) v is = says_on _ _ (says_float v.value v.first v.state is) (λ x is'. Says.ok _ is')
says_made t home part (Then.Choose first) v is = says_on _ _ (says_float v.value v.first v.state is) (λ x is'. says_next_case t part x None first v.state is')
says_made t home part (Then.Case c) v is = says_on _ _ (says_float v.value v.first v.state is) (λ x is'. says_matched t part c _ v.state is')
says_made t home part (Then.Low c) v is = says_on _ _ (says_float v.value v.first v.state is) (λ x is'. says_made_low t part c x v.state is')
says_made t home part (Then.High c low) v is = says_on _ _ (says_float v.value v.first v.state is) (λ x is'. says_made_high t part c low x v.state is')
says_made t home part (Then.From turns) v is = says_on _ _ (says_float v.value v.first v.state is) (λ x is'. says_made_from t part turns x v.state is')
says_made t home part (Then.To turns first) v is = says_on _ _ (says_float v.value v.first v.state is) (λ x is'. says_made_to t part turns first x v.state is')
says_made t home part (Then.By turns first last) v is = says_on _ _ (says_float v.value v.first v.state is) (λ x is'. says_made_by t part turns first last x v.state is')
says_made t home part (Then.Pass call) v is = says_made_argument t home part call _ v.state is
says_made t home part (Then.Say error at) v is = says_on _ _ (says_text v.value v.first v.state is) (λ text is'. says_said t at error text v.state is')
says_made t home part Then.Plain v is = Says.ok _ is
says_made t home part Then.Leave v is = Says.ok _ is
says_made t home part (Then.Hold name local' stop) v is = Says.ok _ is
says_made t home part (Then.Again circle) v is = Says.ok _ is
says_made t home part (Then.Fall parted) v is = Says.ok _ is
says_made t home part (Then.Turn turns number last step) v is = Says.ok _ is
says_made t home part (Then.Give call) v is = Says.ok _ is
says_made t home part (Then.Refer call name) v is = Says.ok _ is
says_made t home part (Then.Enter call) v is = Says.ok _ is
says_made t home part (Then.Read at) v is = Says.ok _ is

says_closed : {m : List ℕ} (t : Text) (part : Part) (s : State) → IsFront m s.messages → Says itself m (closed t part s)
says_closed t part s is = says_if _ _ _ (says_counted t part.end s is) (says_wrong 4 t part.end s is)

pub says_settled_by : {m : List ℕ} (t : Text) (home : Option Text) (part : Part) (then' : Then) (s : State) → IsFront m s.messages → Says settled_state m (settled_by t home part then' s)
says_settled_by t home part Then.Leave s is = Says.ok _ is
says_settled_by t home part (Then.Hold name local' stop) s is = says_made_block t part name local' stop s is
says_settled_by t home part (Then.Again circle) s is = says_on _ _ (says_passed 40 t _ _ s is) (λ s' is'. Says.ok _ is')
says_settled_by t home part (Then.Fall parted) s is = says_fallen_by (directive_at t.marks part.end) t part parted part.end s is
says_settled_by t home part (Then.Turn turns number last step) s is = says_turned t part turns number last step s is
says_settled_by t home part (Then.Give call) s is = says_on _ _ (says_closed t part s is) (λ s' is'. says_made_argument t home part call _ _ is')
says_settled_by t home part (Then.Refer call name) s is = says_on _ _ (says_closed t part s is) (λ s' is'. says_made_argument t home part call _ s' is')
says_settled_by t home part (Then.Enter call) s is = says_on _ _ (says_closed t part s is) (λ s' is'. Says.ok _ is')
says_settled_by t home part Then.Plain s is = Says.ok _ is
says_settled_by t home part (Then.Bind name local') s is = Says.ok _ is
says_settled_by t home part (Then.Decide held otherwise) s is = Says.ok _ is
says_settled_by t home part (Then.Test circle) s is = Says.ok _ is
says_settled_by t home part (Then.Choose first) s is = Says.ok _ is
says_settled_by t home part (Then.Case c) s is = Says.ok _ is
says_settled_by t home part (Then.Low c) s is = Says.ok _ is
says_settled_by t home part (Then.High c low) s is = Says.ok _ is
says_settled_by t home part (Then.From turns) s is = Says.ok _ is
says_settled_by t home part (Then.To turns first) s is = Says.ok _ is
says_settled_by t home part (Then.By turns first last) s is = Says.ok _ is
says_settled_by t home part (Then.Pass call) s is = Says.ok _ is
says_settled_by t home part (Then.Say error at) s is = Says.ok _ is
says_settled_by t home part (Then.Read at) s is = Says.ok _ is

-- ---- parts

says_evaluated : {m : List ℕ} (set : Settings) (from : ℕ) (s : State) (r : Result Valued Stopped) → IsFront m s.messages → IsEvaluated set from s r → Says valued_state m r
says_evaluated set from s _ is (IsEvaluated.value v p) = Says.ok _ is
says_evaluated set from s _ is (IsEvaluated.fault f p) = Says.fault _ is (λ e. cc e)

pub says_front : {A : Type 0} {state : A → State} {m : List ℕ} (a : A) → Says state m (Ok a) → IsFront m (state a).messages
says_front a (Says.ok _ is) = is

says_stops : {A B : Type 0} {from : A → State} {to : B → State} {m : List ℕ} (f : Stopped) → Says from m (Err f) → Says to m (Err f)
says_stops f (Says.fault _ is other) = Says.fault f is other

pub says_then : {A B : Type 0} {from : A → State} {to : B → State} {m : List ℕ} {first : Result A Stopped → Type 0} {rest : A → Result B Stopped → Type 0} (r : Result B Stopped) → ((o : Result A Stopped) → first o → Says from m o) → ((a : A) (o : Result B Stopped) → IsFront m (from a).messages → rest a o → Says to m o) → IsThen A B Stopped first rest r → Says to m r
says_then r start on (IsThen.fault f p) = says_stops f (start (Err f) p)
says_then r start on (IsThen.found a _ p q) = on a r (says_front a (start (Ok a) p)) q

pub says_same : {A : Type 0} {state : A → State} {m : List ℕ} (x r : Result A Stopped) → Says state m x → r ≡ x → Says state m r
says_same {state = state} {m = m} x r is same = subst (λ o. Says state m o) (sym same) is

pub says_valued : {m : List ℕ} (set : Settings) (t : Text) (part : Part) (s : State) (r : Result Valued Stopped) → IsFront m s.messages → IsValued set t part s r → Says valued_state m r
says_valued set t part s r is = says_then r (λ o p. says_same (closed t part s) o (says_closed t part s is) p) (λ s' o is' p. says_evaluated set part.from s' o is' p)

says_is_made : {m : List ℕ} (set : Settings) (t : Text) (home : Option Text) (part : Part) (s : State) (r : Result Settled Stopped) → IsFront m s.messages → IsMade set t home part s r → Says settled_state m r
says_is_made set t home part s r is = says_then r (λ o p. says_valued set t part s o is p) (λ v o is' p. says_same (made t home part part.then v) o (says_made t home part part.then v is') p)

says_expression : {m : List ℕ} (set : Settings) (t : Text) (part : Part) (name : ℕ) (local' : Bool) (s : State) (r : Result Settled Stopped) → IsFront m s.messages → IsExpression set t part name local' s r → Says settled_state m r
says_expression set t part name local' s r is = says_then r (λ o p. says_evaluated set part.from s o is p) (λ v o is' p. says_same (made t None part (Then.Bind name local') v) o (says_made t None part (Then.Bind name local') v is') p)

says_either : {m : List ℕ} (P Q : Result Settled Stopped → Type 0) (b : Bool) (r : Result Settled Stopped) → (P r → Says settled_state m r) → (Q r → Says settled_state m r) → MatchBool b (P r) (Q r) → Says settled_state m r
says_either P Q true r p q is = p is
says_either P Q false r p q is = q is

says_side_by : {m : List ℕ} (set : Settings) (t : Text) (part : Part) (name : ℕ) (local' : Bool) (s : State) (r : Result Settled Stopped) → IsFront m s.messages → IsSideBy set t part name local' s r → Says settled_state m r
says_side_by set t part name local' s r is = says_either (λ o. o ≡ held_block part name local' s) (IsExpression set t part name local' s) (is_one_block (drop part.from s.out)) r (λ p. says_same (held_block part name local' s) r (Says.ok _ is) p) (λ p. says_expression set t part name local' s r is p)

says_side : {m : List ℕ} (set : Settings) (t : Text) (part : Part) (name : ℕ) (local' : Bool) (s : State) (r : Result Settled Stopped) → IsFront m s.messages → IsSide set t part name local' s r → Says settled_state m r
says_side set t part name local' s r is = says_then r (λ o p. says_same (closed t part s) o (says_closed t part s is) p) (λ s' o is' p. says_side_by set t part name local' s' o is' p)

pub says_told : {m : List ℕ} (set : Settings) (t : Text) (home : Option Text) (part : Part) (then' : Then) (s : State) (r : Result Settled Stopped) → IsFront m s.messages → IsTold set t home part then' s r → Says settled_state m r
says_told set t home part (Then.Bind name local') s r is p = says_side set t part name local' s r is p
says_told set t home part (Then.Decide held otherwise) s r is p = says_is_made set t home part s r is p
says_told set t home part (Then.Test circle) s r is p = says_is_made set t home part s r is p
says_told set t home part (Then.Choose first) s r is p = says_is_made set t home part s r is p
says_told set t home part (Then.Case c) s r is p = says_is_made set t home part s r is p
says_told set t home part (Then.Low c) s r is p = says_is_made set t home part s r is p
says_told set t home part (Then.High c low) s r is p = says_is_made set t home part s r is p
says_told set t home part (Then.From turns) s r is p = says_is_made set t home part s r is p
says_told set t home part (Then.To turns first) s r is p = says_is_made set t home part s r is p
says_told set t home part (Then.By turns first last) s r is p = says_is_made set t home part s r is p
says_told set t home part (Then.Pass call) s r is p = says_is_made set t home part s r is p
says_told set t home part (Then.Say error at) s r is p = says_is_made set t home part s r is p
says_told set t home part Then.Plain s r is p = says_same (settled_by t home part Then.Plain s) r (says_settled_by t home part Then.Plain s is) p
says_told set t home part Then.Leave s r is p = says_same (settled_by t home part Then.Leave s) r (says_settled_by t home part Then.Leave s is) p
says_told set t home part (Then.Hold name local' stop) s r is p = says_same (settled_by t home part (Then.Hold name local' stop) s) r (says_settled_by t home part (Then.Hold name local' stop) s is) p
says_told set t home part (Then.Again circle) s r is p = says_same (settled_by t home part (Then.Again circle) s) r (says_settled_by t home part (Then.Again circle) s is) p
says_told set t home part (Then.Fall parted) s r is p = says_same (settled_by t home part (Then.Fall parted) s) r (says_settled_by t home part (Then.Fall parted) s is) p
says_told set t home part (Then.Turn turns number last step) s r is p = says_same (settled_by t home part (Then.Turn turns number last step) s) r (says_settled_by t home part (Then.Turn turns number last step) s is) p
says_told set t home part (Then.Give call) s r is p = says_same (settled_by t home part (Then.Give call) s) r (says_settled_by t home part (Then.Give call) s is) p
says_told set t home part (Then.Refer call name) s r is p = says_same (settled_by t home part (Then.Refer call name) s) r (says_settled_by t home part (Then.Refer call name) s is) p
says_told set t home part (Then.Enter call) s r is p = says_same (settled_by t home part (Then.Enter call) s) r (says_settled_by t home part (Then.Enter call) s is) p
says_told set t home part (Then.Read at) s r is p = says_same (settled_by t home part (Then.Read at) s) r (says_settled_by t home part (Then.Read at) s is) p

-- ---- a part that a `#break` gives up

pub says_given_up : {m : List ℕ} (part : Part) (then' : Then) (s : State) → IsFront m s.messages → IsFront m (given_up part then' s).state.messages
says_given_up part Then.Plain s is = is
says_given_up part Then.Leave s is = is
says_given_up part (Then.Bind name local') s is = is
says_given_up part (Then.Decide held otherwise) s is = is
says_given_up part (Then.Test circle) s is = is
says_given_up part (Then.Choose first) s is = is
says_given_up part (Then.Case c) s is = is
says_given_up part (Then.Low c) s is = is
says_given_up part (Then.High c low) s is = is
says_given_up part (Then.From turns) s is = is
says_given_up part (Then.To turns first) s is = is
says_given_up part (Then.By turns first last) s is = is
says_given_up part (Then.Pass call) s is = is
says_given_up part (Then.Say error at) s is = is
says_given_up part (Then.Hold name local' stop) s is = is
says_given_up part (Then.Again circle) s is = is
says_given_up part (Then.Fall parted) s is = is
says_given_up part (Then.Turn turns number last step) s is = is
says_given_up part (Then.Give call) s is = is
says_given_up part (Then.Refer call name) s is = is
says_given_up part (Then.Enter call) s is = is
says_given_up part (Then.Read at) s is = is
