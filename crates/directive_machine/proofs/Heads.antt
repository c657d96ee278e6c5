-- What was said before a token is taken stands first in what is said once it was, and a step that reads no text
-- doesn't stop for one.
use Rattle.std.proofs.Common.{ℕ, zero, suc, ◌+◌, ◌≢◌, Bool, true, false, List, ◌∷◌, [], Option, Some, None, Result, Ok, Err, if◌then◌else◌, slice_get}
use Rattle.scene_lexer.specs.declared.token.Kind.{Kind}
use Rattle.scene_lexer.specs.declared.token.Token.{Token}
use Rattle.scene_lexer.specs.declared.token.Place.{Place}
use Rattle.text_structure.specs.declared.mark.Mark.{Mark}
use Rattle.text_structure.specs.declared.mark.Known.{Known}
use Rattle.text_structure.specs.declared.mark.Directive.{Directive}
use Rattle.text_structure.specs.Texts.{Text}
use Rattle.text_structure.specs.Turns.{directive_at}
use Rattle.scope_tables.specs.declared.binding.Binding.{Binding}
use Rattle.scope_tables.specs.declared.binding.Macro.{Macro}
use Rattle.scope_tables.specs.Names.{found, entered}
use Rattle.directive_machine.specs.declared.stop.Stop.{Stop}
use Rattle.directive_machine.specs.declared.part.Part.{Part}
use Rattle.directive_machine.specs.declared.part.Call.{Call}
use Rattle.directive_machine.specs.declared.part.Then.{Then}
use Rattle.directive_machine.specs.Moves.{Action}
use Rattle.directive_machine.specs.State.{State, Stopped, Begun, begun, Asked, Named, on_ok, counted, deeper, passed, asked_by, asked, named_by, named, handed, wrong}
use Rattle.directive_machine.specs.Fronts.{IsFront}
use Rattle.directive_machine.specs.Begins.{finish_of, begun_if, begun_ifdef, begun_while, begun_for, begun_switch}
use Rattle.directive_machine.specs.Declares.{step, behind_stop, bound_as, macro_of, stop_taken, begun_name, begun_side, begun_declare, begun_undef, unbound, word_told, told_by, told, begun_message, begun_include, version_taken, begun_version, Parameters, separated, parameters, parameters_of, begun_macro, block_at}
use Rattle.directive_machine.specs.Words.{Argued, is_bound_by, like, truth, is_misfit, calling, call_of, argument, word_argued, list_argued, first_argument, begun_call, begun_bound, begun_defined, handed_token, handed_at, handed_truth, substituted}
use Rattle.directive_machine.specs.Tokens.{begun_word, begun_directive, begun_mark, begun_in}

-- what comes of a step begins with what was said, and no step stops for a text
pub data Says {A : Type 0} (state : A → State) (m : List ℕ) : Result A Stopped → Type 0 where
  ok : (a : A) → IsFront m (state a).messages → Says state m (Ok a)
  fault : (f : Stopped) → IsFront m f.messages → f.stop ≢ Stop.TextFault → Says state m (Err f)

abbrev pub itself : State → State
itself s = s

abbrev pub begun_state : Begun → State
begun_state b = b.state

pub says_if : {A : Type 0} {state : A → State} {m : List ℕ} (b : Bool) (x y : Result A Stopped) → Says state m x → Says state m y → Says state m (if b then x else y)
says_if true x y p q = p
says_if false x y p q = q

pub says_on : {A B : Type 0} {from : A → State} {to : B → State} {m : List ℕ} (x : Result A Stopped) (rest : A → Result B Stopped) → Says from m x → ((a : A) → IsFront m (from a).messages → Says to m (rest a)) → Says to m (on_ok x rest)
says_on _ rest (Says.ok a is) on = on a is
says_on _ rest (Says.fault f is other) on = Says.fault f is other

pub says_wrong : {A : Type 0} {state : A → State} {m : List ℕ} (kind : ℕ) (t : Text) (at : ℕ) (s : State) → IsFront m s.messages → Says state m (wrong kind t at s)
says_wrong kind t at s is = Says.fault _ is (λ e. cc e)

pub says_counted : {m : List ℕ} (t : Text) (at : ℕ) (s : State) → IsFront m s.messages → Says itself m (counted t at s)
says_counted t at s is = says_if _ _ _ (Says.ok _ is) (Says.fault _ is (λ e. cc e))

pub says_deeper : {m : List ℕ} (t : Text) (at depth : ℕ) (s : State) → IsFront m s.messages → Says (λ inside. s) m (deeper t at depth s)
says_deeper t at depth s is = says_if _ _ _ (Says.ok _ is) (Says.fault _ is (λ e. cc e))

pub says_passed : {m : List ℕ} (code : ℕ) (t : Text) (at end : ℕ) (s : State) → IsFront m s.messages → Says itself m (passed code t at end s)
says_passed code t at end s is = says_if _ _ _ (says_on _ _ (says_counted t at s is) (λ s' is'. says_if _ _ _ (Says.ok s' is') (says_wrong 4 t at s' is'))) (says_wrong 4 t at s is)

abbrev pub asked_state : Asked → State
asked_state a = a.state

says_asked_by : {m : List ℕ} (mark : Option Mark) (t : Text) (at : ℕ) (s : State) → IsFront m s.messages → Says asked_state m (asked_by mark t at s)
says_asked_by (Some (Mark.Name name)) t at s is = Says.ok _ is
says_asked_by (Some (Mark.Known known)) t at s is = Says.ok _ is
says_asked_by (Some (Mark.Sign code)) t at s is = says_wrong 4 t at s is
says_asked_by (Some Mark.Number) t at s is = says_wrong 4 t at s is
says_asked_by (Some Mark.Text) t at s is = says_wrong 4 t at s is
says_asked_by None t at s is = says_wrong 4 t at s is

pub says_asked : {m : List ℕ} (t : Text) (at end : ℕ) (s : State) → IsFront m s.messages → Says asked_state m (asked t at end s)
says_asked t at end s is = says_if _ _ _ (says_on _ _ (says_counted t at s is) (λ s' is'. says_asked_by (slice_get t.marks at) t at s' is')) (says_wrong 4 t at s is)

abbrev pub named_state : Named → State
named_state a = a.state

says_named_by : {m : List ℕ} (t : Text) (at : ℕ) (name : Option ℕ) (s : State) → IsFront m s.messages → Says named_state m (named_by t at name s)
says_named_by t at (Some name) s is = Says.ok _ is
says_named_by t at None s is = says_wrong 5 t at s is

pub says_named : {m : List ℕ} (t : Text) (at end : ℕ) (s : State) → IsFront m s.messages → Says named_state m (named t at end s)
says_named t at end s is = says_on _ _ (says_asked t at end s is) (λ a is'. says_named_by t at a.name a.state is')

pub says_handed : {m : List ℕ} (part : Part) (tokens : List Token) (place : Place) (s : State) → IsFront m s.messages → Says itself m (handed part tokens place s)
says_handed part tokens place s is = says_if _ _ _ (Says.ok _ is) (Says.fault _ is (λ e. cc e))

pub says_handed_token : {m : List ℕ} (token : Option Token) (part : Part) (next : ℕ) (s : State) → IsFront m s.messages → Says begun_state m (handed_token token part next s)
says_handed_token None part next s is = Says.ok _ is
says_handed_token (Some token) part next s is = says_on _ _ (says_handed part (token ∷ []) token.place s is) (λ s' is'. Says.ok _ is')

pub says_handed_at : {m : List ℕ} (t : Text) (part : Part) (at : ℕ) (s : State) → IsFront m s.messages → Says begun_state m (handed_at t part at s)
says_handed_at t part at s is = says_handed_token (slice_get t.tokens at) part (at + 1) s is

pub says_substituted : {m : List ℕ} (part : Part) (next : ℕ) (token : Token) (tokens : List Token) (s : State) → IsFront m s.messages → Says begun_state m (substituted part next token tokens s)
says_substituted part next token tokens s is = says_on _ _ (says_handed part tokens token.place s is) (λ s' is'. Says.ok _ is')

-- ---- the heads of directives

says_begun_if : {m : List ℕ} (t : Text) (part : Part) (at : ℕ) (s : State) → IsFront m s.messages → Says begun_state m (begun_if t part at s)
says_begun_if t part at s is = says_on _ _ (says_deeper t at part.depth s is) (λ _ _. says_on _ _ (says_counted t _ s is) (λ s1 is1. says_on _ _ (says_passed 40 t _ _ s1 is1) (λ s2 is2. Says.ok _ is2)))

says_begun_ifdef : {m : List ℕ} (t : Text) (part : Part) (wanted : Bool) (at : ℕ) (s : State) → IsFront m s.messages → Says begun_state m (begun_ifdef t part wanted at s)
says_begun_ifdef t part wanted at s is = says_on _ _ (says_deeper t at part.depth s is) (λ _ _. says_on _ _ (says_counted t _ s is) (λ s1 is1. says_on _ _ (says_passed 40 t _ _ s1 is1) (λ s2 is2.
    says_on _ _ (says_asked t _ _ s2 is2) (λ a is3. says_on _ _ (says_passed 41 t _ _ a.state is3) (λ s4 is4. Says.ok _ is4)))))

says_begun_while : {m : List ℕ} (t : Text) (part : Part) (at : ℕ) (s : State) → IsFront m s.messages → Says begun_state m (begun_while t part at s)
says_begun_while t part at s is = says_on _ _ (says_deeper t at part.depth s is) (λ _ _. says_on _ _ (says_counted t _ s is) (λ s1 is1. says_on _ _ (says_passed 40 t _ _ s1 is1) (λ s2 is2. Says.ok _ is2)))

says_begun_for : {m : List ℕ} (t : Text) (part : Part) (at : ℕ) (s : State) → IsFront m s.messages → Says begun_state m (begun_for t part at s)
says_begun_for t part at s is = says_on _ _ (says_deeper t at part.depth s is) (λ _ _. says_on _ _ (says_counted t _ s is) (λ s1 is1. says_on _ _ (says_passed 40 t _ _ s1 is1) (λ s2 is2.
    says_on _ _ (says_named t _ _ s2 is2) (λ a is3. says_on _ _ (says_passed 44 t _ _ a.state is3) (λ s4 is4. Says.ok _ is4)))))

says_begun_switch : {m : List ℕ} (t : Text) (part : Part) (at : ℕ) (s : State) → IsFront m s.messages → Says begun_state m (begun_switch t part at s)
says_begun_switch t part at s is = says_on _ _ (says_deeper t at part.depth s is) (λ _ _. says_on _ _ (says_counted t _ s is) (λ s1 is1. says_on _ _ (says_passed 40 t _ _ s1 is1) (λ s2 is2. Says.ok _ is2)))

says_stop_taken : {m : List ℕ} (t : Text) (at end : ℕ) (s : State) → IsFront m s.messages → Says itself m (stop_taken t at end s)
says_stop_taken t at end s is = says_if _ _ _ (says_counted t at s is) (Says.ok s is)

says_begun_name : {m : List ℕ} (t : Text) (part : Part) (local' : Bool) (name at : ℕ) (block : Option (List Token)) (s : State) → IsFront m s.messages → Says begun_state m (begun_name t part local' name at block s)
says_begun_name t part local' name at (Some block) s is = says_on _ _ (says_counted t at s is) (λ s1 is1. says_on _ _ (says_stop_taken t _ _ s1 is1) (λ s2 is2. Says.ok _ is2))
says_begun_name t part local' name at None s is = Says.ok _ is

says_begun_side : {m : List ℕ} (t : Text) (part : Part) (local' : Bool) (name at : ℕ) (s : State) → IsFront m s.messages → Says begun_state m (begun_side t part local' name at s)
says_begun_side t part local' name at s is = says_if _ _ _ (Says.ok _ is) (says_if _ _ _ (says_begun_name t part local' name at (block_at t at s.scopes) s is) (Says.ok _ is))

says_begun_declare : {m : List ℕ} (t : Text) (part : Part) (local' : Bool) (at : ℕ) (s : State) → IsFront m s.messages → Says begun_state m (begun_declare t part local' at s)
says_begun_declare t part local' at s is = says_on _ _ (says_counted t _ s is) (λ s1 is1. says_on _ _ (says_named t _ _ s1 is1) (λ a is2. says_on _ _ (says_passed 61 t _ _ a.state is2) (λ s3 is3. says_begun_side t part local' a.name _ s3 is3)))

says_unbound : {m : List ℕ} (name : Option ℕ) (s : State) → IsFront m s.messages → IsFront m (unbound name s).messages
says_unbound None s is = is
says_unbound (Some name) s is = is

says_begun_undef : {m : List ℕ} (t : Text) (part : Part) (at : ℕ) (s : State) → IsFront m s.messages → Says begun_state m (begun_undef t part at s)
says_begun_undef t part at s is = says_on _ _ (says_counted t _ s is) (λ s1 is1. says_on _ _ (says_asked t _ _ s1 is1) (λ a is2. Says.ok _ (says_unbound a.name a.state is2)))

says_word_told : {m : List ℕ} (t : Text) (part : Part) (depth at : ℕ) (then' : Then) (s : State) → IsFront m s.messages → Says begun_state m (word_told t part depth at then' s)
says_word_told t part depth at then' s is = says_if _ _ _ (Says.ok _ is) (Says.ok _ is)

says_refused_at : {m : List ℕ} (t : Text) (at : ℕ) (s : State) → IsFront m s.messages → Says begun_state m (on_ok (counted t at s) (wrong 4 t at))
says_refused_at t at s is = says_on _ _ (says_counted t at s is) (λ s' is'. says_wrong 4 t at s' is')

says_told_by : {m : List ℕ} (mark : Option Mark) (t : Text) (part : Part) (depth at : ℕ) (then' : Then) (s : State) → IsFront m s.messages → Says begun_state m (told_by mark t part depth at then' s)
says_told_by (Some Mark.Text) t part depth at then' s is = Says.ok _ is
says_told_by (Some (Mark.Name name)) t part depth at then' s is = says_word_told t part depth at then' s is
says_told_by (Some (Mark.Known known)) t part depth at then' s is = says_word_told t part depth at then' s is
says_told_by (Some (Mark.Sign code)) t part depth at then' s is = says_refused_at t at s is
says_told_by (Some Mark.Number) t part depth at then' s is = says_refused_at t at s is
says_told_by None t part depth at then' s is = says_refused_at t at s is

says_told : {m : List ℕ} (t : Text) (part : Part) (depth at : ℕ) (then' : Then) (s : State) → IsFront m s.messages → Says begun_state m (told t part depth at then' s)
says_told t part depth at then' s is = says_if _ _ _ (says_told_by (slice_get t.marks at) t part depth at then' s is) (says_wrong 4 t at s is)

says_begun_message : {m : List ℕ} (t : Text) (part : Part) (error : Bool) (at : ℕ) (s : State) → IsFront m s.messages → Says begun_state m (begun_message t part error at s)
says_begun_message t part error at s is = says_on _ _ (says_counted t _ s is) (λ s1 is1. says_told t part part.depth _ _ s1 is1)

says_begun_include : {m : List ℕ} (t : Text) (part : Part) (at : ℕ) (s : State) → IsFront m s.messages → Says begun_state m (begun_include t part at s)
says_begun_include t part at s is = says_on _ _ (says_deeper t at part.depth s is) (λ inside _. says_on _ _ (says_counted t _ s is) (λ s1 is1. says_told t part inside _ _ s1 is1))

says_version_taken : {m : List ℕ} (t : Text) (at : ℕ) (s : State) → IsFront m s.messages → Says itself m (version_taken t at s)
says_version_taken t at s is = says_if _ _ _ (Says.ok s is) (says_wrong 4 t at s is)

says_begun_version : {m : List ℕ} (t : Text) (part : Part) (at : ℕ) (s : State) → IsFront m s.messages → Says begun_state m (begun_version t part at s)
says_begun_version t part at s is = says_on _ _ (says_counted t (at + 1) s is) (λ s1 is1. says_if _ _ _
    (says_on _ _ (says_counted t (at + 2) s1 is1) (λ s2 is2. says_on (version_taken t (at + 2) s2) _ (says_version_taken t (at + 2) s2 is2) (λ s3 is3. says_on (stop_taken t (at + 3) part.end s3) (step (behind_stop t (at + 3) part.end)) (says_stop_taken t (at + 3) part.end s3 is3) (λ s4 is4. Says.ok _ is4))))
    (says_wrong 4 t (at + 2) s1 is1))

abbrev pub parameters_state : Parameters → State
parameters_state p = p.state

says_separated : {m : List ℕ} (t : Text) (at end : ℕ) (s : State) → IsFront m s.messages → Says itself m (separated t at end s)
says_separated t at end s is = says_if _ _ _ (says_on _ _ (says_counted t at s is) (λ s' is'. says_if _ _ _ (Says.ok s' is') (says_wrong 4 t at s' is'))) (says_wrong 4 t at s is)

says_parameters : {m : List ℕ} (t : Text) (end left count at : ℕ) (s : State) → IsFront m s.messages → Says parameters_state m (parameters t end left count at s)
says_parameters t end zero count at s is = says_wrong 4 t at s is
says_parameters t end (suc left) count at s is = says_on _ _ (says_named t at end s is) (λ a is1. says_on _ _ (says_separated t (at + 1) end a.state is1) (λ s' is'.
    says_if _ _ _ (says_parameters t end left (count + 1) (at + 2) s' is') (Says.ok _ is')))

says_parameters_of : {m : List ℕ} (t : Text) (at end : ℕ) (s : State) → IsFront m s.messages → Says parameters_state m (parameters_of t at end s)
says_parameters_of t at end s is = says_if _ _ _ (says_on _ _ (says_counted t at s is) (λ s' is'. Says.ok _ is')) (says_parameters t end end 0 at s is)

says_begun_macro : {m : List ℕ} (t : Text) (part : Part) (at : ℕ) (s : State) → IsFront m s.messages → Says begun_state m (begun_macro t part at s)
says_begun_macro t part at s is = says_on _ _ (says_counted t (at + 1) s is) (λ s1 is1. says_on _ _ (says_named t (at + 2) (finish_of t at) s1 is1) (λ a is2. says_on _ _ (says_passed 40 t (at + 3) (finish_of t at) a.state is2) (λ s3 is3.
    says_on (parameters_of t (at + 4) (finish_of t at) s3) (λ p. step (finish_of t at + 2) (bound_as false a.name (macro_of part.text (at + 4) (finish_of t at) p) p.state)) (says_parameters_of t (at + 4) (finish_of t at) s3 is3) (λ p is4. Says.ok _ is4))))

-- ---- words

abbrev pub argued_state : Argued → State
argued_state a = a.state

says_list_argued : {m : List ℕ} (t : Text) (part : Part) (call : Call) (at end : ℕ) (closed : Bool) (s : State) → IsFront m s.messages → Says argued_state m (list_argued t part call at end closed s)
says_list_argued t part call at end closed s is = says_if _ _ _ (Says.ok _ is) (Says.ok _ is)

says_word_argued : {m : List ℕ} (mark : Option Mark) (t : Text) (part : Part) (call : Call) (at end : ℕ) (closed : Bool) (s : State) → IsFront m s.messages → Says argued_state m (word_argued mark t part call at end closed s)
says_word_argued (Some (Mark.Name name)) t part call at end closed s is = says_if _ _ _ (says_on _ _ (says_counted t at s is) (λ s' is'. Says.ok _ is')) (says_list_argued t part call at end closed s is)
says_word_argued (Some (Mark.Known known)) t part call at end closed s is = says_list_argued t part call at end closed s is
says_word_argued (Some (Mark.Sign code)) t part call at end closed s is = says_list_argued t part call at end closed s is
says_word_argued (Some Mark.Number) t part call at end closed s is = says_list_argued t part call at end closed s is
says_word_argued (Some Mark.Text) t part call at end closed s is = says_list_argued t part call at end closed s is
says_word_argued None t part call at end closed s is = says_list_argued t part call at end closed s is

pub says_argument : {m : List ℕ} (t : Text) (part : Part) (call : Call) (at : ℕ) (s : State) → IsFront m s.messages → Says argued_state m (argument t part call at s)
says_argument t part call at s is = says_word_argued (slice_get t.marks at) t part call at _ _ s is

says_first_argument : {m : List ℕ} (t : Text) (part : Part) (call : Call) (at : ℕ) (s : State) → IsFront m s.messages → Says argued_state m (first_argument t part call at s)
says_first_argument t part call at s is = says_if _ _ _ (Says.ok _ is) (says_argument t part call at s is)

-- the steps of a call behind its name

abbrev waited : State → State
waited s = record s { waiting = entered s.waiting }

abbrev opened_call : Text → Part → ℕ → Macro → Argued → Result Begun Stopped
opened_call t part at called first = Ok (begun (Action.Open first.part ((call_of t called (at + 2) part.end).close + 1)) first.state)

abbrev called_on : Text → Part → ℕ → Macro → ℕ → State → Result Begun Stopped
called_on t part at called inside s = on_ok (first_argument t (calling part inside) (call_of t called (at + 2) part.end) (at + 2) (waited s)) (opened_call t part at called)

abbrev begun_inside : Text → Part → ℕ → Macro → ℕ → State → Result Begun Stopped
begun_inside t part at called inside s = on_ok (passed 40 t (at + 1) part.end s) (called_on t part at called inside)

says_begun_call : {m : List ℕ} (t : Text) (part : Part) (at : ℕ) (called : Macro) (s : State) → IsFront m s.messages → Says begun_state m (begun_call t part at called s)
says_begun_call t part at called s is = says_on _ _ (says_deeper t at part.depth s is) (λ inside _. says_if (is_misfit t called at part.end) (wrong 6 t at s) (begun_inside t part at called inside s) (says_wrong 6 t at s is)
    (says_on (passed 40 t (at + 1) part.end s) (called_on t part at called inside) (says_passed 40 t (at + 1) part.end s is) (λ s1 is1.
    says_on (first_argument t (calling part inside) (call_of t called (at + 2) part.end) (at + 2) (waited s1)) (opened_call t part at called) (says_first_argument t (calling part inside) (call_of t called (at + 2) part.end) (at + 2) (waited s1) is1) (λ a is2. Says.ok _ is2))))

says_begun_bound : {m : List ℕ} (b : Option Binding) (t : Text) (part : Part) (at : ℕ) (token : Option Token) (s : State) → IsFront m s.messages → Says begun_state m (begun_bound b t part at token s)
says_begun_bound (Some (Binding.Macro called)) t part at token s is = says_begun_call t part at called s is
says_begun_bound (Some (Binding.Value value)) t part at (Some token) s is = says_substituted part _ token _ s is
says_begun_bound (Some (Binding.Block block)) t part at (Some token) s is = says_substituted part _ token _ s is
says_begun_bound (Some (Binding.Value value)) t part at None s is = says_handed_token None part (at + 1) s is
says_begun_bound (Some (Binding.Block block)) t part at None s is = says_handed_token None part (at + 1) s is
says_begun_bound (Some (Binding.Reference other)) t part at token s is = says_handed_token token part (at + 1) s is
says_begun_bound None t part at token s is = says_handed_token token part (at + 1) s is

says_truth : {m : List ℕ} (token : Option Token) (part : Part) (held : Bool) (next : ℕ) (s : State) → IsFront m s.messages → Says begun_state m (handed_truth token part held next s)
says_truth None part held next s is = Says.ok _ is
says_truth (Some token) part held next s is = says_substituted part next token (like token (Kind.Number (truth held)) ∷ []) s is

says_begun_defined : {m : List ℕ} (t : Text) (part : Part) (at : ℕ) (s : State) → IsFront m s.messages → Says begun_state m (begun_defined t part at s)
says_begun_defined t part at s is = says_if _ _ _
    (says_on _ _ (says_counted t (at + 1) s is) (λ s1 is1. says_on _ _ (says_counted t (at + 2) s1 is1) (λ s2 is2. says_on _ _ (says_counted t (at + 3) s2 is2) (λ s3 is3. says_truth (slice_get t.tokens at) part (is_bound_by (slice_get t.marks (at + 2)) s3.scopes) (at + 4) s3 is3))))
    (says_handed_at t part at s is)

-- ---- a token

says_begun_word : {m : List ℕ} (d : Directive) (t : Text) (part : Part) (at : ℕ) (s : State) → IsFront m s.messages → Says begun_state m (begun_word d t part at s)
says_begun_word Directive.If t part at s is = says_begun_if t part at s is
says_begun_word Directive.Ifdef t part at s is = says_begun_ifdef t part true at s is
says_begun_word Directive.Ifndef t part at s is = says_begun_ifdef t part false at s is
says_begun_word Directive.While t part at s is = says_begun_while t part at s is
says_begun_word Directive.For t part at s is = says_begun_for t part at s is
says_begun_word Directive.Switch t part at s is = says_begun_switch t part at s is
says_begun_word Directive.Macro t part at s is = says_begun_macro t part at s is
says_begun_word Directive.Declare t part at s is = says_begun_declare t part false at s is
says_begun_word Directive.Local t part at s is = says_begun_declare t part true at s is
says_begun_word Directive.Undef t part at s is = says_begun_undef t part at s is
says_begun_word Directive.Include t part at s is = says_begun_include t part at s is
says_begun_word Directive.Error t part at s is = says_begun_message t part true at s is
says_begun_word Directive.Message t part at s is = says_begun_message t part false at s is
says_begun_word Directive.Version t part at s is = says_begun_version t part at s is
says_begun_word Directive.Default t part at s is = says_on _ _ (says_handed_at t part at s is) (λ b is1. says_on _ _ (says_counted t _ b.state is1) (λ s2 is2. says_handed_at t part _ s2 is2))
says_begun_word Directive.Break t part at s is = says_on _ _ (says_counted t _ s is) (λ s' is'. Says.ok _ is')
says_begun_word Directive.End t part at s is = says_wrong 3 t at s is
says_begun_word Directive.Else t part at s is = says_wrong 3 t at s is
says_begun_word Directive.Case t part at s is = says_wrong 3 t at s is
says_begun_word Directive.Range t part at s is = says_wrong 3 t at s is

says_begun_directive : {m : List ℕ} (d : Option Directive) (t : Text) (part : Part) (at : ℕ) (s : State) → IsFront m s.messages → Says begun_state m (begun_directive d t part at s)
says_begun_directive None t part at s is = says_wrong 1 t at s is
says_begun_directive (Some d) t part at s is = says_begun_word d t part at s is

says_begun_mark : {m : List ℕ} (mark : Option Mark) (t : Text) (part : Part) (at : ℕ) (s : State) → IsFront m s.messages → Says begun_state m (begun_mark mark t part at s)
says_begun_mark (Some (Mark.Sign code)) t part at s is = says_if _ _ _ (says_begun_directive (directive_at t.marks at) t part at s is) (says_handed_at t part at s is)
says_begun_mark (Some (Mark.Name name)) t part at s is = says_begun_bound (found s.scopes name) t part at (slice_get t.tokens at) s is
says_begun_mark (Some (Mark.Known Known.Defined)) t part at s is = says_begun_defined t part at s is
says_begun_mark (Some (Mark.Known (Known.Directive d))) t part at s is = says_handed_at t part at s is
says_begun_mark (Some (Mark.Known Known.Block)) t part at s is = says_handed_at t part at s is
says_begun_mark (Some (Mark.Known Known.Colour)) t part at s is = says_handed_at t part at s is
says_begun_mark (Some (Mark.Known Known.Other)) t part at s is = says_handed_at t part at s is
says_begun_mark (Some Mark.Number) t part at s is = says_handed_at t part at s is
says_begun_mark (Some Mark.Text) t part at s is = says_handed_at t part at s is
says_begun_mark None t part at s is = says_handed_at t part at s is

pub says_begun : {m : List ℕ} (t : Text) (part : Part) (at : ℕ) (s : State) → IsFront m s.messages → Says begun_state m (begun_in t part at s)
says_begun t part at s is = says_on _ _ (says_counted t at s is) (λ s' is'. says_begun_mark (slice_get t.marks at) t part at s' is')
