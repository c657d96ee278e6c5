-- Lists that are evaluated.
use Rattle.std.proofs.Common.{ℕ, ◌≡◌, ◌≢◌, refl, subst, sym, ap, ◌∙◌, List, drop, length, nat_eq, Bool, true, false, Result, Ok, Err, if◌then◌else◌}
use Rattle.scene_lexer.specs.declared.token.Token.{Token}
use Rattle.scene_lexer.specs.declared.token.Place.{Place}
use Rattle.scene_expr.specs.declared.value.ExprFault.{ExprFault}
use Rattle.scene_expr.specs.declared.value.Settings.{Settings}
use Rattle.scene_expr.specs.declared.value.Value.{Value}
use Rattle.scene_expr.specs.Heads.{place_at}
use Rattle.directive_machine.specs.declared.stop.Stop.{Stop}
use Rattle.directive_machine.specs.State.{State, stopped, restored}
use Rattle.directive_machine.specs.Values.{whole_of, IsWhole, IsEvaluated, given, stop_of}

chosen : (b : Bool) (value : Value) (f : ExprFault) → b ≡ true → ◌≡◌ {A = Result Value ExprFault} (Ok value) (if b then Ok value else Err f)
chosen true value f is = refl
chosen false value f is = absurd (cc is)

other : (b : Bool) (value : Value) (f : ExprFault) → b ≡ false → ◌≡◌ {A = Result Value ExprFault} (Err f) (if b then Ok value else Err f)
other false value f is = refl
other true value f is = absurd (cc is)

pub whole_value : (list : List Token) (value : Value) (next : ℕ) → nat_eq next (length list) ≡ true → Ok value ≡ whole_of list (record { value = value; next = next })
whole_value list value next is = chosen _ value _ is

pub whole_fault : (list : List Token) (value : Value) (next : ℕ) (place : Place) → place ≡ place_at list next → nat_eq next (length list) ≡ false → Err (ExprFault.Expected place) ≡ whole_of list (record { value = value; next = next })
whole_fault list value next place there is = ap (λ p. Err (ExprFault.Expected p)) there ∙ other _ value _ is

pub evaluated : (set : Settings) (from : ℕ) (s s' : State) (list : List Token) (value : Value) (first : Place) → list ≡ drop from s.out → first ≡ place_at list 0 → s' ≡ restored from s → IsWhole set list (Ok value) → IsEvaluated set from s (Ok (given value first s'))
evaluated set from s s' list value first same there is whole =
    subst (λ k. IsEvaluated set from s (Ok (given value first k))) (sym is)
    (subst (λ p. IsEvaluated set from s (Ok (given value p (restored from s)))) (sym (there ∙ ap (λ l. place_at l 0) same))
    (IsEvaluated.value value (subst (λ l. IsWhole set l (Ok value)) same whole)))

told : (set : Settings) (from : ℕ) (s : State) (list : List Token) (f : ExprFault) (stop : Stop) → list ≡ drop from s.out → stop ≡ Stop.Expr f → IsWhole set list (Err f) → IsEvaluated set from s (Err (stopped stop s))
told set from s list f stop same is whole =
    subst (λ k. IsEvaluated set from s (Err (stopped k s))) (sym is) (IsEvaluated.fault f (subst (λ l. IsWhole set l (Err f)) same whole))

pub refused : (set : Settings) (from : ℕ) (s : State) (list : List Token) (f : ExprFault) (stop : Stop) → list ≡ drop from s.out → stop ≡ stop_of f → (f ≢ ExprFault.NoMemory → IsWhole set list (Err f)) → stop ≢ Stop.NoMemory → IsEvaluated set from s (Err (stopped stop s))
refused set from s list ExprFault.NoMemory stop same is whole some = absurd (some is)
refused set from s list (ExprFault.Expected p) stop same is whole some = told set from s list _ stop same is (whole (λ e. cc e))
refused set from s list (ExprFault.UnknownName p) stop same is whole some = told set from s list _ stop same is (whole (λ e. cc e))
refused set from s list (ExprFault.Kind p) stop same is whole some = told set from s list _ stop same is (whole (λ e. cc e))
refused set from s list (ExprFault.ZeroDivisor p) stop same is whole some = told set from s list _ stop same is (whole (λ e. cc e))
refused set from s list (ExprFault.Range p) stop same is whole some = told set from s list _ stop same is (whole (λ e. cc e))
