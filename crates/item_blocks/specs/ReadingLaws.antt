-- What answers on readings cite: the exit of a `?`, values and faults behind a place, parameters, and equal places and states.
use Rattle.std.specs.Prelude.{◌≡◌, ℕ, List, [], ◌∷◌, length, Result, Ok, Err, refl}
use Rattle.std.specs.Result.{IfErr, IsErrAnd}
use Rattle.std.proofs.Common.{sym, ap, subst, get_or}
use Rattle.scene_lexer.specs.declared.token.Place.{Place}
use Rattle.scene_lexer.specs.declared.token.Token.{Token as TextToken}
use Rattle.scene_expr.specs.declared.value.Settings.{Settings}
use Rattle.scene_expr.specs.declared.value.Value.{Value}
use Rattle.scene_expr.specs.Heads.{place_at}
use Rattle.scene_expr.specs.Then.{IsThen}
use Rattle.item_blocks.specs.declared.fault.ParseFault.{ParseFault}
use Rattle.item_blocks.specs.Tokens.{Behind, behind, IsExpression}
use Rattle.item_blocks.specs.Parameters.{IsParameter}
use Rattle.item_blocks.specs.Blocks.{Kind, IsBlock}

-- what holds of a fault holds at the exit of a `?`
pub exit : {T E : Type 0} → (Q : E → Type 0) (y : E) (r : Result T E) → IsErrAnd r (λ x. x ≡ y) → Q y → IfErr r Q
exit Q y (Ok t) is q = absurd is
exit Q y (Err x) is q = subst Q (sym is) q

-- the same value, and the same fault, behind a place
pub same_value : {A : Type 0} (a b : A) (next : ℕ) → a ≡ b → ◌≡◌ {A = Result (Behind A) ParseFault} (Ok (record { value = a; next = next })) (Ok (record { value = b; next = next }))
same_value a b next is = ap (λ (v : _). behind (Ok v) next) is

pub behind_value : {A : Type 0} (m : Result A ParseFault) (a : A) (next : ℕ) → m ≡ Ok a → Ok (record { value = a; next = next }) ≡ behind m next
behind_value m a next is = rw is refl

pub behind_fault : {A : Type 0} (m : Result A ParseFault) (f : ParseFault) (next : ℕ) → m ≡ Err f → Err f ≡ behind m next
behind_fault m f next is = rw is refl

-- ---- parameters

module _ (A : Type 0) (meaning : Value → Place → Result A ParseFault) (tokens : List TextToken) (set : Settings) (at : ℕ) where
  pub parameter_fault : (f : ParseFault) → IsExpression tokens set at (Err f) → IsParameter A meaning tokens set at (Err f)
  parameter_fault f fault = IsThen.fault f fault

  pub parameter_refused : (value : Value) (next : ℕ) (f : ParseFault) → IsExpression tokens set at (Ok (record { value = value; next = next })) → meaning value (place_at tokens at) ≡ Err f → IsParameter A meaning tokens set at (Err f)
  parameter_refused value next f found refused = IsThen.found _ (Err f) found (rw refused refl)

  pub parameter_found : (value : Value) (next : ℕ) (a : A) → IsExpression tokens set at (Ok (record { value = value; next = next })) → meaning value (place_at tokens at) ≡ Ok a → IsParameter A meaning tokens set at (Ok (record { value = a; next = next }))
  parameter_found value next a found is = IsThen.found _ (Ok (record { value = a; next = next })) found (rw is refl)

-- ---- equal places, states and things

-- a parameter at an equal place
pub at_same : (A : Type 0) (meaning : Value → Place → Result A ParseFault) (tokens : List TextToken) (settings : Settings) (at at' : ℕ) (r : Result (Behind A) ParseFault) → at ≡ at' → IsParameter A meaning tokens settings at r → IsParameter A meaning tokens settings at' r
at_same A meaning tokens settings at at' r is p = subst (λ n. IsParameter A meaning tokens settings n r) is p

-- a block from an equal state
pub same_state : {S : Type 0} (kind : Kind S) (tokens : List TextToken) (depths : ℕ) (s s' : S) (at : ℕ) (r : Result (Behind S) ParseFault) → s ≡ s' → IsBlock kind tokens depths s at r → IsBlock kind tokens depths s' at r
same_state kind tokens depths s s' at r is block = subst (λ (x : _). IsBlock kind tokens depths x at r) is block

-- of a list of one thing, the first is the same whatever stands for none
pub first_same : {A : Type 0} (xs : List A) (d e : A) → length xs ≡ 1 → get_or xs 0 d ≡ get_or xs 0 e
first_same [] d e one = absurd (cc one)
first_same (x ∷ xs) d e one = refl
