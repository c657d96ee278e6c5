-- Blocks: what comes of their parts comes of the whole.
use Rattle.std.proofs.Common.{◌≡◌, ◌<◌, ◌+◌, ◌-◌, ℕ, zero, suc, Bool, true, List, Some, None, Result, Ok, Err, sym, subst, arith}
use Rattle.std.specs.Prelude.{nat_eq}
use Rattle.scene_lexer.specs.declared.sign.TheConstants.{CLOSE_BRACE}
use Rattle.scene_lexer.specs.declared.token.Token.{Token as TextToken}
use Rattle.scene_expr.specs.Heads.{place_at, sign_at}
use Rattle.scene_expr.specs.Then.{IsThen}
use Rattle.item_blocks.specs.declared.fault.ParseFault.{ParseFault}
use Rattle.item_blocks.specs.declared.fault.Wanted.{Wanted}
use Rattle.item_blocks.specs.Tokens.{Behind, word_at, opened}
use Rattle.item_blocks.specs.Blocks.{Kind, closed, IsStatements, IsLed, IsBraced, IsOwn, IsBlock}

-- what comes of the statements from a place on comes of the block
abbrev pub Whole : {S : Type 0} → Kind S → List TextToken → ℕ → S → ℕ → S → ℕ → Type 0
Whole {S} kind tokens depths s at now next =
    (r : Result (Behind S) ParseFault) → IsStatements tokens (kind.statement (depths - 1)) kind.lacks now next r → IsBlock kind tokens depths s at r

-- a block where one brace less may be open is one inside
pub own_is : {S : Type 0} (kind : Kind S) (tokens : List TextToken) (depths : ℕ) (s : S) (at : ℕ) (r : Result (Behind S) ParseFault) → 0 < depths → IsBlock kind tokens (depths - 1) s at r → IsOwn kind tokens depths s at r
unfolding IsOwn
own_is kind tokens zero s at r some is = absurd (omega (arith, some))
own_is kind tokens (suc d) s at r some is =
    let e : suc d - 1 ≡ d = omega arith in
    subst (λ n. IsBraced kind tokens n (IsOwn kind tokens n) s at r) e is

-- what stands first, where the own word does
pub led_inside : {S : Type 0} (kind : Kind S) (tokens : List TextToken) (depths : ℕ) (leads : Bool) (s : S) (at : ℕ) (r : Result (Behind S) ParseFault) → leads ≡ true → 0 < depths → IsBlock kind tokens (depths - 1) s (at + 1) r → IsLed leads (IsOwn kind tokens depths) s at r
led_inside kind tokens depths leads s at r is some block =
    subst (λ b. IsLed b (IsOwn kind tokens depths) s at r) (sym is) (own_is kind tokens depths s (at + 1) r some block)

module _ {S : Type 0} (kind : Kind S) (tokens : List TextToken) (depths : ℕ) where
  -- the parts of a block, one behind the other
  pub led_fault : (s : S) (at start : ℕ) (leads : Bool) (f : ParseFault) → Ok start ≡ opened tokens depths at → leads ≡ kind.leads (word_at tokens start) → IsLed leads (IsOwn kind tokens depths) s start (Err f) → IsBlock kind tokens depths s at (Err f)
  led_fault s at start leads f brace is fault =
      IsThen.found start (Err f) brace (IsThen.fault f (subst (λ b. IsLed b (IsOwn kind tokens depths) s start (Err f)) is fault))

  pub first_fault : (s : S) (at start : ℕ) (leads : Bool) (led : S) (begun : ℕ) (f : ParseFault) → Ok start ≡ opened tokens depths at → leads ≡ kind.leads (word_at tokens start) → IsLed leads (IsOwn kind tokens depths) s start (Ok (record { value = led; next = begun })) → kind.first (depths - 1) leads led begun (Err f) → IsBlock kind tokens depths s at (Err f)
  first_fault s at start leads led begun f brace is found fault =
      IsThen.found start (Err f) brace (IsThen.found (record { value = led; next = begun }) (Err f) (subst (λ b. IsLed b (IsOwn kind tokens depths) s start (Ok (record { value = led; next = begun }))) is found) (IsThen.fault f (subst (λ b. kind.first (depths - 1) b led begun (Err f)) is fault)))

  pub whole : (s : S) (at start : ℕ) (leads : Bool) (led : S) (begun : ℕ) (first : S) (next : ℕ) → Ok start ≡ opened tokens depths at → leads ≡ kind.leads (word_at tokens start) → IsLed leads (IsOwn kind tokens depths) s start (Ok (record { value = led; next = begun })) → kind.first (depths - 1) leads led begun (Ok (record { value = first; next = next })) → Whole kind tokens depths s at first next
  whole s at start leads led begun first next brace is found begins r rest =
      IsThen.found start r brace (IsThen.found (record { value = led; next = begun }) r (subst (λ b. IsLed b (IsOwn kind tokens depths) s start (Ok (record { value = led; next = begun }))) is found) (IsThen.found (record { value = first; next = next }) r (subst (λ b. kind.first (depths - 1) b led begun (Ok (record { value = first; next = next }))) is begins) rest))

  pub ends_found : (s : S) (at : ℕ) (now : S) (next : ℕ) → Whole kind tokens depths s at now next → nat_eq (sign_at tokens next) CLOSE_BRACE ≡ true → None ≡ kind.lacks now → IsBlock kind tokens depths s at (Ok (record { value = now; next = next + 1 }))
  ends_found s at now next all brace lacks =
      all _ (subst (λ l. IsStatements tokens (kind.statement (depths - 1)) kind.lacks now next (closed tokens l now next)) (sym lacks) (IsStatements.ends now next brace))

  pub ends_lacking : (s : S) (at : ℕ) (now : S) (next : ℕ) (wanted : Wanted) → Whole kind tokens depths s at now next → nat_eq (sign_at tokens next) CLOSE_BRACE ≡ true → Some wanted ≡ kind.lacks now → IsBlock kind tokens depths s at (Err (ParseFault.Expected (place_at tokens next) wanted))
  ends_lacking s at now next wanted all brace lacks =
      all _ (subst (λ l. IsStatements tokens (kind.statement (depths - 1)) kind.lacks now next (closed tokens l now next)) (sym lacks) (IsStatements.ends now next brace))
