-- What is passed over: what comes of the rest comes of the whole.
use Rattle.std.proofs.Common.{◌≡◌, ◌≤◌, ◌<◌, ◌+◌, ◌-◌, ℕ, zero, suc, true, false, List, Result, Ok, Err, length, arith, subst}
use Rattle.std.specs.Prelude.{nat_eq}
use Rattle.scene_lexer.specs.declared.sign.TheConstants.{OPEN_BRACE, CLOSE_BRACE}
use Rattle.scene_lexer.specs.declared.token.Token.{Token as TextToken}
use Rattle.scene_expr.specs.Heads.{sign_at}
use Rattle.item_blocks.specs.declared.fault.ParseFault.{ParseFault}
use Rattle.item_blocks.specs.declared.fault.Wanted.{Wanted}
use Rattle.item_blocks.specs.Tokens.{opened, unfit_at}
use Rattle.object_items.specs.Skipped.{IsSkipped, IsPassedOver}

-- what comes of the tokens from here on comes of the braces
abbrev pub Whole : List TextToken → ℕ → ℕ → ℕ → ℕ → Type 0
Whole tokens depths at left next = (r : Result ℕ ParseFault) → IsSkipped tokens depths left next r → IsPassedOver tokens depths at r

module _ (tokens : List TextToken) (depths at : ℕ) where
  pub missing : (left next : ℕ) → 0 < left → length tokens ≤ next → Whole tokens depths at left next → IsPassedOver tokens depths at (Err (unfit_at Wanted.CloseBrace tokens next))
  missing zero next some end whole = absurd (omega (arith, some))
  missing (suc left) next some end whole = whole _ (IsSkipped.missing left next end)

  pub too_deep : (left next : ℕ) (f : ParseFault) → 0 < left → nat_eq (sign_at tokens next) OPEN_BRACE ≡ true → Err f ≡ opened tokens (depths - left) next → Whole tokens depths at left next → IsPassedOver tokens depths at (Err f)
  too_deep zero next f some brace is whole = absurd (omega (arith, some))
  too_deep (suc left) next f some brace is whole = whole _ (IsSkipped.too_deep left next f brace is)

  pub opens : (left next further : ℕ) → 0 < left → nat_eq (sign_at tokens next) OPEN_BRACE ≡ true → Ok further ≡ opened tokens (depths - left) next → Whole tokens depths at left next → Whole tokens depths at (left + 1) further
  opens zero next further some brace is whole r rest = absurd (omega (arith, some))
  opens (suc left) next further some brace is whole r rest =
      let e : suc left + 1 ≡ suc (suc left) = omega arith in
      whole r (IsSkipped.opens left next further r brace is (subst (λ n. IsSkipped tokens depths n further r) e rest))

  pub closes : (left next : ℕ) → 0 < left → nat_eq (sign_at tokens next) CLOSE_BRACE ≡ true → Whole tokens depths at left next → Whole tokens depths at (left - 1) (next + 1)
  closes zero next some brace whole r rest = absurd (omega (arith, some))
  closes (suc left) next some brace whole r rest =
      let e : suc left - 1 ≡ left = omega arith in
      whole r (IsSkipped.closes left next r brace (subst (λ n. IsSkipped tokens depths n (next + 1) r) e rest))

  pub further : (left next : ℕ) → 0 < left → next < length tokens → nat_eq (sign_at tokens next) OPEN_BRACE ≡ false → nat_eq (sign_at tokens next) CLOSE_BRACE ≡ false → Whole tokens depths at left next → Whole tokens depths at left (next + 1)
  further zero next some within brace end whole r rest = absurd (omega (arith, some))
  further (suc left) next some within brace end whole r rest = whole r (IsSkipped.further left next r within brace end rest)

  pub ends : (left next : ℕ) → left ≡ 0 → Whole tokens depths at left next → IsPassedOver tokens depths at (Ok next)
  ends zero next none whole = whole _ (IsSkipped.closed next)
  ends (suc left) next none whole = absurd (omega (arith, none))
