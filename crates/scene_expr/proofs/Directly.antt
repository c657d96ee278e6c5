-- Expressions of one number or two, read without the levels.
use Rattle.std.proofs.Common.{ℕ, zero, suc, ℤ, subst, sym, ap, ◌≡◌, ◌<◌, ◌+◌, ◌-◌, refl, arith, nat_eq, Bool, true, false, List, Some, None, Ok}
use Rattle.std.specs.Prelude.{neg_ℤ}
use Rattle.scene_lexer.specs.declared.token.Token.{Token}
use Rattle.scene_expr.specs.declared.value.Level.{Level}
use Rattle.scene_expr.specs.declared.value.Settings.{Settings}
use Rattle.scene_expr.specs.declared.value.Value.{Value}
use Rattle.scene_expr.specs.declared.heads.Head.{Head}
use Rattle.scene_expr.specs.declared.heads.Mark.{Mark}
use Rattle.scene_expr.specs.declared.heads.Opener.{Opener}
use Rattle.scene_expr.specs.declared.operators.Operator.{Operator}
use Rattle.scene_expr.specs.declared.operators.Prefix.{Prefix}
use Rattle.scene_expr.specs.Then.{IsThen}
use Rattle.scene_expr.specs.Grammar.{Read, inner, inner_of, made, is_repeated, tier_operator, IsBare, IsDotted, IsFactor, IsRest, IsTakenIn}
use Rattle.scene_expr.specs.Heads.{head_at, sign_at, place_at}
use Rattle.scene_expr.specs.Operators.{applied}
use Rattle.scene_expr.specs.Short.{tiers_in}
use Rattle.scene_expr.specs.Steps.{at_depths, read}
use Rattle.scene_expr.proofs.Levels.{opened, choice_inside, sum_inside, factor_inside, tiers_of, unasked}

-- a number is a factor
pub number_factor : (tokens : List Token) (set : Settings) (depths at : ℕ) (number : ℤ) → head_at tokens at ≡ Head.Number number → nat_eq (sign_at tokens (at + 1)) 46 ≡ false →
    at_depths IsFactor tokens set depths at (Ok (read (Value.Float number) (at + 1)))
number_factor tokens set depths at number head undotted =
    IsThen.found (read (Value.Float number) (at + 1)) (Ok (read (Value.Float number) (at + 1)))
    (subst (λ begun. IsBare tokens set (nat_eq depths 0) (inner tokens set depths) begun at (Ok (read (Value.Float number) (at + 1)))) (sym head) refl)
    (IsDotted.ends (read (Value.Float number) (at + 1)) undotted)

-- and so is a minus before one
pub negative_factor : (tokens : List Token) (set : Settings) (depths at next : ℕ) (number : ℤ) → 0 < depths → head_at tokens at ≡ Head.Opener (Opener.Mark (Mark.Sign Prefix.Minus)) →
    at_depths IsFactor tokens set (depths - 1) (at + 1) (Ok (read (Value.Float number) next)) → nat_eq (sign_at tokens next) 46 ≡ false →
    at_depths IsFactor tokens set depths at (Ok (read (Value.Float (neg_ℤ number)) next))
negative_factor tokens set depths at next number some head factor undotted =
    IsThen.found (read (Value.Float (neg_ℤ number)) next) (Ok (read (Value.Float (neg_ℤ number)) next))
    (subst (λ begun. IsBare tokens set (nat_eq depths 0) (inner tokens set depths) begun at (Ok (read (Value.Float (neg_ℤ number)) next))) (sym head)
    (opened tokens set depths (place_at tokens at) (Opener.Mark (Mark.Sign Prefix.Minus)) at (Ok (read (Value.Float (neg_ℤ number)) next)) some
    (IsThen.found (read (Value.Float number) next) (Ok (read (Value.Float (neg_ℤ number)) next)) (factor_inside tokens set (depths - 1) (at + 1) (Ok (read (Value.Float number) next)) factor) refl)))
    (IsDotted.ends (read (Value.Float (neg_ℤ number)) next) undotted)

-- what a tier reads is what a higher one does, where no operator between them follows
pub risen : (tokens : List Token) (set : Settings) (depths more tier top at : ℕ) (left : Read) → more + tier ≡ top → ((t : ℕ) → t < top → tier_operator t (sign_at tokens left.next) ≡ None) →
    tiers_of tokens set depths tier at (Ok left) → tiers_of tokens set depths top at (Ok left)
risen tokens set depths zero tier top at left is none found =
    let same : tier ≡ top = omega arith in subst (λ t. tiers_of tokens set depths t at (Ok left)) same found
risen tokens set depths (suc more) tier top at left is none found =
    risen tokens set depths more (suc tier) top at left (omega arith) none (IsThen.found left (Ok left) found (IsRest.alone left (none tier (omega arith))))

-- a factor alone
pub alone : (tokens : List Token) (set : Settings) (depths top at : ℕ) (left : Read) → ((t : ℕ) → t < top → tier_operator t (sign_at tokens left.next) ≡ None) →
    at_depths IsFactor tokens set depths at (Ok left) → tiers_of tokens set depths top at (Ok left)
alone tokens set depths top at left none factor = risen tokens set depths top 0 top at left (omega arith) none factor

-- two factors with an operator of a tier between them
pub joined : (tokens : List Token) (set : Settings) (depths tier at : ℕ) (left right : Read) (operator : Operator) (value : Value) →
    ((t : ℕ) → t < tier → tier_operator t (sign_at tokens left.next) ≡ None) → tier_operator tier (sign_at tokens left.next) ≡ Some operator →
    ((t : ℕ) → t < suc tier → tier_operator t (sign_at tokens right.next) ≡ None) →
    at_depths IsFactor tokens set depths at (Ok left) → at_depths IsFactor tokens set depths (left.next + 1) (Ok right) → applied operator left.value right.value ≡ Ok value →
    tiers_of tokens set depths (suc tier) at (Ok (read value right.next))
joined tokens set depths tier at left right operator value before sign behind first second makes =
    IsThen.found left (Ok (read value right.next)) (alone tokens set depths tier at left before first) (by (is_repeated tier) refl)
  where
    none : tier_operator tier (sign_at tokens right.next) ≡ None
    none = behind tier (omega arith)

    taken : IsTakenIn tokens (tiers_of tokens set depths tier) operator left (Ok (read value right.next))
    taken =
        IsThen.found right (Ok (read value right.next)) (alone tokens set depths tier (left.next + 1) right (λ t below. behind t (omega (arith, below))) second)
        (sym (ap (λ outcome. made outcome (place_at tokens left.next) right.next) makes))

    by : (b : Bool) → is_repeated tier ≡ b → IsRest tokens tier (tiers_of tokens set depths tier) left (Ok (read value right.next))
    by true repeated = IsRest.further left operator (read value right.next) (Ok (read value right.next)) sign taken repeated (IsRest.alone (read value right.next) none)
    by false once = IsRest.once left operator (read value right.next) sign taken once

-- what the tiers of a level read is an expression of it, where no question mark follows
pub at_level : (tokens : List Token) (set : Settings) (depths : ℕ) (level : Level) (at : ℕ) (found : Read) → tiers_of tokens set depths (tiers_in level) at (Ok found) → nat_eq (sign_at tokens found.next) 63 ≡ false →
    inner tokens set (suc depths) (inner_of level) at (Ok found)
at_level tokens set depths Level.Choice at found tiers none =
    choice_inside tokens set depths at (Ok found) (IsThen.found found (Ok found) tiers (unasked tokens (nat_eq depths 0) (inner tokens set depths) found none))
at_level tokens set depths Level.Sum at found tiers none = sum_inside tokens set depths at (Ok found) tiers

-- a factor before the end of an expression
pub one_factor : (tokens : List Token) (set : Settings) (depths : ℕ) (level : Level) (at : ℕ) (left : Read) → at_depths IsFactor tokens set depths at (Ok left) →
    ((t : ℕ) → t < tiers_in level → tier_operator t (sign_at tokens left.next) ≡ None) → nat_eq (sign_at tokens left.next) 63 ≡ false →
    inner tokens set (suc depths) (inner_of level) at (Ok left)
one_factor tokens set depths level at left factor none unasked =
    at_level tokens set depths level at left (alone tokens set depths (tiers_in level) at left none factor) unasked

-- two factors with an operator between them before it
pub two_factors : (tokens : List Token) (set : Settings) (depths : ℕ) (level : Level) (at tier : ℕ) (left right : Read) (operator : Operator) (value : Value) → tier < tiers_in level →
    ((t : ℕ) → t < tier → tier_operator t (sign_at tokens left.next) ≡ None) → tier_operator tier (sign_at tokens left.next) ≡ Some operator →
    ((t : ℕ) → t < tiers_in level → tier_operator t (sign_at tokens right.next) ≡ None) → nat_eq (sign_at tokens right.next) 63 ≡ false →
    at_depths IsFactor tokens set depths at (Ok left) → at_depths IsFactor tokens set depths (left.next + 1) (Ok right) → applied operator left.value right.value ≡ Ok value →
    inner tokens set (suc depths) (inner_of level) at (Ok (read value right.next))
two_factors tokens set depths level at tier left right operator value below before sign behind unasked first second makes =
    at_level tokens set depths level at (read value right.next)
    (risen tokens set depths (tiers_in level - suc tier) (suc tier) (tiers_in level) at (read value right.next) (omega (arith, below)) behind
    (joined tokens set depths tier at left right operator value before sign (λ t less. behind t (omega (arith, below, less))) first second makes))
    unasked
