-- What a level reads one depth further in, and chains of operands.
use Rattle.std.proofs.Common.{ℕ, zero, suc, subst, sym, ap, ◌∙◌, ◌≢◌, length, length-append, ◌≤◌, Bool, MatchBool, ◌+◌, ◌-◌, ◌<◌, ◌≡◌, refl, arith, nat_eq, true, false, List, Option, Some, None, Result, Ok, Err, ◌∷◌, [], ◌++◌}
use Rattle.std.specs.Prelude.{slice_get, if◌then◌else◌}
use Rattle.std.specs.Result.{IfErr, IsErrAnd}
use Rattle.std.proofs.lemmas.Option.{slice_get_within}
use Rattle.scene_expr.specs.declared.words.Arity.{Arity}
use Rattle.scene_lexer.specs.declared.token.Token.{Token}
use Rattle.scene_lexer.specs.declared.token.Place.{Place}
use Rattle.scene_expr.specs.declared.value.Settings.{Settings}
use Rattle.scene_expr.specs.declared.value.ExprFault.{ExprFault}
use Rattle.scene_expr.specs.declared.value.Value.{Value}
use Rattle.scene_expr.specs.declared.value.Trouble.{Trouble}
use Rattle.scene_expr.specs.declared.heads.Head.{Head}
use Rattle.scene_expr.specs.declared.heads.Opener.{Opener}
use Rattle.scene_expr.specs.declared.operators.Operator.{Operator}
use Rattle.scene_expr.specs.Then.{IsThen}
use Rattle.scene_expr.specs.Grammar.{Read, Outcome, Reading, Inner, inner, IsChoice, IsSum, IsFactor, IsOpened, IsOpening, IsBranched, IsRest, IsTakenIn, IsTier, tier_operator, is_repeated, IsAsked, IsRow, Row, goes_on, is_below, made}
use Rattle.scene_expr.specs.Heads.{head_at, head_of, sign_at, sign_of, place_at, channel_at, meaning_of}
use Rattle.scene_expr.specs.Operators.{applied}
use Rattle.scene_expr.specs.Words.{channel_of}
use Rattle.scene_expr.specs.declared.words.Channel.{Channel}
use Rattle.scene_expr.specs.Steps.{at_depths}

pub choice_inside : (tokens : List Token) (set : Settings) (depths at : ℕ) (r : Outcome) → at_depths IsChoice tokens set depths at r → inner tokens set (suc depths) Inner.Choice at r
unfolding inner
choice_inside tokens set depths at r read = read

pub sum_inside : (tokens : List Token) (set : Settings) (depths at : ℕ) (r : Outcome) → at_depths IsSum tokens set depths at r → inner tokens set (suc depths) Inner.Sum at r
unfolding inner
sum_inside tokens set depths at r read = read

pub factor_inside : (tokens : List Token) (set : Settings) (depths at : ℕ) (r : Outcome) → at_depths IsFactor tokens set depths at r → inner tokens set (suc depths) Inner.Factor at r
unfolding inner
factor_inside tokens set depths at r read = read

-- where a depth is left, what is read inside it is read
pub opened : (tokens : List Token) (set : Settings) (depths : ℕ) (place : Place) (opener : Opener) (at : ℕ) (r : Outcome) → 0 < depths → IsOpening tokens (inner tokens set (suc (depths - 1))) opener at r → IsOpened (nat_eq depths 0) place (IsOpening tokens (inner tokens set depths) opener at) r
opened tokens set zero place opener at r some read = absurd (omega arith)
opened tokens set (suc depths) place opener at r some read =
    let same : suc (suc depths - 1) ≡ suc depths = omega arith in
    let left : nat_eq (suc depths) 0 ≡ false = grind arith in
    subst (λ full. IsOpened full place (IsOpening tokens (inner tokens set (suc depths)) opener at) r) (sym left)
    (subst (λ d. IsOpening tokens (inner tokens set d) opener at r) same read)

-- and where none is left, its token is at fault
pub too_deep : (tokens : List Token) (set : Settings) (depths : ℕ) (place : Place) (body : Outcome → Type 0) → depths ≡ 0 → IsOpened (nat_eq depths 0) place body (Err (ExprFault.Range place))
too_deep tokens set zero place body none = refl
too_deep tokens set (suc depths) place body none = absurd (omega arith)

-- what holds of a fault holds at the exit of a `?`
pub exit : {T E : Type 0} → (Q : E → Type 0) (y : E) (r : Result T E) → IsErrAnd r (λ x. x ≡ y) → Q y → IfErr r Q
exit Q y (Ok t) is q = absurd is
exit Q y (Err x) is q = subst Q (sym is) q

-- a call's own want of memory is no fault of an expression
pub settled_fault : (outcome called : Result Value Trouble) (place : Place) (f : ExprFault) → IfErr outcome (λ trouble. trouble ≢ Trouble.NoMemory → called ≡ Err trouble) → ((next : ℕ) → made outcome place next ≡ Err f) → f ≢ ExprFault.NoMemory → (next : ℕ) → made called place next ≡ Err f
settled_fault (Ok value) called place f trouble fault some next = absurd (cc (fault next))
settled_fault (Err Trouble.Kind) called place f trouble fault some next = ap (λ outcome. made outcome place next) (trouble (λ e. cc e)) ∙ fault next
settled_fault (Err Trouble.ZeroDivisor) called place f trouble fault some next = ap (λ outcome. made outcome place next) (trouble (λ e. cc e)) ∙ fault next
settled_fault (Err Trouble.Range) called place f trouble fault some next = ap (λ outcome. made outcome place next) (trouble (λ e. cc e)) ∙ fault next
settled_fault (Err Trouble.NoMemory) called place f trouble fault some next =
    let memory : ExprFault.NoMemory ≡ f = cc (fault next) in absurd (some (sym memory))

-- ---- tiers of operators

abbrev pub tiers_of : List Token → Settings → ℕ → ℕ → Reading
tiers_of tokens set depths tier = at_depths (IsTier tier) tokens set depths

-- what comes of what is read up to a tier, where so many further tiers follow
abbrev pub Behind : List Token → (ℕ → Reading) → ℕ → ℕ → Read → Outcome → Type 0
Behind tokens tiers tier zero left r = r ≡ Ok left
Behind tokens tiers tier (suc more) left r = IsThen Read Read ExprFault (IsRest tokens tier (tiers tier) left) (Behind tokens tiers (suc tier) more) r

-- a first part, then a second, then a third, taken together from the left
regrouped : {A B C E : Type 0} {first : Result A E → Type 0} {second : A → Result B E → Type 0} {third : B → Result C E → Type 0} {r : Result C E} →
    IsThen A C E first (λ a. IsThen B C E (second a) third) r → IsThen B C E (IsThen A B E first second) third r
regrouped (IsThen.fault f p) = IsThen.fault f (IsThen.fault f p)
regrouped (IsThen.found a r p (IsThen.fault f q)) = IsThen.fault f (IsThen.found a (Err f) p q)
regrouped (IsThen.found a r p (IsThen.found b _ q rest)) = IsThen.found b r (IsThen.found a (Ok b) p q) rest

-- a tier and what is behind it are the highest tier
pub whole : (tokens : List Token) (set : Settings) (depths more tier top at : ℕ) (r : Outcome) → more + tier ≡ top →
    IsThen Read Read ExprFault (tiers_of tokens set depths tier at) (Behind tokens (tiers_of tokens set depths) tier more) r → tiers_of tokens set depths top at r
whole tokens set depths zero tier top at r is (IsThen.fault f p) =
    let same : tier ≡ top = omega arith in subst (λ t. tiers_of tokens set depths t at (Err f)) same p
whole tokens set depths zero tier top at r is (IsThen.found left _ p e) =
    let same : tier ≡ top = omega arith in
    subst (λ t. tiers_of tokens set depths t at r) same (subst (tiers_of tokens set depths tier at) (sym e) p)
whole tokens set depths (suc more) tier top at r is read = whole tokens set depths more (suc tier) top at r (omega arith) (regrouped read)

-- no operator of the tier follows
pub behind_alone : (tokens : List Token) (tiers : ℕ → Reading) (tier top : ℕ) (left : Read) (r : Outcome) → tier < top → tier_operator tier (sign_at tokens left.next) ≡ None →
    Behind tokens tiers (tier + 1) (top - (tier + 1)) left r → Behind tokens tiers tier (top - tier) left r
behind_alone tokens tiers tier top left r below none rest =
    let more : top - tier ≡ suc (top - (tier + 1)) = omega arith in
    let next : tier + 1 ≡ suc tier = omega arith in
    subst (λ m. Behind tokens tiers tier m left r) (sym more)
    (IsThen.found left r (IsRest.alone left none) (subst (λ t. Behind tokens tiers t (top - (tier + 1)) left r) next rest))

-- an operator stops the whole
behind_stopped : (tokens : List Token) (tiers : ℕ → Reading) (tier top : ℕ) (left : Read) (f : ExprFault) → tier < top → IsRest tokens tier (tiers tier) left (Err f) →
    Behind tokens tiers tier (top - tier) left (Err f)
behind_stopped tokens tiers tier top left f below stop =
    let more : top - tier ≡ suc (top - (tier + 1)) = omega arith in
    subst (λ m. Behind tokens tiers tier m left (Err f)) (sym more) (IsThen.fault f stop)

-- the right side is at fault
pub right_fault : (tokens : List Token) (tiers : ℕ → Reading) (tier top : ℕ) (left : Read) (operator : Operator) (f : ExprFault) → tier < top → tier_operator tier (sign_at tokens left.next) ≡ Some operator →
    tiers tier (left.next + 1) (Err f) → Behind tokens tiers tier (top - tier) left (Err f)
right_fault tokens tiers tier top left operator f below sign fault =
    behind_stopped tokens tiers tier top left f below (IsRest.stops left operator f sign (IsThen.fault f fault))

-- the operator takes no such sides
pub refused : (tokens : List Token) (tiers : ℕ → Reading) (tier top : ℕ) (left right : Read) (operator : Operator) (f : ExprFault) → tier < top → tier_operator tier (sign_at tokens left.next) ≡ Some operator →
    tiers tier (left.next + 1) (Ok right) → made (applied operator left.value right.value) (place_at tokens left.next) right.next ≡ Err f → Behind tokens tiers tier (top - tier) left (Err f)
refused tokens tiers tier top left right operator f below sign found fault =
    behind_stopped tokens tiers tier top left f below (IsRest.stops left operator f sign (IsThen.found right (Err f) found (sym fault)))

-- the operator makes a further left side
pub took : (tokens : List Token) (tiers : ℕ → Reading) (tier next top : ℕ) (left right read : Read) (operator : Operator) (r : Outcome) → tier < top → next ≡ (if is_repeated tier then tier else tier + 1) →
    tier_operator tier (sign_at tokens left.next) ≡ Some operator → tiers tier (left.next + 1) (Ok right) → made (applied operator left.value right.value) (place_at tokens left.next) right.next ≡ Ok read →
    Behind tokens tiers next (top - next) read r → Behind tokens tiers tier (top - tier) left r
took tokens tiers tier next top left right read operator r below is sign found ok rest = by (is_repeated tier) refl is
  where
    taken : IsTakenIn tokens (tiers tier) operator left (Ok read)
    taken = IsThen.found right (Ok read) found (sym ok)

    joined : is_repeated tier ≡ true → (K : Read → Outcome → Type 0) (o : Outcome) → IsThen Read Read ExprFault (IsRest tokens tier (tiers tier) read) K o → IsThen Read Read ExprFault (IsRest tokens tier (tiers tier) left) K o
    joined repeated K o (IsThen.fault f p) = IsThen.fault f (IsRest.further left operator read (Err f) sign taken repeated p)
    joined repeated K o (IsThen.found w _ p k) = IsThen.found w o (IsRest.further left operator read (Ok w) sign taken repeated p) k

    by : (b : Bool) → is_repeated tier ≡ b → next ≡ (if b then tier else tier + 1) → Behind tokens tiers tier (top - tier) left r
    by true repeated same =
        let more : top - tier ≡ suc (top - (tier + 1)) = omega arith in
        subst (λ m. Behind tokens tiers tier m left r) (sym more)
        (joined repeated (Behind tokens tiers (suc tier) (top - (tier + 1))) r
        (subst (λ m. Behind tokens tiers tier m read r) more (subst (λ t. Behind tokens tiers t (top - t) read r) same rest)))
    by false once same =
        let more : top - tier ≡ suc (top - (tier + 1)) = omega arith in
        let after : tier + 1 ≡ suc tier = omega arith in
        subst (λ m. Behind tokens tiers tier m left r) (sym more)
        (IsThen.found read r (IsRest.once left operator read sign taken once)
        (subst (λ t. Behind tokens tiers t (top - (tier + 1)) read r) after (subst (λ t. Behind tokens tiers t (top - t) read r) same rest)))

-- ---- a sign or a word stands before the end

behind_end : (signs : ℕ → Option Operator) (operator : Operator) (tokens : List Token) (at : ℕ) (token : Option Token) → slice_get tokens at ≡ token → signs 0 ≡ None → signs (sign_of token) ≡ Some operator → at < length tokens
behind_end signs operator tokens at None is none some = absurd (cc)
behind_end signs operator tokens at (Some token) is none some = slice_get_within tokens at token is

pub operator_within : (tier : ℕ) (operator : Operator) (tokens : List Token) (at : ℕ) → tier < 4 → tier_operator tier (sign_at tokens at) ≡ Some operator → at < length tokens
operator_within zero operator tokens at below some = behind_end (tier_operator 0) operator tokens at (slice_get tokens at) refl refl some
operator_within (suc zero) operator tokens at below some = behind_end (tier_operator 1) operator tokens at (slice_get tokens at) refl refl some
operator_within (suc (suc zero)) operator tokens at below some = behind_end (tier_operator 2) operator tokens at (slice_get tokens at) refl refl some
operator_within (suc (suc (suc tier))) operator tokens at below some = behind_end (tier_operator (suc (suc (suc tier)))) operator tokens at (slice_get tokens at) refl refl some

channel_before_end : (channel : Channel) (tokens : List Token) (at : ℕ) (token : Option Token) → slice_get tokens at ≡ token → meaning_of channel_of token ≡ Some channel → at < length tokens
channel_before_end channel tokens at None is some = absurd (cc)
channel_before_end channel tokens at (Some token) is some = slice_get_within tokens at token is

pub channel_within : (channel : Channel) (tokens : List Token) (at : ℕ) → channel_at tokens at ≡ Some channel → at < length tokens
channel_within channel tokens at some = channel_before_end channel tokens at (slice_get tokens at) refl some

head_before_end : (head : Head) (tokens : List Token) (at : ℕ) (token : Option Token) → slice_get tokens at ≡ token → head_of token ≡ head → (head ≡ Head.Nothing → ⊥) → at < length tokens
head_before_end head tokens at None is begins some = absurd (some (sym begins))
head_before_end head tokens at (Some token) is begins some = slice_get_within tokens at token is

pub head_within : (head : Head) (tokens : List Token) (at : ℕ) → head_at tokens at ≡ head → (head ≡ Head.Nothing → ⊥) → at < length tokens
head_within head tokens at begins some = head_before_end head tokens at (slice_get tokens at) refl begins some

sign_before_end : (tokens : List Token) (at : ℕ) (token : Option Token) → slice_get tokens at ≡ token → 0 < sign_of token → at < length tokens
sign_before_end tokens at None is some = absurd (omega arith)
sign_before_end tokens at (Some token) is some = slice_get_within tokens at token is

pub sign_within : (tokens : List Token) (at : ℕ) → 0 < sign_at tokens at → at < length tokens
sign_within tokens at some = sign_before_end tokens at (slice_get tokens at) refl some

-- ---- choices

pub unasked : (tokens : List Token) (full : Bool) (inside : Inner → Reading) (condition : Read) → nat_eq (sign_at tokens condition.next) 63 ≡ false → IsAsked tokens full inside condition (Ok condition)
unasked tokens full inside condition none =
    subst (λ asked. MatchBool asked (IsOpened full (place_at tokens condition.next) (IsBranched tokens (inside Inner.Choice) condition) (Ok condition)) (◌≡◌ {A = Outcome} (Ok condition) (Ok condition))) (sym none) refl

pub asked : (tokens : List Token) (full : Bool) (inside : Inner → Reading) (condition : Read) (r : Outcome) → nat_eq (sign_at tokens condition.next) 63 ≡ true → IsOpened full (place_at tokens condition.next) (IsBranched tokens (inside Inner.Choice) condition) r → IsAsked tokens full inside condition r
asked tokens full inside condition r some read =
    subst (λ asked. MatchBool asked (IsOpened full (place_at tokens condition.next) (IsBranched tokens (inside Inner.Choice) condition) r) (r ≡ Ok condition)) (sym some) read

pub branched : (tokens : List Token) (set : Settings) (depths : ℕ) (place : Place) (condition : Read) (r : Outcome) → 0 < depths → IsBranched tokens (inner tokens set (suc (depths - 1)) Inner.Choice) condition r → IsOpened (nat_eq depths 0) place (IsBranched tokens (inner tokens set depths Inner.Choice) condition) r
branched tokens set zero place condition r some read = absurd (omega arith)
branched tokens set (suc depths) place condition r some read =
    let same : suc (suc depths - 1) ≡ suc depths = omega arith in
    let left : nat_eq (suc depths) 0 ≡ false = grind arith in
    subst (λ full. IsOpened full place (IsBranched tokens (inner tokens set (suc depths) Inner.Choice) condition) r) (sym left)
    (subst (λ d. IsBranched tokens (inner tokens set d Inner.Choice) condition r) same read)

-- ---- what opens a depth

pub begins : (tokens : List Token) (inside : Inner → Reading) (opener begun : Opener) (at : ℕ) (r : Outcome) → opener ≡ begun → IsOpening tokens inside begun at r → IsOpening tokens inside opener at r
begins tokens inside opener begun at r is read = subst (λ o. IsOpening tokens inside o at r) (sym is) read

-- ---- rows

pub longer : {A : Type 0} → (xs : List A) (x : A) → length (xs ++ x ∷ []) ≡ length xs + 1
longer xs x = length-append xs (x ∷ [])

-- where a row ends, it isn't too short
pub row_ends : (arity : Arity) (count : ℕ) (tokens : List Token) (at : ℕ) → goes_on arity count tokens at ≡ Ok false → arity.least ≤ count
row_ends arity count tokens at ends = grind arith

-- and where it goes on, not too long
pub row_may : (arity : Arity) (count : ℕ) (tokens : List Token) (at : ℕ) → goes_on arity count tokens at ≡ Ok true → is_below count arity.most ≡ true
row_may arity count tokens at may = grind arith

pub row_least : (tokens : List Token) (part : Reading) (arity : Arity) (before : List Value) (at : ℕ) (r : Result Row ExprFault) (row : Row) → IsRow tokens part arity before at r → r ≡ Ok row → arity.least ≤ length row.values
row_least tokens part arity before at r row (IsRow.fault _ _ f fault) is = absurd (cc)
row_least tokens part arity before at r row (IsRow.wanting _ _ read f found goes) is = absurd (cc)
row_least tokens part arity before at r row (IsRow.last _ _ read found goes) is =
    let ends = row_ends arity (length before + 1) tokens read.next goes in
    let here : record { values = before ++ read.value ∷ []; next = read.next } ≡ row = cc is in
    subst (λ (row' : Row). arity.least ≤ length row'.values) here (rw (longer before read.value) ends)
row_least tokens part arity before at r row (IsRow.further _ _ read _ found goes rest) is =
    row_least tokens part arity (before ++ read.value ∷ []) (read.next + 1) r row rest is

pub row_most : (tokens : List Token) (part : Reading) (arity : Arity) (most : ℕ) (before : List Value) (at : ℕ) (r : Result Row ExprFault) (row : Row) → arity.most ≡ Some most → length before < most → IsRow tokens part arity before at r → r ≡ Ok row → length row.values ≤ most
row_most tokens part arity most before at r row limit few (IsRow.fault _ _ f fault) is = absurd (cc)
row_most tokens part arity most before at r row limit few (IsRow.wanting _ _ read f found goes) is = absurd (cc)
row_most tokens part arity most before at r row limit few (IsRow.last _ _ read found goes) is =
    let here : record { values = before ++ read.value ∷ []; next = read.next } ≡ row = cc is in
    subst (λ (row' : Row). length row'.values ≤ most) here (rw (longer before read.value) (omega (arith, few)))
row_most tokens part arity most before at r row limit few (IsRow.further _ _ read _ found goes rest) is =
    let may : is_below (length before + 1) (Some most) ≡ true = subst (λ m. is_below (length before + 1) m ≡ true) limit (row_may arity (length before + 1) tokens read.next goes) in
    row_most tokens part arity most (before ++ read.value ∷ []) (read.next + 1) r row limit (rw (longer before read.value) (grind arith)) rest is

-- a count by another name
pub counted : (arity : Arity) (count other : ℕ) (tokens : List Token) (at : ℕ) (r : Result Bool ExprFault) → count ≡ other → r ≡ goes_on arity count tokens at → goes_on arity other tokens at ≡ r
counted arity count other tokens at r same is = sym (subst (λ n. r ≡ goes_on arity n tokens at) same is)
