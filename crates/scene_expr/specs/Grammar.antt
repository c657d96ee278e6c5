-- The expressions, by levels from tight to loose, each with its value or its first fault. (Reference manual, expressions)
use Rattle.std.specs.Prelude.{ℕ, zero, suc, ◌+◌, ℤ, ◌≡◌, Bool, true, false, not, MatchBool, ◌&&◌, nat_eq, nat_lt, List, [], ◌∷◌, ◌++◌, length, Option, Some, None, Result, Ok, Err, if◌then◌else◌}
use Rattle.scene_lexer.specs.declared.token.Place.{Place}
use Rattle.scene_lexer.specs.declared.token.Token.{Token}
use Rattle.scene_lexer.specs.declared.sign.TheConstants.{OPEN_BRACKET, CLOSE_BRACKET, GREATER, COMMA, COLON, QUESTION, DOT}
use Rattle.scene_expr.specs.declared.value.ExprFault.{ExprFault}
use Rattle.scene_expr.specs.declared.value.Level.{Level}
use Rattle.scene_expr.specs.declared.value.Settings.{Settings}
use Rattle.scene_expr.specs.declared.value.Trouble.{Trouble}
use Rattle.scene_expr.specs.declared.value.Value.{Value}
use Rattle.scene_expr.specs.declared.heads.Head.{Head}
use Rattle.scene_expr.specs.declared.heads.Mark.{Mark}
use Rattle.scene_expr.specs.declared.heads.Opener.{Opener}
use Rattle.scene_expr.specs.declared.operators.Operator.{Operator}
use Rattle.scene_expr.specs.declared.words.Arity.{Arity}
use Rattle.scene_expr.specs.declared.words.Channel.{Channel}
use Rattle.scene_expr.specs.declared.words.Component.{Component}
use Rattle.scene_expr.specs.Calls.{called}
use Rattle.scene_expr.specs.Colours.{black, formed, as_colour, with_channel, component, grouped}
use Rattle.scene_expr.specs.Constants.{constant}
use Rattle.scene_expr.specs.Heads.{place_at, sign_at, text_at, channel_at, component_at, head_at, passed}
use Rattle.scene_expr.specs.Operators.{applied, prefixed, chosen, sum_operator, term_operator, comparison, connective}
use Rattle.scene_expr.specs.Texts.{text_value}
use Rattle.scene_expr.specs.Then.{IsThen, Is}
use Rattle.scene_expr.specs.Values.{fault_at}
use Rattle.scene_expr.specs.Words.{arity_of}

-- a value, and the number of the token behind its expression
pub record Read : Type 0 where
  pub value : Value
  pub next : ℕ

abbrev pub Outcome : Type 0
Outcome = Result Read ExprFault

-- what comes of an expression that begins at a token
abbrev pub Reading : Type 1
Reading = ℕ → Outcome → Type 0

-- ---- parts

-- a value that was made at the token `place`, before the token `next`
abbrev pub made : Result Value Trouble → Place → ℕ → Outcome
made (Ok value) place next = Ok (record { value = value; next = next })
made (Err trouble) place next = Err (fault_at trouble place)

-- what is read one depth further in, if any depth is left
abbrev pub IsOpened : Bool → Place → (Outcome → Type 0) → Outcome → Type 0
IsOpened true place body r = r ≡ Err (ExprFault.Range place)
IsOpened false place body r = body r

-- ---- operators of one tier, from left to right

-- the operators of a tier, from tight to loose: products, sums, comparisons, connections
abbrev pub tier_operator : ℕ → ℕ → Option Operator
tier_operator zero = term_operator
tier_operator (suc zero) = sum_operator
tier_operator (suc (suc zero)) = comparison
tier_operator (suc (suc (suc tier))) = connective

-- a comparison isn't compared again
abbrev pub is_repeated : ℕ → Bool
is_repeated tier = not (nat_eq tier 2)

-- the right side is read, and the operator applied
abbrev pub IsTakenIn : List Token → Reading → Operator → Read → Outcome → Type 0
IsTakenIn tokens operand operator left r =
    IsThen Read Read ExprFault (operand (left.next + 1)) (λ right. Is (made (applied operator left.value right.value) (place_at tokens left.next) right.next)) r

-- what comes of a left side: it stands alone where no operator of this tier follows
pub data IsRest (tokens : List Token) (tier : ℕ) (operand : Reading) : Read → Outcome → Type 0 where
  alone : (left : Read) → tier_operator tier (sign_at tokens left.next) ≡ None → IsRest tokens tier operand left (Ok left)
  stops : (left : Read) (operator : Operator) (f : ExprFault) → tier_operator tier (sign_at tokens left.next) ≡ Some operator → IsTakenIn tokens operand operator left (Err f) → IsRest tokens tier operand left (Err f)
  once : (left : Read) (operator : Operator) (read : Read) → tier_operator tier (sign_at tokens left.next) ≡ Some operator → IsTakenIn tokens operand operator left (Ok read) → is_repeated tier ≡ false → IsRest tokens tier operand left (Ok read)
  further : (left : Read) (operator : Operator) (read : Read) (r : Outcome) → tier_operator tier (sign_at tokens left.next) ≡ Some operator → IsTakenIn tokens operand operator left (Ok read) → is_repeated tier ≡ true → IsRest tokens tier operand read r → IsRest tokens tier operand left r

-- ---- parts divided by commas

pub record Row : Type 0 where
  pub values : List Value
  pub next : ℕ

abbrev pub is_below : ℕ → Option ℕ → Bool
is_below count None = true
is_below count (Some most) = nat_lt count most

-- whether a comma and a further part follow; one must where there are too few
abbrev pub goes_on : Arity → ℕ → List Token → ℕ → Result Bool ExprFault
goes_on arity count tokens at =
    if is_below count arity.most && nat_eq (sign_at tokens at) COMMA then Ok true
    else (if nat_lt count arity.least then Err (ExprFault.Expected (place_at tokens at)) else Ok false)

-- the parts from a place on, behind those that stand before
pub data IsRow (tokens : List Token) (part : Reading) (arity : Arity) : List Value → ℕ → Result Row ExprFault → Type 0 where
  fault : (before : List Value) (at : ℕ) (f : ExprFault) → part at (Err f) → IsRow tokens part arity before at (Err f)
  wanting : (before : List Value) (at : ℕ) (read : Read) (f : ExprFault) → part at (Ok read) → goes_on arity (length before + 1) tokens read.next ≡ Err f → IsRow tokens part arity before at (Err f)
  last : (before : List Value) (at : ℕ) (read : Read) → part at (Ok read) → goes_on arity (length before + 1) tokens read.next ≡ Ok false → IsRow tokens part arity before at (Ok (record { values = before ++ read.value ∷ []; next = read.next }))
  further : (before : List Value) (at : ℕ) (read : Read) (r : Result Row ExprFault) → part at (Ok read) → goes_on arity (length before + 1) tokens read.next ≡ Ok true → IsRow tokens part arity (before ++ read.value ∷ []) (read.next + 1) r → IsRow tokens part arity before at r

-- between `<` and `>` stand three to five numbers
abbrev pub angle_arity : Arity
angle_arity = record { least = 3; most = Some 5 }

-- ---- numbers of a colour, each behind its word

pub data IsChannels (tokens : List Token) (sum : Reading) : List ℤ → ℕ → Outcome → Type 0 where
  ends : (colour : List ℤ) (at : ℕ) → channel_at tokens at ≡ None → IsChannels tokens sum colour at (Ok (record { value = Value.Color colour; next = at }))
  fault : (colour : List ℤ) (at : ℕ) (channel : Channel) (f : ExprFault) → channel_at tokens at ≡ Some channel → sum (at + 1) (Err f) → IsChannels tokens sum colour at (Err f)
  refused : (colour : List ℤ) (at : ℕ) (channel : Channel) (read : Read) (trouble : Trouble) → channel_at tokens at ≡ Some channel → sum (at + 1) (Ok read) → with_channel colour channel read.value ≡ Err trouble → IsChannels tokens sum colour at (Err (fault_at trouble (place_at tokens at)))
  further : (colour : List ℤ) (at : ℕ) (channel : Channel) (read : Read) (more : List ℤ) (r : Outcome) → channel_at tokens at ≡ Some channel → sum (at + 1) (Ok read) → with_channel colour channel read.value ≡ Ok more → IsChannels tokens sum more read.next r → IsChannels tokens sum colour at r

-- ---- components

-- the component that the word behind a dot names
abbrev pub with_component : List Token → Read → Option Component → Outcome
with_component tokens left None = Err (ExprFault.Expected (place_at tokens (left.next + 1)))
with_component tokens left (Some part) = made (component part left.value) (place_at tokens left.next) (left.next + 2)

-- a value and the dots behind it
pub data IsDotted (tokens : List Token) : Read → Outcome → Type 0 where
  ends : (left : Read) → nat_eq (sign_at tokens left.next) DOT ≡ false → IsDotted tokens left (Ok left)
  stops : (left : Read) (f : ExprFault) → nat_eq (sign_at tokens left.next) DOT ≡ true → with_component tokens left (component_at tokens (left.next + 1)) ≡ Err f → IsDotted tokens left (Err f)
  further : (left read : Read) (r : Outcome) → nat_eq (sign_at tokens left.next) DOT ≡ true → with_component tokens left (component_at tokens (left.next + 1)) ≡ Ok read → IsDotted tokens read r → IsDotted tokens left r

-- ---- what is read one depth further in

-- the levels that stand inside brackets, calls, colours, choices and behind signs
pub data Inner : Type 0 where
  Choice : Inner
  Sum : Inner
  Factor : Inner

-- what a sign or a colour word makes of the factor behind it
abbrev pub marked : Mark → Value → Result Value Trouble
marked (Mark.Sign sign) value = prefixed sign value
marked Mark.Colour value = as_colour value
marked (Mark.Form form) value = formed form value

-- what each token that opens a depth begins
abbrev pub IsOpening : List Token → (Inner → Reading) → Opener → Reading
IsOpening tokens inside (Opener.Mark mark) at r =
    IsThen Read Read ExprFault (inside Factor (at + 1)) (λ read. Is (made (marked mark read.value) (place_at tokens at) read.next)) r
IsOpening tokens inside Opener.Bracket at r =
    IsThen Read Read ExprFault (inside Choice (at + 1)) (λ read. IsThen ℕ Read ExprFault (Is (passed CLOSE_BRACKET tokens read.next)) (λ next. Is (Ok (record { value = read.value; next = next })))) r
IsOpening tokens inside Opener.Angle at r =
    IsThen Row Read ExprFault (IsRow tokens (inside Sum) angle_arity [] (at + 1)) (λ row. IsThen ℕ Read ExprFault (Is (passed GREATER tokens row.next)) (λ next. Is (made (grouped row.values) (place_at tokens at) next))) r
IsOpening tokens inside (Opener.Call call) at r =
    IsThen ℕ Read ExprFault (Is (passed OPEN_BRACKET tokens (at + 1))) (λ start.
    IsThen Row Read ExprFault (IsRow tokens (inside Choice) (arity_of call) [] start) (λ row.
    IsThen ℕ Read ExprFault (Is (passed CLOSE_BRACKET tokens row.next)) (λ next. Is (made (called call row.values) (place_at tokens at) next)))) r
IsOpening tokens inside Opener.Channels at r = IsChannels tokens (inside Sum) black at r

-- the second and the third part of a choice, behind its condition
abbrev pub IsBranched : List Token → Reading → Read → Outcome → Type 0
IsBranched tokens choice condition r =
    IsThen Read Read ExprFault (choice (condition.next + 1)) (λ first.
    IsThen ℕ Read ExprFault (Is (passed COLON tokens first.next)) (λ start.
    IsThen Read Read ExprFault (choice start) (λ second. Is (made (chosen condition.value first.value second.value) (place_at tokens condition.next) second.next)))) r

-- ---- the levels; `full` says that no depth is left

-- a number, text or word for itself, or what opens a depth
abbrev pub IsBare : List Token → Settings → Bool → (Inner → Reading) → Head → Reading
IsBare tokens set full inside (Head.Number value) at r = r ≡ Ok (record { value = Value.Float value; next = at + 1 })
IsBare tokens set full inside Head.Text at r = r ≡ made (text_value (text_at tokens at)) (place_at tokens at) (at + 1)
IsBare tokens set full inside (Head.Constant word) at r = r ≡ Ok (record { value = constant word set; next = at + 1 })
IsBare tokens set full inside (Head.Opener opener) at r = IsOpened full (place_at tokens at) (IsOpening tokens inside opener at) r
IsBare tokens set full inside Head.Unknown at r = r ≡ Err (ExprFault.UnknownName (place_at tokens at))
IsBare tokens set full inside Head.Nothing at r = r ≡ Err (ExprFault.Expected (place_at tokens at))

-- behind a sign or a colour word, the factor there has already taken the dots
abbrev pub IsFactor : List Token → Settings → Bool → (Inner → Reading) → Reading
IsFactor tokens set full inside at r =
    IsThen Read Read ExprFault (IsBare tokens set full inside (head_at tokens at) at) (IsDotted tokens) r

-- a factor, or operands with so many tiers of operators between them
abbrev pub IsTier : ℕ → List Token → Settings → Bool → (Inner → Reading) → Reading
IsTier zero tokens set full inside at r = IsFactor tokens set full inside at r
IsTier (suc tier) tokens set full inside at r =
    IsThen Read Read ExprFault (IsTier tier tokens set full inside at) (IsRest tokens tier (IsTier tier tokens set full inside)) r

-- products and sums
abbrev pub IsSum : List Token → Settings → Bool → (Inner → Reading) → Reading
IsSum tokens set full inside = IsTier 2 tokens set full inside

-- comparisons and connections too
abbrev pub IsConnection : List Token → Settings → Bool → (Inner → Reading) → Reading
IsConnection tokens set full inside = IsTier 4 tokens set full inside

-- behind the condition: a question mark opens a depth for what follows it
abbrev pub IsAsked : List Token → Bool → (Inner → Reading) → Read → Outcome → Type 0
IsAsked tokens full inside condition r =
    MatchBool (nat_eq (sign_at tokens condition.next) QUESTION) (IsOpened full (place_at tokens condition.next) (IsBranched tokens (inside Choice) condition) r) (r ≡ Ok condition)

abbrev pub IsChoice : List Token → Settings → Bool → (Inner → Reading) → Reading
IsChoice tokens set full inside at r =
    IsThen Read Read ExprFault (IsConnection tokens set full inside at) (IsAsked tokens full inside) r

-- ---- depths

abbrev pub reading : List Token → Settings → Bool → (Inner → Reading) → Inner → Reading
reading tokens set full inside Choice = IsChoice tokens set full inside
reading tokens set full inside Sum = IsSum tokens set full inside
reading tokens set full inside Factor = IsFactor tokens set full inside

-- with so many depths: the last of them has none inside
unfoldable pub inner : List Token → Settings → ℕ → Inner → Reading
inner tokens set zero level at r = ⊥
inner tokens set (suc depths) level at r = reading tokens set (nat_eq depths 0) (inner tokens set depths) level at r

abbrev pub inner_of : Level → Inner
inner_of Level.Choice = Choice
inner_of Level.Sum = Sum

-- the longest expression of a level from a token on: its value and the token behind it, or its first fault;
-- a token stands in at most 128 depths
abbrev pub IsValue : List Token → Settings → Level → Reading
IsValue tokens set level = inner tokens set 129 (inner_of level)
