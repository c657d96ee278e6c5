-- An expression comes to one outcome: each way to read it does, where its parts do.
use Rattle.std.specs.Prelude.{ℕ, zero, suc, ◌+◌, ℤ, ◌≡◌, Bool, true, false, MatchBool, nat_eq, List, [], ◌∷◌, ◌++◌, length, Option, Some, None, Result, Ok, Err, refl}
use Rattle.std.proofs.Common.{subst, sym, ◌∙◌}
use Rattle.scene_lexer.specs.declared.token.Place.{Place}
use Rattle.scene_lexer.specs.declared.token.Token.{Token}
use Rattle.scene_expr.specs.declared.value.ExprFault.{ExprFault}
use Rattle.scene_expr.specs.declared.value.Level.{Level}
use Rattle.scene_expr.specs.declared.value.Settings.{Settings}
use Rattle.scene_expr.specs.declared.value.Trouble.{Trouble}
use Rattle.scene_expr.specs.declared.value.Value.{Value}
use Rattle.scene_expr.specs.declared.heads.Head.{Head}
use Rattle.scene_expr.specs.declared.heads.Opener.{Opener}
use Rattle.scene_expr.specs.declared.operators.Operator.{Operator}
use Rattle.scene_expr.specs.declared.words.Arity.{Arity}
use Rattle.scene_expr.specs.declared.words.Channel.{Channel}
use Rattle.scene_expr.specs.Colours.{black, with_channel}
use Rattle.scene_expr.specs.Heads.{place_at, sign_at, channel_at, component_at, head_at}
use Rattle.scene_expr.specs.Then.{IsThen, Is, IsOne, one_is, then_fault, then_found, one_then}
use Rattle.scene_expr.specs.Values.{fault_at}
use Rattle.scene_expr.specs.Words.{arity_of}
use Rattle.scene_expr.specs.Grammar.{Read, Outcome, Reading, IsOpened, tier_operator, is_repeated, IsTakenIn, IsRest, Row, goes_on, IsRow, angle_arity, IsChannels, with_component, IsDotted, Inner, IsOpening, IsBranched, IsBare, IsFactor, IsTier, IsAsked, IsChoice, inner, inner_of, IsValue}

-- what comes to one outcome at most from each token on
abbrev pub IsOneReading : Reading → Type 0
IsOneReading reading = (at : ℕ) → IsOne (reading at)

one_opened : (full : Bool) (place : Place) (body : Outcome → Type 0) → IsOne body → IsOne (IsOpened full place body)
one_opened true place body one r s p q = p ∙ sym q
one_opened false place body one r s p q = one r s p q

-- ---- operators of one level

module _ (tokens : List Token) (tier : ℕ) (operand : Reading) (one : IsOneReading operand) where
  one_taken : (operator : Operator) (left : Read) → IsOne (IsTakenIn tokens operand operator left)
  one_taken operator left = one_then (one (left.next + 1)) (λ right. one_is _)

  -- what comes behind an operator, by whether a further one may stand there
  abbrev IsGoneOn : Bool → Read → Outcome → Type 0
  IsGoneOn false read r = r ≡ Ok read
  IsGoneOn true read r = IsRest tokens tier operand read r

  -- what comes of a left side, by the sign behind it
  abbrev IsBehind : Read → Option Operator → Outcome → Type 0
  IsBehind left None r = r ≡ Ok left
  IsBehind left (Some operator) r = IsThen Read Read ExprFault (IsTakenIn tokens operand operator left) (IsGoneOn (is_repeated tier)) r

  rest_parts : (left : Read) (sign : Option Operator) (r : Outcome) → tier_operator tier (sign_at tokens left.next) ≡ sign → IsRest tokens tier operand left r → IsBehind left sign r
  rest_parts left sign r e (IsRest.alone _ is) = subst (λ o. IsBehind left o r) (sym is ∙ e) refl
  rest_parts left sign r e (IsRest.stops _ operator f is taken) = subst (λ o. IsBehind left o r) (sym is ∙ e) (IsThen.fault f taken)
  rest_parts left sign r e (IsRest.once _ operator read is taken lone) = subst (λ o. IsBehind left o r) (sym is ∙ e) (IsThen.found read r taken (subst (λ b. IsGoneOn b read r) (sym lone) refl))
  rest_parts left sign r e (IsRest.further _ operator read _ is taken more rest) = subst (λ o. IsBehind left o r) (sym is ∙ e) (IsThen.found read r taken (subst (λ b. IsGoneOn b read r) (sym more) rest))

  one_rest : (left : Read) → IsOne (IsRest tokens tier operand left)
  one_rest left r s (IsRest.alone _ is) q = sym (rest_parts left None s is q)
  one_rest left r s (IsRest.stops _ operator f is taken) q = then_fault (one_taken operator left) f taken (rest_parts left (Some operator) s is q)
  one_rest left r s (IsRest.once _ operator read is taken lone) q =
      sym (subst (λ b. IsGoneOn b read s) lone (then_found (one_taken operator left) read taken (rest_parts left (Some operator) s is q)))
  one_rest left r s (IsRest.further _ operator read _ is taken more rest) q =
      one_rest read r s rest (subst (λ b. IsGoneOn b read s) more (then_found (one_taken operator left) read taken (rest_parts left (Some operator) s is q)))

-- ---- parts divided by commas

module _ (tokens : List Token) (part : Reading) (arity : Arity) (one : IsOneReading part) where
  -- the row behind a part, by whether a further part follows
  abbrev IsContinued : List Value → Read → Bool → Result Row ExprFault → Type 0
  IsContinued before read true r = IsRow tokens part arity (before ++ read.value ∷ []) (read.next + 1) r
  IsContinued before read false r = r ≡ Ok (record { values = before ++ read.value ∷ []; next = read.next })

  -- what comes of a part of a row
  abbrev IsFollowed : List Value → Read → Result Row ExprFault → Type 0
  IsFollowed before read r = IsThen Bool Row ExprFault (Is (goes_on arity (length before + 1) tokens read.next)) (IsContinued before read) r

  row_parts : (before : List Value) (at : ℕ) (r : Result Row ExprFault) → IsRow tokens part arity before at r → IsThen Read Row ExprFault (part at) (IsFollowed before) r
  row_parts before at r (IsRow.fault _ _ f p) = IsThen.fault f p
  row_parts before at r (IsRow.wanting _ _ read f p on) = IsThen.found read r p (IsThen.fault f (sym on))
  row_parts before at r (IsRow.last _ _ read p on) = IsThen.found read r p (IsThen.found false r (sym on) refl)
  row_parts before at r (IsRow.further _ _ read _ p on rest) = IsThen.found read r p (IsThen.found true r (sym on) rest)

  one_row : (before : List Value) (at : ℕ) → IsOne (IsRow tokens part arity before at)
  one_row before at r s (IsRow.fault _ _ f p) q = then_fault (one at) f p (row_parts before at s q)
  one_row before at r s (IsRow.wanting _ _ read f p on) q = then_fault (one_is _) f (sym on) (then_found (one at) read p (row_parts before at s q))
  one_row before at r s (IsRow.last _ _ read p on) q = sym (then_found (one_is _) false (sym on) (then_found (one at) read p (row_parts before at s q)))
  one_row before at r s (IsRow.further _ _ read _ p on rest) q =
      one_row (before ++ read.value ∷ []) (read.next + 1) r s rest (then_found (one_is _) true (sym on) (then_found (one at) read p (row_parts before at s q)))

-- ---- numbers of a colour

module _ (tokens : List Token) (sum : Reading) (one : IsOneReading sum) where
  -- what comes of a number of a colour, by what the colour becomes
  abbrev IsNumbered : ℕ → Read → Result (List ℤ) Trouble → Outcome → Type 0
  IsNumbered at read (Err trouble) r = r ≡ Err (fault_at trouble (place_at tokens at))
  IsNumbered at read (Ok more) r = IsChannels tokens sum more read.next r

  -- what comes of a colour, by the word that stands there
  abbrev IsWorded : List ℤ → ℕ → Option Channel → Outcome → Type 0
  IsWorded colour at None r = r ≡ Ok (record { value = Value.Color colour; next = at })
  IsWorded colour at (Some channel) r = IsThen Read Read ExprFault (sum (at + 1)) (λ read. IsNumbered at read (with_channel colour channel read.value)) r

  channel_parts : (colour : List ℤ) (at : ℕ) (word : Option Channel) (r : Outcome) → channel_at tokens at ≡ word → IsChannels tokens sum colour at r → IsWorded colour at word r
  channel_parts colour at word r e (IsChannels.ends _ _ is) = subst (λ c. IsWorded colour at c r) (sym is ∙ e) refl
  channel_parts colour at word r e (IsChannels.fault _ _ channel f is p) = subst (λ c. IsWorded colour at c r) (sym is ∙ e) (IsThen.fault f p)
  channel_parts colour at word r e (IsChannels.refused _ _ channel read trouble is p made) =
      subst (λ c. IsWorded colour at c r) (sym is ∙ e) (IsThen.found read r p (subst (λ m. IsNumbered at read m r) (sym made) refl))
  channel_parts colour at word r e (IsChannels.further _ _ channel read more _ is p made rest) =
      subst (λ c. IsWorded colour at c r) (sym is ∙ e) (IsThen.found read r p (subst (λ m. IsNumbered at read m r) (sym made) rest))

  one_channels : (colour : List ℤ) (at : ℕ) → IsOne (IsChannels tokens sum colour at)
  one_channels colour at r s (IsChannels.ends _ _ is) q = sym (channel_parts colour at None s is q)
  one_channels colour at r s (IsChannels.fault _ _ channel f is p) q = then_fault (one (at + 1)) f p (channel_parts colour at (Some channel) s is q)
  one_channels colour at r s (IsChannels.refused _ _ channel read trouble is p made) q =
      sym (subst (λ m. IsNumbered at read m s) made (then_found (one (at + 1)) read p (channel_parts colour at (Some channel) s is q)))
  one_channels colour at r s (IsChannels.further _ _ channel read more _ is p made rest) q =
      one_channels more read.next r s rest (subst (λ m. IsNumbered at read m s) made (then_found (one (at + 1)) read p (channel_parts colour at (Some channel) s is q)))

-- ---- components

module _ (tokens : List Token) where
  -- what comes of a value, by whether a dot stands behind it
  abbrev IsPointed : Read → Bool → Outcome → Type 0
  IsPointed left false r = r ≡ Ok left
  IsPointed left true r = IsThen Read Read ExprFault (Is (with_component tokens left (component_at tokens (left.next + 1)))) (IsDotted tokens) r

  dotted_parts : (left : Read) (dot : Bool) (r : Outcome) → nat_eq (sign_at tokens left.next) 46 ≡ dot → IsDotted tokens left r → IsPointed left dot r
  dotted_parts left dot r e (IsDotted.ends _ is) = subst (λ b. IsPointed left b r) (sym is ∙ e) refl
  dotted_parts left dot r e (IsDotted.stops _ f is part) = subst (λ b. IsPointed left b r) (sym is ∙ e) (IsThen.fault f (sym part))
  dotted_parts left dot r e (IsDotted.further _ read _ is part rest) = subst (λ b. IsPointed left b r) (sym is ∙ e) (IsThen.found read r (sym part) rest)

  one_dotted : (left : Read) → IsOne (IsDotted tokens left)
  one_dotted left r s (IsDotted.ends _ is) q = sym (dotted_parts left false s is q)
  one_dotted left r s (IsDotted.stops _ f is part) q = then_fault (one_is _) f (sym part) (dotted_parts left true s is q)
  one_dotted left r s (IsDotted.further _ read _ is part rest) q = one_dotted read r s rest (then_found (one_is _) read (sym part) (dotted_parts left true s is q))

-- ---- the levels, where what is read one depth further in comes to one outcome

module _ (tokens : List Token) (set : Settings) (full : Bool) (inside : Inner → Reading) (one : (level : Inner) → IsOneReading (inside level)) where
  one_opening : (opener : Opener) → IsOneReading (IsOpening tokens inside opener)
  one_opening (Opener.Mark mark) at = one_then (one Inner.Factor (at + 1)) (λ read. one_is _)
  one_opening Opener.Bracket at = one_then (one Inner.Choice (at + 1)) (λ read. one_then (one_is _) (λ next. one_is _))
  one_opening Opener.Angle at = one_then (one_row tokens (inside Inner.Sum) angle_arity (one Inner.Sum) [] (at + 1)) (λ row. one_then (one_is _) (λ next. one_is _))
  one_opening (Opener.Call call) at =
      one_then (one_is _) (λ start. one_then (one_row tokens (inside Inner.Choice) (arity_of call) (one Inner.Choice) [] start) (λ row. one_then (one_is _) (λ next. one_is _)))
  one_opening Opener.Channels at = one_channels tokens (inside Inner.Sum) (one Inner.Sum) black at

  one_bare : (head : Head) → IsOneReading (IsBare tokens set full inside head)
  one_bare (Head.Number value) at = one_is _
  one_bare Head.Text at = one_is _
  one_bare (Head.Constant word) at = one_is _
  one_bare (Head.Opener opener) at = one_opened full (place_at tokens at) (IsOpening tokens inside opener at) (one_opening opener at)
  one_bare Head.Unknown at = one_is _
  one_bare Head.Nothing at = one_is _

  one_factor : IsOneReading (IsFactor tokens set full inside)
  one_factor at = one_then (one_bare (head_at tokens at) at) (one_dotted tokens)

  one_tier : (tier : ℕ) → IsOneReading (IsTier tier tokens set full inside)
  one_tier zero at = one_factor at
  one_tier (suc tier) at = one_then (one_tier tier at) (one_rest tokens tier (IsTier tier tokens set full inside) (one_tier tier))

  one_branched : (condition : Read) → IsOne (IsBranched tokens (inside Inner.Choice) condition)
  one_branched condition = one_then (one Inner.Choice (condition.next + 1)) (λ first. one_then (one_is _) (λ start. one_then (one Inner.Choice start) (λ second. one_is _)))

  one_asked : (condition : Read) → IsOne (IsAsked tokens full inside condition)
  one_asked condition = by_test (nat_eq (sign_at tokens condition.next) 63)
    where
      by_test : (b : Bool) → IsOne (λ r. MatchBool b (IsOpened full (place_at tokens condition.next) (IsBranched tokens (inside Inner.Choice) condition) r) (r ≡ Ok condition))
      by_test true = one_opened full (place_at tokens condition.next) (IsBranched tokens (inside Inner.Choice) condition) (one_branched condition)
      by_test false = one_is (Ok condition)

  one_choice : IsOneReading (IsChoice tokens set full inside)
  one_choice at = one_then (one_tier 4 at) one_asked

-- ---- depths

one_inner : (tokens : List Token) (set : Settings) (depths : ℕ) (level : Inner) → IsOneReading (inner tokens set depths level)
unfolding inner
one_inner tokens set zero level = λ at r s p q. absurd p
one_inner tokens set (suc depths) Inner.Choice = one_choice tokens set (nat_eq depths 0) (inner tokens set depths) (one_inner tokens set depths)
one_inner tokens set (suc depths) Inner.Sum = one_tier tokens set (nat_eq depths 0) (inner tokens set depths) (one_inner tokens set depths) 2
one_inner tokens set (suc depths) Inner.Factor = one_factor tokens set (nat_eq depths 0) (inner tokens set depths) (one_inner tokens set depths)

-- an expression comes to one outcome
pub one_value : (tokens : List Token) (set : Settings) (level : Level) (at : ℕ) (r s : Outcome) → IsValue tokens set level at r → IsValue tokens set level at s → r ≡ s
one_value tokens set level = one_inner tokens set 129 (inner_of level)
