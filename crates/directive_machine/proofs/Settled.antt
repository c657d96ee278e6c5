-- What is made of a part has one outcome at most.
use Rattle.std.proofs.Common.{ℕ, ◌≡◌, ap, Bool, true, false, MatchBool, List, Option, Result, Ok, Err}
use Rattle.scene_lexer.specs.declared.token.Token.{Token}
use Rattle.scene_expr.specs.declared.value.Level.{Level}
use Rattle.scene_expr.specs.declared.value.Settings.{Settings}
use Rattle.scene_expr.specs.OneValue.{one_value}
use Rattle.scene_expr.specs.Then.{IsOne, one_is, one_then}
use Rattle.text_structure.specs.Texts.{Text}
use Rattle.directive_machine.specs.declared.part.Part.{Part}
use Rattle.directive_machine.specs.declared.part.Then.{Then}
use Rattle.directive_machine.specs.State.{State, Stopped}
use Rattle.directive_machine.specs.Values.{IsWhole, IsEvaluated, IsValued, valued}
use Rattle.directive_machine.specs.Parts.{IsMade, IsExpression, IsSide, IsTold}
use Rattle.directive_machine.specs.Sources.{Sources, Unread}
use Rattle.directive_machine.specs.Course.{Within, Beside, halted_by}

pub one_match : {A : Type 0} {P Q : A → Type 0} (b : Bool) → IsOne P → IsOne Q → IsOne (λ r. MatchBool b (P r) (Q r))
one_match true p q = p
one_match false p q = q

one_whole : (set : Settings) (list : List Token) → IsOne (IsWhole set list)
one_whole set list = one_then (λ r s p q. one_value list set Level.Choice 0 r s p q) (λ read. one_is _)

one_evaluated : (set : Settings) (from : ℕ) (s : State) → IsOne (IsEvaluated set from s)
one_evaluated set from s _ _ (IsEvaluated.value v p) (IsEvaluated.value v' q) = let same : v ≡ v' = cc (one_whole set _ _ _ p q) in ap (λ x. Ok (valued from s x)) same
one_evaluated set from s _ _ (IsEvaluated.value v p) (IsEvaluated.fault f q) = absurd (cc (one_whole set _ _ _ p q))
one_evaluated set from s _ _ (IsEvaluated.fault f p) (IsEvaluated.value v q) = absurd (cc (one_whole set _ _ _ p q))
one_evaluated set from s _ _ (IsEvaluated.fault f p) (IsEvaluated.fault f' q) = let same : f ≡ f' = cc (one_whole set _ _ _ p q) in cc same

pub one_valued : (set : Settings) (t : Text) (part : Part) (s : State) → IsOne (IsValued set t part s)
one_valued set t part s = one_then (one_is _) (λ s'. one_evaluated set part.from s')

one_made : (set : Settings) (t : Text) (home : Option Text) (part : Part) (s : State) → IsOne (IsMade set t home part s)
one_made set t home part s = one_then (one_valued set t part s) (λ v. one_is _)

one_expression : (set : Settings) (t : Text) (part : Part) (name : ℕ) (local' : Bool) (s : State) → IsOne (IsExpression set t part name local' s)
one_expression set t part name local' s = one_then (one_evaluated set part.from s) (λ v. one_is _)

one_side : (set : Settings) (t : Text) (part : Part) (name : ℕ) (local' : Bool) (s : State) → IsOne (IsSide set t part name local' s)
one_side set t part name local' s = one_then (one_is _) (λ s'. one_match _ (one_is _) (one_expression set t part name local' s'))

one_told_by : (set : Settings) (t : Text) (home : Option Text) (part : Part) (then' : Then) (s : State) → IsOne (IsTold set t home part then' s)
one_told_by set t home part (Then.Bind name local') s = one_side set t part name local' s
one_told_by set t home part (Then.Decide held otherwise) s = one_made set t home part s
one_told_by set t home part (Then.Test circle) s = one_made set t home part s
one_told_by set t home part (Then.Choose first) s = one_made set t home part s
one_told_by set t home part (Then.Case c) s = one_made set t home part s
one_told_by set t home part (Then.Low c) s = one_made set t home part s
one_told_by set t home part (Then.High c low) s = one_made set t home part s
one_told_by set t home part (Then.From turns) s = one_made set t home part s
one_told_by set t home part (Then.To turns first) s = one_made set t home part s
one_told_by set t home part (Then.By turns first last) s = one_made set t home part s
one_told_by set t home part (Then.Pass call) s = one_made set t home part s
one_told_by set t home part (Then.Say error at) s = one_made set t home part s
one_told_by set t home part Then.Plain s = one_is _
one_told_by set t home part Then.Leave s = one_is _
one_told_by set t home part (Then.Hold name local' stop) s = one_is _
one_told_by set t home part (Then.Again circle) s = one_is _
one_told_by set t home part (Then.Fall parted) s = one_is _
one_told_by set t home part (Then.Turn turns number last step) s = one_is _
one_told_by set t home part (Then.Give call) s = one_is _
one_told_by set t home part (Then.Refer call name) s = one_is _
one_told_by set t home part (Then.Enter call) s = one_is _
one_told_by set t home part (Then.Read at) s = one_is _

pub one_told : (set : Settings) (t : Text) (home : Option Text) (part : Part) (then' : Then) (s : State) → IsOne (IsTold set t home part then' s)
one_told set t home part then' s = one_told_by set t home part then' s

pub one_within : {A : Type 0} {holds : Result A Stopped → Type 0} (sources : Sources) → IsOne holds → IsOne (Within A sources holds)
one_within sources one _ _ (Within.ok a p) (Within.ok b q) = let same : a ≡ b = cc (one _ _ p q) in ap Ok same
one_within sources one _ _ (Within.ok a p) (Within.fault f q) = absurd (cc (one _ _ p q))
one_within sources one _ _ (Within.fault f p) (Within.ok b q) = absurd (cc (one _ _ p q))
one_within sources one _ _ (Within.fault f p) (Within.fault f' q) = let same : f ≡ f' = cc (one _ _ p q) in ap (λ k. Err (halted_by sources k)) same

pub one_beside : {A : Type 0} {holds : Result A Unread → Type 0} (s : State) → IsOne holds → IsOne (Beside A s holds)
one_beside s one _ _ (Beside.ok a p) (Beside.ok b q) = let same : a ≡ b = cc (one _ _ p q) in ap Ok same
one_beside s one _ _ (Beside.ok a p) (Beside.fault f q) = absurd (cc (one _ _ p q))
one_beside s one _ _ (Beside.fault f p) (Beside.ok b q) = absurd (cc (one _ _ p q))
one_beside s one _ _ (Beside.fault f p) (Beside.fault f' q) = let same : f ≡ f' = cc (one _ _ p q) in ap (λ (k : Unread). Err (record { stop = k.stop; messages = s.messages; names = k.names })) same
