-- Conditions and loops in their own words.
use Rattle.std.specs.Prelude.{ℕ, ℤ, pos, ◌≡◌, ◌+ℤ◌, Bool, true, false, length, Ok, Err}
use Rattle.fix_math.specs.Outcomes.{in_range}
use Rattle.fix_math.specs.declared.fix.NumFault.{NumFault}
use Rattle.scene_expr.specs.declared.value.Value.{Value}
use Rattle.scene_expr.specs.declared.value.ExprFault.{ExprFault}
use Rattle.scene_expr.specs.Heads.{place_at}
use Rattle.directive_machine.specs.declared.stop.Stop.{Stop}
use Rattle.directive_machine.specs.declared.part.Circle.{Circle}
use Rattle.directive_machine.specs.declared.part.Turns.{Turns}
use Rattle.directive_machine.specs.declared.part.Span.{Span}
use Rattle.directive_machine.specs.declared.part.Part.{Part}
use Rattle.directive_machine.specs.declared.part.Then.{Then}
use Rattle.directive_machine.specs.State.{State, passed}
use Rattle.directive_machine.specs.Begins.{chosen}
use Rattle.directive_machine.specs.Nexts.{next_part, is_true}
use Rattle.directive_machine.specs.Rounds.{numbered, goes_round}
use Rattle.directive_machine.specs.Values.{Valued, IsValued}
use Rattle.directive_machine.specs.Sources.{Sources, text_at}
use Rattle.directive_machine.specs.Course.{Given, Course, Outcome, course, halted, after}
use Rattle.directive_machine.specs.Expands.{Runs, Expands}

-- a list comes to a value: it is expanded, its closer is taken, and all of it is one expression
pub data ComesTo (g : Given) (part : Part) (w : Course) : Valued → Sources → Type 0 where
  comes : (w' : Course) (v : Valued) → Runs g part part.at w (Ok (after w' false)) → IsValued g.settings (text_at w'.sources part.text) part w'.state (Ok v) → ComesTo g part w v w'.sources

-- a body of a part's text and depth
abbrev pub body : Part → Span → Then → Part
body part list then' = next_part part list false 0 then'

-- ---- `#if`

abbrev pub condition : Part → Span → Bool → ℕ → Span → Span → Part
condition part list closed from held otherwise = next_part part list closed from (Then.Decide held otherwise)

-- a condition that isn't 0 gives the first body, and 0 the other one
abbrev pub Decides : Type 0
Decides = (g : Given) (part : Part) (list : Span) (closed : Bool) (from : ℕ) (held otherwise : Span) (w : Course) (v : Valued) (sources : Sources) (x : ℤ) (r : Outcome) → ComesTo g (condition part list closed from held otherwise) w v sources → v.value ≡ Value.Float x → Expands g (body part (chosen (is_true x) held otherwise) Then.Plain) (chosen (is_true x) held otherwise).at (course v.state sources) r → Expands g (condition part list closed from held otherwise) list.at w r

-- ---- `#while`

abbrev pub test : Part → Circle → State → Part
test part circle s = next_part part circle.condition circle.closed (length s.out) (Then.Test circle)

-- the loop, from its condition on
abbrev pub IsLoop : Given → Part → Circle → Course → Outcome → Type 0
IsLoop g part circle w r = Expands g (test part circle w.state) circle.condition.at w r

-- a condition of 0 gives nothing
abbrev pub EndsAtZero : Type 0
EndsAtZero = (g : Given) (part : Part) (circle : Circle) (w : Course) (v : Valued) (sources : Sources) → ComesTo g (test part circle w.state) w v sources → v.value ≡ Value.Float (pos 0) → IsLoop g part circle w (Ok (after (course v.state sources) false))

-- else it gives its body, and then the same loop in the scopes that the body left
abbrev pub GoesRound : Type 0
GoesRound = (g : Given) (part : Part) (circle : Circle) (w : Course) (v : Valued) (sources : Sources) (x : ℤ) (w' : Course) (s : State) (r : Outcome) → ComesTo g (test part circle w.state) w v sources → v.value ≡ Value.Float x → is_true x ≡ true → Runs g (body part circle.body (Then.Again circle)) circle.body.at (course v.state sources) (Ok (after w' false)) → passed 40 (text_at w'.sources part.text) circle.sign circle.body.end w'.state ≡ Ok s → IsLoop g part circle (course s w'.sources) r → IsLoop g part circle w r

-- up to the first body that a `#break` ended, which goes no further than the loop
abbrev pub EndsAtBreak : Type 0
EndsAtBreak = (g : Given) (part : Part) (circle : Circle) (w : Course) (v : Valued) (sources : Sources) (x : ℤ) (w' : Course) → ComesTo g (test part circle w.state) w v sources → v.value ≡ Value.Float x → is_true x ≡ true → Runs g (body part circle.body (Then.Again circle)) circle.body.at (course v.state sources) (Ok (after w' true)) → IsLoop g part circle w (Ok (after w' false))

-- ---- `#for`

-- the loop, from its body for a number on
abbrev pub IsRow : Given → Part → Turns → ℤ → ℤ → ℤ → Course → Outcome → Type 0
IsRow g part turns number last step w r = Expands g (body part turns.body (Then.Turn turns number last step)) turns.body.at w r

abbrev pub RunsOnce : Given → Part → Turns → ℤ → ℤ → ℤ → Course → Course → Bool → Type 0
RunsOnce g part turns number last step w w' broken = Runs g (body part turns.body (Then.Turn turns number last step)) turns.body.at w (Ok (after w' broken))

-- behind its body the step is added, and the body runs again while the number isn't past the last one
abbrev pub TurnsOn : Type 0
TurnsOn = (g : Given) (part : Part) (turns : Turns) (number last step next : ℤ) (w w' : Course) (r : Outcome) → RunsOnce g part turns number last step w w' false → is_true step ≡ true → in_range (number +ℤ step) ≡ Ok next → goes_round next last step ≡ true → IsRow g part turns next last step (course (numbered turns next w'.state) w'.sources) r → IsRow g part turns number last step w r

-- the first number that is past the last one ends the loop, and the variable keeps it
abbrev pub TurnsEnd : Type 0
TurnsEnd = (g : Given) (part : Part) (turns : Turns) (number last step next : ℤ) (w w' : Course) → RunsOnce g part turns number last step w w' false → is_true step ≡ true → in_range (number +ℤ step) ≡ Ok next → goes_round next last step ≡ false → IsRow g part turns number last step w (Ok (after (course (numbered turns next w'.state) w'.sources) false))

-- a number that leaves the range of a value is a fault at the word `for`
abbrev pub TurnsPast : Type 0
TurnsPast = (g : Given) (part : Part) (turns : Turns) (number last step : ℤ) (f : NumFault) (w w' : Course) → RunsOnce g part turns number last step w w' false → is_true step ≡ true → in_range (number +ℤ step) ≡ Err f → IsRow g part turns number last step w (Err (halted (Stop.Expr (ExprFault.Range (place_at (text_at w'.sources part.text).tokens turns.word))) w'))

-- a `#break` ends the loop, and the variable has the number of its turn
abbrev pub TurnsBreak : Type 0
TurnsBreak = (g : Given) (part : Part) (turns : Turns) (number last step : ℤ) (w w' : Course) → RunsOnce g part turns number last step w w' true → IsRow g part turns number last step w (Ok (after (course (numbered turns number w'.state) w'.sources) false))
