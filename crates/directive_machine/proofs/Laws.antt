-- Conditions and loops in their own words.
use Rattle.std.proofs.Common.{ℤ, pos, ◌+ℤ◌, ◌≡◌, subst, sym, ap, ◌∙◌, refl, Bool, true, false, not, Result, Ok, Err, if◌then◌else◌}
use Rattle.std.specs.Ordering.{int_eq}
use Rattle.fix_math.specs.declared.fix.NumFault.{NumFault}
use Rattle.scene_expr.specs.declared.value.Value.{Value}
use Rattle.scene_expr.specs.Then.{IsThen}
use Rattle.directive_machine.specs.declared.part.Part.{Part}
use Rattle.directive_machine.specs.declared.part.Then.{Then}
use Rattle.directive_machine.specs.Moves.{Next}
use Rattle.directive_machine.specs.State.{State, settled, on_ok}
use Rattle.directive_machine.specs.Values.{Valued, IsValued}
use Rattle.fix_math.specs.Outcomes.{in_range}
use Rattle.text_structure.specs.Texts.{Text}
use Rattle.directive_machine.specs.declared.part.Circle.{Circle}
use Rattle.directive_machine.specs.declared.part.Turns.{Turns}
use Rattle.directive_machine.specs.Nexts.{done, runs, goes_on, float, is_true, decided, decided_next, tested, tested_next}
use Rattle.directive_machine.specs.Rounds.{numbered, turned_by, turned}
use Rattle.directive_machine.specs.Sources.{text_at}
use Rattle.directive_machine.specs.Course.{Given, Course, Outcome, course, after, Within}
use Rattle.directive_machine.specs.Expands.{Runs, Expands}
use Rattle.directive_machine.specs.Loops.{ComesTo, body, condition, test, Decides, EndsAtZero, GoesRound, EndsAtBreak, TurnsOn, TurnsEnd, TurnsPast, TurnsBreak}

-- a value that is a float
pub float_is : (v : Valued) (x : ℤ) → v.value ≡ Value.Float x → float v ≡ Ok x
float_is v x is = subst (λ k. float (record { value = k; first = v.first; state = v.state }) ≡ Ok x) (sym is) refl

pub decides : Decides
decides g part list closed from held otherwise w _ _ x r (ComesTo.comes w' v run value) is rest =
    let is_made : on_ok (float v) (λ y. decided (condition part list closed from held otherwise) held otherwise y v.state) ≡ Ok (settled (decided_next (condition part list closed from held otherwise) held otherwise x) v.state) = ap (λ k. on_ok k (λ y. decided (condition part list closed from held otherwise) held otherwise y v.state)) (float_is v x is) in
    Expands.further _ _ list.at w (after w' false) (course v.state w'.sources) r run
    (IsThen.found (settled (decided_next (condition part list closed from held otherwise) held otherwise x) v.state) _ (Within.ok _ (IsThen.found v _ value (sym is_made))) refl) rest

pub ends_at_zero : EndsAtZero
ends_at_zero g part circle w _ _ (ComesTo.comes w' v run value) is =
    let is_made : on_ok (float v) (λ y. tested (test part circle w.state) circle y v.state) ≡ Ok (settled (Next.Done false) v.state) = ap (λ k. on_ok k (λ y. tested (test part circle w.state) circle y v.state)) (float_is v (pos 0) is) in
    Expands.done _ circle.condition.at w (after w' false) false (course v.state w'.sources) run
    (IsThen.found (settled (Next.Done false) v.state) _ (Within.ok _ (IsThen.found v _ value (sym is_made))) refl)

-- the condition of a loop that goes on
goes_on_into : (g : Given) (part : Part) (circle : Circle) (w w' : Course) (v : Valued) (x : ℤ) (r : Outcome) → Runs g (test part circle w.state) circle.condition.at w (Ok (after w' false)) → IsValued g.settings (text_at w'.sources part.text) (test part circle w.state) w'.state (Ok v) → v.value ≡ Value.Float x → is_true x ≡ true → Expands g (body part circle.body (Then.Again circle)) circle.body.at (course v.state w'.sources) r → Expands g (test part circle w.state) circle.condition.at w r
goes_on_into g part circle w w' v x r run value is held rest =
    let tests : on_ok (float v) (λ y. tested (test part circle w.state) circle y v.state) ≡ Ok (settled (tested_next (test part circle w.state) circle x) v.state) = ap (λ k. on_ok k (λ y. tested (test part circle w.state) circle y v.state)) (float_is v x is) in
    let goes : tested_next (test part circle w.state) circle x ≡ Next.Further (body part circle.body (Then.Again circle)) = ap (λ b. if b then Next.Further (body part circle.body (Then.Again circle)) else Next.Done false) held in
    let is_made : on_ok (float v) (λ y. tested (test part circle w.state) circle y v.state) ≡ Ok (settled (Next.Further (body part circle.body (Then.Again circle))) v.state) = tests ∙ ap (λ k. Ok (settled k v.state)) goes in
    Expands.further _ _ circle.condition.at w (after w' false) (course v.state w'.sources) r run
    (IsThen.found (settled (Next.Further (body part circle.body (Then.Again circle))) v.state) _ (Within.ok _ (IsThen.found v _ value (sym is_made))) refl) rest

pub goes_round_again : GoesRound
goes_round_again g part circle w _ _ x w2 s r (ComesTo.comes w' v run value) is held runs passes rest =
    goes_on_into g part circle w w' v x r run value is held
    (Expands.further _ (test part circle s) circle.body.at (course v.state w'.sources) (after w2 false) (course s w2.sources) r runs
    (IsThen.found (settled (Next.Further (test part circle s)) s) _ (Within.ok _ (sym (ap (λ k. on_ok k (goes_on (body part circle.body (Then.Again circle)) circle.condition circle.closed (Then.Test circle))) passes))) refl) rest)

pub ends_at_break : EndsAtBreak
ends_at_break g part circle w _ _ x w2 (ComesTo.comes w' v run value) is held runs =
    goes_on_into g part circle w w' v x _ run value is held
    (Expands.done _ circle.body.at (course v.state w'.sources) (after w2 true) false w2 runs refl)

-- ---- `#for`

not_so : (b : Bool) → not b ≡ true → b ≡ false
not_so false is = refl
not_so true is = absurd (cc is)

-- a body of a `#for` that ran, where the step isn't 0
turn_is : (t : Text) (part : Part) (turns : Turns) (number last step : ℤ) (s : State) (found : Result ℤ NumFault) → is_true step ≡ true → in_range (number +ℤ step) ≡ found → turned t part turns number last step s ≡ turned_by found t part turns last step s
turn_is t part turns number last step s found some is =
    ap (λ b. if b then done s else turned_by (in_range (number +ℤ step)) t part turns last step s) (not_so (int_eq step (pos 0)) some) ∙ ap (λ k. turned_by k t part turns last step s) is

pub turns_on : TurnsOn
turns_on g part turns number last step next w w' r once some is goes rest =
    let round : turned (text_at w'.sources part.text) (body part turns.body (Then.Turn turns number last step)) turns number last step w'.state ≡ Ok (settled (Next.Further (body part turns.body (Then.Turn turns next last step))) (numbered turns next w'.state)) =
    turn_is (text_at w'.sources part.text) (body part turns.body (Then.Turn turns number last step)) turns number last step w'.state (Ok next) some is
    ∙ ap (λ b. if b then runs (body part turns.body (Then.Turn turns number last step)) turns.body (Then.Turn turns next last step) (numbered turns next w'.state) else done (numbered turns next w'.state)) goes in
    Expands.further _ _ turns.body.at w (after w' false) (course (numbered turns next w'.state) w'.sources) r once
    (IsThen.found (settled (Next.Further (body part turns.body (Then.Turn turns next last step))) (numbered turns next w'.state)) _ (Within.ok _ (sym round)) refl) rest

pub turns_end : TurnsEnd
turns_end g part turns number last step next w w' once some is goes =
    let round : turned (text_at w'.sources part.text) (body part turns.body (Then.Turn turns number last step)) turns number last step w'.state ≡ Ok (settled (Next.Done false) (numbered turns next w'.state)) =
    turn_is (text_at w'.sources part.text) (body part turns.body (Then.Turn turns number last step)) turns number last step w'.state (Ok next) some is
    ∙ ap (λ b. if b then runs (body part turns.body (Then.Turn turns number last step)) turns.body (Then.Turn turns next last step) (numbered turns next w'.state) else done (numbered turns next w'.state)) goes in
    Expands.done _ turns.body.at w (after w' false) false (course (numbered turns next w'.state) w'.sources) once
    (IsThen.found (settled (Next.Done false) (numbered turns next w'.state)) _ (Within.ok _ (sym round)) refl)

pub turns_past : TurnsPast
turns_past g part turns number last step f w w' once some is =
    Expands.refused _ turns.body.at w (after w' false) _ once
    (IsThen.fault _ (Within.fault _ (sym (turn_is (text_at w'.sources part.text) (body part turns.body (Then.Turn turns number last step)) turns number last step w'.state (Err f) some is))))

pub turns_break : TurnsBreak
turns_break g part turns number last step w w' once =
    Expands.done _ turns.body.at w (after w' true) false (course (numbered turns number w'.state) w'.sources) once refl
