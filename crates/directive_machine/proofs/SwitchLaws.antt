-- A `#switch` and a `#break` in their own words.
use Rattle.std.proofs.Common.{ℤ, ◌≡◌, sym, ap, ◌∙◌, refl, Bool, true, false}
use Rattle.std.specs.Ordering.{int_eq}
use Rattle.scene_expr.specs.declared.value.Value.{Value}
use Rattle.scene_expr.specs.Then.{IsThen}
use Rattle.text_structure.specs.Texts.{Text}
use Rattle.directive_machine.specs.declared.part.Choice.{Choice}
use Rattle.directive_machine.specs.Moves.{Next}
use Rattle.directive_machine.specs.declared.part.Part.{Part}
use Rattle.directive_machine.specs.declared.part.Then.{Then}
use Rattle.directive_machine.specs.State.{settled, on_ok}
use Rattle.directive_machine.specs.Nexts.{float}
use Rattle.directive_machine.specs.Cases.{matched_case, fallen_by}
use Rattle.directive_machine.specs.Values.{Valued}
use Rattle.directive_machine.specs.Sources.{text_at}
use Rattle.directive_machine.specs.Course.{course, after, Within}
use Rattle.directive_machine.specs.Expands.{Runs, Expands}
use Rattle.directive_machine.specs.Loops.{ComesTo, body}
use Rattle.directive_machine.specs.Switches.{case_body, case_head, CaseHolds, CasePasses, FallsOn, FallsOut, BreaksSwitch, BreaksIf, BreaksSide, BreaksRun}
use Rattle.directive_machine.proofs.Laws.{float_is}

-- what comes behind the head of a case
case_made : (t : Text) (part : Part) (c : Choice) (v : Valued) (x : ℤ) (holds : Bool) → v.value ≡ Value.Float x → int_eq c.value x ≡ holds → on_ok (float v) (λ y. matched_case t part c (int_eq c.value y) v.state) ≡ matched_case t part c holds v.state
case_made t part c v x holds is same = ap (λ k. on_ok k (λ y. matched_case t part c (int_eq c.value y) v.state)) (float_is v x is) ∙ ap (λ b. matched_case t part c b v.state) same

pub case_holds : CaseHolds
case_holds g part list closed from c w _ _ x r (ComesTo.comes w' v run value) is same rest =
    Expands.further _ (case_body (text_at w'.sources part.text) part c.body false) list.at w (after w' false) (course v.state w'.sources) r run
    (IsThen.found (settled (Next.Further (case_body (text_at w'.sources part.text) part c.body false)) v.state) _ (Within.ok _ (IsThen.found v _ value (sym (case_made (text_at w'.sources part.text) (case_head part list closed from c) c v x true is same)))) refl) rest

pub case_passes : CasePasses
case_passes g part list closed from c w _ _ x next s r (ComesTo.comes w' v run value) is other asks rest =
    Expands.further _ next list.at w (after w' false) (course s w'.sources) r run
    (IsThen.found (settled (Next.Further next) s) _ (Within.ok _ (IsThen.found v _ value (sym (case_made (text_at w'.sources part.text) (case_head part list closed from c) c v x false is other ∙ asks)))) refl) rest

pub falls_on : FallsOn
falls_on g part list parted w w' next s r run divides falls rest =
    Expands.further _ next list.at w (after w' false) (course s w'.sources) r run
    (IsThen.found (settled (Next.Further next) s) _ (Within.ok _ (sym (ap (λ d. fallen_by d (text_at w'.sources part.text) (body part list (Then.Fall parted)) parted list.end w'.state) divides ∙ falls))) refl) rest

pub falls_out : FallsOut
falls_out g part list parted w w' run ends =
    Expands.done _ list.at w (after w' false) false w' run
    (IsThen.found (settled (Next.Done false) w'.state) _ (Within.ok _ (sym (ap (λ d. fallen_by d (text_at w'.sources part.text) (body part list (Then.Fall parted)) parted list.end w'.state) ends))) refl)

pub breaks_switch : BreaksSwitch
breaks_switch g part list parted w w' run = Expands.done _ list.at w (after w' true) false w' run refl

pub breaks_if : BreaksIf
breaks_if g part list w w' run = Expands.done _ list.at w (after w' true) true w' run refl

pub breaks_side : BreaksSide
breaks_side g part at end from name closes local' w w' run = Expands.done _ at w (after w' true) true _ run refl

pub breaks_run : BreaksRun
breaks_run g part inner at behind w w' s within opens run = Runs.inside_broken part at behind inner w w' s within opens run
