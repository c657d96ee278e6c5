-- A `#switch` and a `#break` in their own words.
use Rattle.std.specs.Prelude.{ℕ, ℤ, ◌≡◌, ◌<◌, Bool, true, false, Some, Ok}
use Rattle.std.specs.Ordering.{int_eq}
use Rattle.scene_expr.specs.declared.value.Value.{Value}
use Rattle.text_structure.specs.declared.closer.Closer.{Closer}
use Rattle.text_structure.specs.declared.mark.Directive.{Directive}
use Rattle.text_structure.specs.Texts.{Text, end_of}
use Rattle.text_structure.specs.Turns.{directive_at}
use Rattle.directive_machine.specs.Moves.{Action}
use Rattle.directive_machine.specs.declared.part.Choice.{Choice}
use Rattle.directive_machine.specs.Moves.{Next}
use Rattle.directive_machine.specs.declared.part.Part.{Part}
use Rattle.directive_machine.specs.declared.part.Span.{Span}
use Rattle.directive_machine.specs.declared.part.Then.{Then}
use Rattle.directive_machine.specs.State.{State, settled, begun, restored}
use Rattle.directive_machine.specs.Begins.{span}
use Rattle.directive_machine.specs.Nexts.{next_part}
use Rattle.directive_machine.specs.Cases.{next_case, fallen_case}
use Rattle.directive_machine.specs.Values.{Valued}
use Rattle.directive_machine.specs.Sources.{Sources, text_at}
use Rattle.directive_machine.specs.Course.{Given, Course, Outcome, course, after}
use Rattle.directive_machine.specs.Ways.{begun_at}
use Rattle.directive_machine.specs.Expands.{Runs, Expands}
use Rattle.directive_machine.specs.Loops.{ComesTo, body}
use Rattle.directive_machine.specs.Meanings.{aside}

-- the body of a case, which begins at a place
abbrev pub case_body : Text → Part → ℕ → Bool → Part
case_body t part at parted = body part (span at (end_of t Closer.Branch at)) (Then.Fall parted)

abbrev pub case_head : Part → Span → Bool → ℕ → Choice → Part
case_head part list closed from c = next_part part list closed from (Then.Case c)

-- a `#case` of the value begins: its body is expanded
abbrev pub CaseHolds : Type 0
CaseHolds = (g : Given) (part : Part) (list : Span) (closed : Bool) (from : ℕ) (c : Choice) (w : Course) (v : Valued) (sources : Sources) (x : ℤ) (r : Outcome) → ComesTo g (case_head part list closed from c) w v sources → v.value ≡ Value.Float x → int_eq c.value x ≡ true → Expands g (case_body (text_at sources part.text) part c.body false) c.body (course v.state sources) r → Expands g (case_head part list closed from c) list.at w r

-- behind a `#case` of another value the next one is asked
abbrev pub CasePasses : Type 0
CasePasses = (g : Given) (part : Part) (list : Span) (closed : Bool) (from : ℕ) (c : Choice) (w : Course) (v : Valued) (sources : Sources) (x : ℤ) (next : Part) (s : State) (r : Outcome) → ComesTo g (case_head part list closed from c) w v sources → v.value ≡ Value.Float x → int_eq c.value x ≡ false → next_case (text_at sources part.text) (case_head part list closed from c) c.value c.otherwise (end_of (text_at sources part.text) Closer.Branch c.body) v.state ≡ Ok (settled (Next.Further next) s) → Expands g next next.at (course s sources) r → Expands g (case_head part list closed from c) list.at w r

-- a body that runs to the next `#case` or `#range` goes on behind its head
abbrev pub FallsOn : Type 0
FallsOn = (g : Given) (part : Part) (list : Span) (parted : Bool) (w w' : Course) (next : Part) (s : State) (r : Outcome) → Runs g (body part list (Then.Fall parted)) list.at w (Ok (after w' false)) → directive_at (text_at w'.sources part.text).marks list.end ≡ Some Directive.Case → fallen_case (text_at w'.sources part.text) (body part list (Then.Fall parted)) parted list.end w'.state ≡ Ok (settled (Next.Further next) s) → Expands g next next.at (course s w'.sources) r → Expands g (body part list (Then.Fall parted)) list.at w r

-- one that runs to the `#end` ends the switch
abbrev pub FallsOut : Type 0
FallsOut = (g : Given) (part : Part) (list : Span) (parted : Bool) (w w' : Course) → Runs g (body part list (Then.Fall parted)) list.at w (Ok (after w' false)) → directive_at (text_at w'.sources part.text).marks list.end ≡ Some Directive.End → Expands g (body part list (Then.Fall parted)) list.at w (Ok (after w' false))

-- ---- `#break`

-- a `#break` in a body of a switch ends the switch, and goes no further
abbrev pub BreaksSwitch : Type 0
BreaksSwitch = (g : Given) (part : Part) (list : Span) (parted : Bool) (w w' : Course) → Runs g (body part list (Then.Fall parted)) list.at w (Ok (after w' true)) → Expands g (body part list (Then.Fall parted)) list.at w (Ok (after w' false))

-- one in a body of an `#if` goes on behind it
abbrev pub BreaksIf : Type 0
BreaksIf = (g : Given) (part : Part) (list : Span) (w w' : Course) → Runs g (body part list Then.Plain) list.at w (Ok (after w' true)) → Expands g (body part list Then.Plain) list.at w (Ok (after w' true))

-- one in a right side gives the declaration up: nothing is bound, and what was kept aside is dropped
abbrev pub BreaksSide : Type 0
BreaksSide = (g : Given) (part : Part) (at end from name : ℕ) (closes local' : Bool) (w w' : Course) → Runs g (aside part at end closes from (Then.Bind name local')) at w (Ok (after w' true)) → Expands g (aside part at end closes from (Then.Bind name local')) at w (Ok (after (course (restored from w'.state) w'.sources) true))

-- what stands behind a part that a `#break` ended isn't expanded
abbrev pub BreaksRun : Type 0
BreaksRun = (g : Given) (part inner : Part) (at behind : ℕ) (w w' : Course) (s : State) → at < part.end → begun_at w.sources part at w.state ≡ Ok (begun (Action.Open inner behind) s) → Expands g inner inner.at (course s w.sources) (Ok (after w' true)) → Runs g part at w (Ok (after w' true))
