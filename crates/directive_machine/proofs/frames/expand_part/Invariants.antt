-- What comes of the frames that are left comes of the whole, and the other way round.
use Rattle.std.proofs.Common.{◌≡◌, ◌≤◌, ◌+◌, ◌-◌, ◌*◌, ◌∷◌, List, Some, reverse}
use Rattle.directive_machine.specs.declared.texts.Text.{Text}
use Rattle.directive_machine.specs.Course.{Outcome, given, after}
use Rattle.directive_machine.specs.Read.{course_of}
use Rattle.directive_machine.specs.Expands.{Expands}
use Rattle.directive_machine.specs.Weights.{most_weight, weight}
use Rattle.directive_machine.proofs.Stacks.{Left, frame, frame_weights}
use Rattle.directive_machine.proofs.OneText.{OneEnd}
use Rattle.directive_machine.proofs.frames.expand_part.Given as goal

abbrev pub invariant-steps : goal.invariant-steps
invariant-steps g l = record {
  held : g.T.Texts.held l.texts ≡ g.T.Texts.held l.fn.texts;
  later : g.T.Texts.faults l.fn.texts ≤ g.T.Texts.faults l.texts;
  within : l.machine.taken ≤ 16777216;
  rest : (h : List Text) → g.T.Texts.held l.fn.texts ≡ Some h → (r : Outcome) →
      Left (given l.set l.libraries h) (frame l.part l.at ∷ reverse l.frames.items) (after (course_of l.machine l.readings) l.broken) r
      → Expands (given l.set l.libraries h) l.fn.whole l.fn.whole.at (course_of l.fn.machine l.fn.readings) r;
  one : OneEnd;
  onward : (h : List Text) → g.T.Texts.held l.fn.texts ≡ Some h → (r : Outcome) →
      Expands (given l.set l.libraries h) l.fn.whole l.fn.whole.at (course_of l.fn.machine l.fn.readings) r
      → Left (given l.set l.libraries h) (frame l.part l.at ∷ reverse l.frames.items) (after (course_of l.machine l.readings) l.broken) r;
}

abbrev pub decreases-steps : goal.decreases-steps
decreases-steps g l = (16777216 - l.machine.taken) * most_weight + weight l.part.then + frame_weights l.frames.items
