-- A part goes on over tokens that begin nothing.
use Rattle.std.proofs.Common.{ℕ, ◌+◌, ◌≡◌, refl, Bool, false, List, ◌∷◌}
use Rattle.directive_machine.specs.declared.part.Part.{Part}
use Rattle.directive_machine.specs.declared.part.Frame.{Frame}
use Rattle.directive_machine.specs.Moves.{Action}
use Rattle.directive_machine.specs.State.{State}
use Rattle.directive_machine.specs.Sources.{text_at}
use Rattle.directive_machine.specs.Course.{Given, Course, Outcome, course, after}
use Rattle.directive_machine.specs.Passages.{IsPassage}
use Rattle.directive_machine.proofs.Stacks.{Left, frame, on_step}
use Rattle.directive_machine.proofs.Onward.{to_step}

pub on_passage : (g : Given) (part : Part) (at : ℕ) (frames : List Frame) (w : Course) (broken : Bool) (r : Outcome) → broken ≡ false → (next : ℕ) (s : State) → IsPassage (text_at w.sources part.text) part at w.state next s → Left g (frame part next ∷ frames) (after (course s w.sources) broken) r → Left g (frame part at ∷ frames) (after w broken) r
on_passage g part at frames w broken r unbroken next s IsPassage.none left = left
on_passage g part at frames w broken r unbroken _ s (IsPassage.further next s' _ passage within is) left =
    on_passage g part at frames w broken r unbroken next s' passage (on_step g part next frames (next + 1) (Action.Step (next + 1)) (course s' w.sources) s broken r unbroken within refl is left)

pub to_passage : (g : Given) (part : Part) (at : ℕ) (frames : List Frame) (w : Course) (broken : Bool) (r : Outcome) → broken ≡ false → (next : ℕ) (s : State) → IsPassage (text_at w.sources part.text) part at w.state next s → Left g (frame part at ∷ frames) (after w broken) r → Left g (frame part next ∷ frames) (after (course s w.sources) broken) r
to_passage g part at frames w broken r unbroken next s IsPassage.none left = left
to_passage g part at frames w broken r unbroken _ s (IsPassage.further next s' _ passage within is) left =
    to_step g part next frames (next + 1) (Action.Step (next + 1)) (course s' w.sources) s broken r unbroken within refl is (to_passage g part at frames w broken r unbroken next s' passage left)
