-- What stands first in what a frame says.
use Rattle.std.proofs.Common.{◌≡◌, ℕ, zero, suc, List, [], ◌∷◌, Option, Result, Ok, Err, refl, sym, ap, ◌∙◌, subst}
use Rattle.std.proofs.lemmas.List.{append-nil}
use Rattle.scene_expr.specs.declared.value.Settings.{Settings}
use Rattle.directive_machine.specs.declared.texts.Text.{Text}
use Rattle.directive_machine.specs.Course.{Course, Given, Halted}
use Rattle.directive_machine.specs.Expansions.{Handed, ComesTo, IsExpansion}
use Rattle.directive_machine.specs.Fronts.{IsFront, said_in}
use Rattle.options.specs.declared.plan.Plan.{Plan}
use Rattle.options.specs.Frames.{settings_of}
use Rattle.povfix.specs.Frames.{Frame, frame_of, generated_for, given_for, IsExpanded}
use Rattle.povfix.specs.Said.{Begins, FrameSays, NextBegins}
use Rattle.povfix.specs.Verdict.{FrameVerdict, Verdict}
use Rattle.povfix.proofs.OneFrame.{OneExpansion, not_both, one_expanded, one_stopped}

pub nothing_begins : (frame : Frame) (texts : List Text) → Begins frame texts []
nothing_begins frame texts messages says = record { more = messages; is = refl }

pub nothing_next : (frames : List Frame) (texts : List Text) (count : ℕ) → NextBegins frames texts count []
nothing_next [] texts count = refl
nothing_next (frame ∷ frames) texts zero = nothing_begins frame texts
nothing_next (frame ∷ frames) texts (suc count) = nothing_next frames texts count

-- ---- a frame says one thing

verdict_says : (frame : Frame) (texts : List Text) (verdict : Verdict) → FrameVerdict frame texts verdict → FrameSays frame texts verdict.messages
verdict_says frame texts verdict (FrameVerdict.drawn found scene picture expanded read shown) = FrameSays.ended found expanded
verdict_says frame texts verdict (FrameVerdict.no_scene found fault expanded refused) = FrameSays.ended found expanded
verdict_says frame texts verdict (FrameVerdict.stopped halted stops) = FrameSays.stopped halted stops

module _ (law : OneExpansion) (frame : Frame) (texts : List Text) where
  one_saying : (a b : List ℕ) → FrameSays frame texts a → FrameSays frame texts b → a ≡ b
  one_saying a b (FrameSays.ended found e) (FrameSays.ended found' e') = ap (λ (f : Handed). f.messages) (one_expanded law frame texts found found' e e')
  one_saying a b (FrameSays.ended found e) (FrameSays.stopped halted stops) = absurd (not_both law frame texts found halted e stops)
  one_saying a b (FrameSays.stopped halted stops) (FrameSays.ended found e) = absurd (not_both law frame texts found halted e stops)
  one_saying a b (FrameSays.stopped halted stops) (FrameSays.stopped halted' stops') = ap (λ (f : Halted). f.messages) (one_stopped law frame texts halted halted' stops stops')

  whole_begins : (part : List ℕ) → FrameSays frame texts part → Begins frame texts part
  whole_begins part says messages others = record { more = []; is = one_saying messages part others says ∙ sym (append-nil part) }

  -- all that a frame says stands first in it
  pub carried_begins : (found : Handed) → IsExpanded frame texts found → Begins frame texts found.messages
  carried_begins found expanded = whole_begins found.messages (FrameSays.ended found expanded)

  pub verdict_begins : (verdict : Verdict) → FrameVerdict frame texts verdict → Begins frame texts verdict.messages
  verdict_begins verdict comes = whole_begins verdict.messages (verdict_says frame texts verdict comes)

-- ---- what stands first in each outcome of the directives

abbrev pub BeginsEach : Given → List ℕ → Option (List ℕ) → List ℕ → Type 0
BeginsEach g name bytes part = (r : Result Course Halted) → IsExpansion g name bytes r → IsFront part (said_in r)

each_begins : (frame : Frame) (texts : List Text) (part : List ℕ) → BeginsEach (given_for frame texts) frame.input (generated_for frame.generate) part → Begins frame texts part
each_begins frame texts part each messages (FrameSays.ended found (ComesTo.comes w is e)) = subst (λ (f : Handed). IsFront part f.messages) is (each (Ok w) e)
each_begins frame texts part each messages (FrameSays.stopped halted stops) = each (Err halted) stops

-- under other spellings of what they are given
pub begins_at : (plan : Plan) (number : ℕ) (set : Settings) (libraries : List (List ℕ)) (name : List ℕ) (bytes : Option (List ℕ)) (h : List Text) → set ≡ settings_of plan number → libraries ≡ plan.libraries → name ≡ plan.input → bytes ≡ generated_for plan.generate
    → (part : List ℕ) → BeginsEach (record { settings = set; libraries = libraries; held = h }) name bytes part → Begins (frame_of plan number) h part
begins_at plan number set libraries name bytes h is_set is_libraries is_name is_bytes part each =
    each_begins (frame_of plan number) h part
    (subst (λ b. BeginsEach (record { settings = settings_of plan number; libraries = plan.libraries; held = h }) plan.input b part) is_bytes
    (subst (λ n. BeginsEach (record { settings = settings_of plan number; libraries = plan.libraries; held = h }) n bytes part) is_name
    (subst (λ l. BeginsEach (record { settings = settings_of plan number; libraries = l; held = h }) name bytes part) is_libraries
    (subst (λ s. BeginsEach (record { settings = s; libraries = libraries; held = h }) name bytes part) is_set each))))
