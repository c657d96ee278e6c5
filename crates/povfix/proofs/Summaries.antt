-- Once all frames are drawn: the summary of a generated scene.
use Rattle.std.specs.Prelude.{◌==◌, if◌then◌else◌, not}
use Rattle.std.proofs.Common.{◌≡◌, ◌≢◌, ◌<◌, ◌≤◌, Bool, true, false, ℕ, zero, suc, ◌+◌, ◌-◌, List, [], ◌∷◌, ◌++◌, length, Option, Result, Ok, Err, refl, sym, ap, ◌∙◌, subst, arith}
use Rattle.shelf.specs.Stream.{with_bytes, GrewByLess}
use Rattle.directive_machine.specs.declared.texts.Text.{Text}
use Rattle.options.specs.declared.fault.OptionFault.{OptionFault as Refused}
use Rattle.options.specs.declared.plan.Plan.{Plan}
use Rattle.povfix.specs.declared.outcome.Fault.{Fault}
use Rattle.povfix.specs.declared.outcome.Fault.TheVariants.{Done, OptionFault, SceneFault, Limit, Absent, TextFault, ShelfFault, MessageFault, NoMemory}
use Rattle.povfix.specs.Frames.{Frame, before_summary, frames_from, frames_of, is_summed, IsFinished}
use Rattle.povfix.specs.Lines.{summary_of}
use Rattle.povfix.specs.Said.{IsSaid, no_memory_line}
use Rattle.povfix.specs.Steps.{fault_of, IsCourseSaid, IsSummed}
use Rattle.povfix.specs.Verdict.{AreDrawn, FramesVerdict, NextSays, done, summed}
use Rattle.povfix.proofs.Beginnings.{nothing_next}
use Rattle.povfix.proofs.Courses.{done_same}
use Rattle.povfix.proofs.Saying.{less_at, says_behind, with_both}
use Rattle.povfix.proofs.Verdicts.{ended_said}

all_drawn : (frames : List Frame) (texts : List Text) (count : ℕ) (messages : List ℕ) (total : ℕ) → count ≡ length frames → AreDrawn frames texts count messages total → FramesVerdict frames texts count (done messages total)
all_drawn [] texts zero messages total all drawn = (refl, done_same messages [] total 0 drawn.0 drawn.1)
all_drawn [] texts (suc count) messages total all drawn = absurd drawn
all_drawn (frame ∷ frames) texts zero messages total all drawn = absurd (omega (arith, all))
all_drawn (frame ∷ frames) texts (suc count) messages total all drawn =
    (drawn.0, drawn.1, done drawn.2 drawn.3, drawn.4, all_drawn frames texts count drawn.2 drawn.3 (omega (arith, all)) drawn.5, done_same messages (drawn.0 ++ drawn.2) total (drawn.1 + drawn.3) drawn.6 drawn.7)

-- behind the last frame comes the summary
next_last : (frames : List Frame) (texts : List Text) (count : ℕ) (summary : List ℕ) → count ≡ length frames → NextSays frames texts count summary summary
next_last [] texts zero summary all = refl
next_last [] texts (suc count) summary all = absurd (omega (arith, all))
next_last (frame ∷ frames) texts zero summary all = absurd (omega (arith, all))
next_last (frame ∷ frames) texts (suc count) summary all = next_last frames texts count summary (omega (arith, all))

module _ (plan : Plan) (texts : List Text) (n total : ℕ) (before mid now : Option (List ℕ)) (fb fm fn : ℕ) (later : fb ≤ fm) (all : n ≡ length (frames_of plan)) (said : IsCourseSaid plan texts n (Ok total) before mid fb fm) where
  abbrev summary : List ℕ
  summary = summary_of plan.generate plan.width plan.height total

  pub summed_said : (fault : Fault) → IsSummed summary mid now fm fn fault → IsSaid (Ok plan) texts n fault before now fb fn
  summed_said Done is = (
    summed plan (done said.0 total),
    (done said.0 total, all_drawn (frames_of plan) texts n said.0 total all said.1, refl),
    refl,
    is ∙ ap (λ w. with_bytes w summary) said.2 ∙ with_both before said.0 summary,
  )
  summed_said MessageFault is = (said.0, total, summary, said.1, next_last (frames_of plan) texts n summary all, less_at mid (with_bytes before said.0) now summary said.2 is.0)
  summed_said NoMemory is = (said.0, total, [], said.1, nothing_next (frames_of plan) texts n, says_behind before mid now fb fm fn said.0 no_memory_line said.2 later is.1)
  summed_said (OptionFault kind place) is = absurd is
  summed_said (SceneFault letter kind place) is = absurd is
  summed_said (Limit which place) is = absurd is
  summed_said (Absent name) is = absurd is
  summed_said TextFault is = absurd is
  summed_said ShelfFault is = absurd is

-- ---- how many frames are finished

-- a scene with a summary is a generated one
generated : (none : Bool) (line : List ℕ) → (if none then [] else line) ≢ [] → none ≡ false
generated true line some = absurd (some refl)
generated false line some = refl

some_summed : (plan : Plan) (n count : ℕ) → (plan.generate == 0) ≡ false → 0 < count → is_summed (frames_from plan n count) ≡ true
unfolding frames_from
some_summed plan n zero generates some = absurd (omega (arith, some))
some_summed plan n (suc count) generates some = ap not generates

all_finished : (frames : List Frame) (count : ℕ) → is_summed frames ≡ true → count ≡ length frames → count ≤ before_summary frames
all_finished frames count some all = subst (λ s. count ≤ (if s then length frames else length frames - 1)) (sym some) (omega (arith, all))

less_some : (before now : Option (List ℕ)) (bytes : List ℕ) → GrewByLess before now bytes → bytes ≢ []
less_some before now bytes grew none = absurd (omega (arith, grew.within, ap length none))

module _ (plan : Plan) (n total : ℕ) (mid now : Option (List ℕ)) (fm fn : ℕ) (all : n ≡ length (frames_of plan)) where
  abbrev line : List ℕ
  line = summary_of plan.generate plan.width plan.height total

  with_summary : line ≢ [] → n ≤ before_summary (frames_of plan)
  with_summary some = all_finished (frames_of plan) n (some_summed plan plan.from (plan.to - plan.from + 1) (generated (plan.generate == 0) _ some) (omega arith)) all

  pub summed_finished : (fault : Fault) → IsSummed line mid now fm fn fault → IsFinished (frames_of plan) fault n
  summed_finished Done is = all
  summed_finished MessageFault is = with_summary (less_some mid now line is.0)
  summed_finished NoMemory is = with_summary is.0
  summed_finished (OptionFault kind place) is = absurd is
  summed_finished (SceneFault letter kind place) is = absurd is
  summed_finished (Limit which place) is = absurd is
  summed_finished (Absent name) is = absurd is
  summed_finished TextFault is = absurd is
  summed_finished ShelfFault is = absurd is

-- ---- no text and no storage fails with a summary

pub summed_no_text : (summary : List ℕ) (mid now : Option (List ℕ)) (fm fn : ℕ) (fault : Fault) → IsSummed summary mid now fm fn fault → fault ≢ TextFault
summed_no_text summary mid now fm fn TextFault is = absurd is
summed_no_text summary mid now fm fn Done is = λ e. cc
summed_no_text summary mid now fm fn MessageFault is = λ e. cc
summed_no_text summary mid now fm fn NoMemory is = λ e. cc
summed_no_text summary mid now fm fn ShelfFault is = absurd is
summed_no_text summary mid now fm fn (OptionFault kind place) is = absurd is
summed_no_text summary mid now fm fn (SceneFault letter kind place) is = absurd is
summed_no_text summary mid now fm fn (Limit which place) is = absurd is
summed_no_text summary mid now fm fn (Absent name) is = absurd is

pub summed_no_shelf : (summary : List ℕ) (mid now : Option (List ℕ)) (fm fn : ℕ) (fault : Fault) → IsSummed summary mid now fm fn fault → fault ≢ ShelfFault
summed_no_shelf summary mid now fm fn ShelfFault is = absurd is
summed_no_shelf summary mid now fm fn Done is = λ e. cc
summed_no_shelf summary mid now fm fn MessageFault is = λ e. cc
summed_no_shelf summary mid now fm fn NoMemory is = λ e. cc
summed_no_shelf summary mid now fm fn TextFault is = absurd is
summed_no_shelf summary mid now fm fn (OptionFault kind place) is = absurd is
summed_no_shelf summary mid now fm fn (SceneFault letter kind place) is = absurd is
summed_no_shelf summary mid now fm fn (Limit which place) is = absurd is
summed_no_shelf summary mid now fm fn (Absent name) is = absurd is

-- ---- the end of a run, by the end of its frames

module _ (asked : Result Plan Refused) (plan : Plan) (is : asked ≡ Ok plan) (end : Result ℕ Fault) (n n' : ℕ) (fault fault' : Fault) (same_count : n' ≡ n) (same_fault : fault' ≡ fault) where
  -- all frames are drawn
  pub summed_end : (texts : List Text) (total : ℕ) (before mid now : Option (List ℕ)) (fb fm fn : ℕ) → end ≡ Ok total → fb ≤ fm → IsFinished (frames_of plan) (fault_of end) n → IsCourseSaid plan texts n end before mid fb fm → IsSummed (summary_of plan.generate plan.width plan.height total) mid now fm fn fault → IsSaid asked texts n' fault' before now fb fn
  summed_end texts total before mid now fb fm fn ends later count said summed =
      ended_said asked plan texts n n' fault fault' before now fb fn is same_count same_fault
      (summed_said plan texts n total before mid now fb fm fn later
      (subst (λ e. IsFinished (frames_of plan) (fault_of e) n) ends count)
      (subst (λ e. IsCourseSaid plan texts n e before mid fb fm) ends said) fault summed)

  -- a fault ends them
  pub cut_end : (texts : List Text) (before now : Option (List ℕ)) (fb fn : ℕ) → end ≡ Err fault → IsCourseSaid plan texts n end before now fb fn → IsSaid asked texts n' fault' before now fb fn
  cut_end texts before now fb fn ends said =
      ended_said asked plan texts n n' fault fault' before now fb fn is same_count same_fault
      (subst (λ e. IsCourseSaid plan texts n e before now fb fn) ends said)
