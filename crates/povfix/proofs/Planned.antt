-- What a run goes by, over texts that tell and over others.
use Rattle.std.proofs.Common.{◌≡◌, ◌≢◌, ◌⊎◌, ℕ, List, Option, None, Some, inl, inr, refl, sym, ap, ◌∙◌, subst, arith, take, Result, Ok, Err}
use Rattle.shelf.specs.Disk.{Contents, Images}
use Rattle.shelf.specs.Moments.{ByStages}
use Rattle.shelf.proofs.Steps.{one_stage, started}
use Rattle.directive_machine.specs.declared.texts.Text.{Text}
use Rattle.options.specs.declared.plan.Plan.{Plan}
use Rattle.options.specs.declared.fault.OptionFault.{OptionFault as Refused}
use Rattle.options.specs.declared.fault.OptionFault.TheVariants.{UnknownWord, BadNumber, Missing, Range, AbsentIni, BadLine, OutOfProfile}
use Rattle.options.specs.Outcomes.{Reads}
use Rattle.options.specs.Plans.{plan_of, IsPlan}
use Rattle.povfix.specs.declared.ending.Ending.{Ending}
use Rattle.povfix.specs.declared.outcome.Fault.{Fault}
use Rattle.povfix.specs.declared.outcome.Fault.TheVariants.{Done, OptionFault, SceneFault, Limit, Absent, TextFault, ShelfFault, MessageFault, NoMemory}
use Rattle.povfix.specs.Conversions.{option_fault}
use Rattle.povfix.specs.Frames.{Frame, frames_in, frames_of, reached_by, IsFinished, SameBesides}
use Rattle.povfix.specs.Lines.{summary_of, IsPlaced}
use Rattle.povfix.specs.Moments.{IsStage}
use Rattle.povfix.specs.Runs.{touched, IsAsked, IsPlanned}
use Rattle.povfix.specs.Steps.{fault_of, IsCourse, IsSummed}
use Rattle.povfix.specs.Verdict.{IsFrameFault, IsOptionAnswer}
use Rattle.povfix.proofs.Summaries.{summed_finished, summed_no_shelf}

-- ---- the options are refused

-- an answer to refused options, behind its report
abbrev IsRefused : Refused → Fault → Type 0
IsRefused refusal fault = (fault ≡ option_fault refusal) ⊎ ((fault ≡ NoMemory) × IsPlaced (option_fault refusal))

outside : (asked : Result Plan Refused) (fault : Fault) → (fault ≡ NoMemory) ⊎ (fault ≡ TextFault) → IsOptionAnswer asked fault
outside (Ok plan) fault (inl none) = subst IsFrameFault (sym none) tt
outside (Ok plan) fault (inr failed) = subst IsFrameFault (sym failed) tt
outside (Err refusal) fault (inl none) = inr (inl none)
outside (Err refusal) fault (inr failed) = inr (inr failed)

own_answer : (refusal : Refused) (fault : Fault) → IsRefused refusal fault → IsOptionAnswer (Err refusal) fault
own_answer refusal fault (inl same) = inl same
own_answer refusal fault (inr none) = inr (inl none.0)

told_answer : (asked : Result Plan Refused) (refusal : Refused) (fault : Fault) → asked ≡ Err refusal → IsRefused refusal fault → IsOptionAnswer asked fault
told_answer asked refusal fault is answer = subst (λ r. IsOptionAnswer r fault) (sym is) (own_answer refusal fault answer)

read_answer : (asked : Result Plan Refused) (refusal : Refused) (fault : Fault) → Reads asked (Err refusal) → IsRefused refusal fault → IsOptionAnswer asked fault
read_answer asked (UnknownWord place) fault read answer = told_answer asked (UnknownWord place) fault read answer
read_answer asked (BadNumber place) fault read answer = told_answer asked (BadNumber place) fault read answer
read_answer asked (Missing place) fault read answer = told_answer asked (Missing place) fault read answer
read_answer asked (Range place) fault read answer = told_answer asked (Range place) fault read answer
read_answer asked (AbsentIni place) fault read answer = told_answer asked (AbsentIni place) fault read answer
read_answer asked (BadLine place) fault read answer = told_answer asked (BadLine place) fault read answer
read_answer asked (OutOfProfile place) fault read answer = told_answer asked (OutOfProfile place) fault read answer
read_answer asked Refused.TextFault fault read (inl same) = outside asked fault (inr same)
read_answer asked Refused.TextFault fault read (inr none) = outside asked fault (inl none.0)
read_answer asked Refused.NoMemory fault read (inl same) = outside asked fault (inl same)
read_answer asked Refused.NoMemory fault read (inr none) = outside asked fault (inl none.0)

-- no frame is finished then
none_finished : (frames : List Frame) (fault : Fault) → fault ≢ Done → IsFinished frames fault 0
none_finished frames Done other = absurd (other refl)
none_finished frames (OptionFault kind place) other = omega arith
none_finished frames (SceneFault letter kind place) other = omega arith
none_finished frames (Limit which place) other = omega arith
none_finished frames (Absent name) other = omega arith
none_finished frames TextFault other = omega arith
none_finished frames ShelfFault other = omega arith
none_finished frames MessageFault other = omega arith
none_finished frames NoMemory other = omega arith

not_done : (refusal : Refused) → option_fault refusal ≢ Done
not_done (UnknownWord place) = λ e. cc
not_done (BadNumber place) = λ e. cc
not_done (Missing place) = λ e. cc
not_done (Range place) = λ e. cc
not_done (AbsentIni place) = λ e. cc
not_done (BadLine place) = λ e. cc
not_done (OutOfProfile place) = λ e. cc
not_done Refused.TextFault = λ e. cc
not_done Refused.NoMemory = λ e. cc

no_memory_left : NoMemory ≢ Done
no_memory_left = λ e. cc

refused_other : (refusal : Refused) (fault : Fault) → IsRefused refusal fault → fault ≢ Done
refused_other refusal fault (inl same) done = not_done refusal (sym same ∙ done)
refused_other refusal fault (inr none) done = no_memory_left (sym none.0 ∙ done)

module _ (words : List (List ℕ)) (old : Contents) (moment : ℕ) (images : Images) where
  -- the storage is as it was
  unplanned : (told : Option (List Text)) (asked : Result Plan Refused) (fault : Fault) → IsAsked told words asked → IsOptionAnswer asked fault → fault ≢ Done → IsPlanned told words old old moment moment images images 0 fault
  unplanned told asked fault read answer other = record {
    asked = asked;
    read = read;
    options = answer;
    count = none_finished (frames_in asked) fault other;
    others = λ n c apart now. now;
    moments =
        one_stage moment moment images images (IsStage (touched asked fault 0) told (images moment)) 0
        (started moment images (IsStage (touched asked fault 0) told (images moment) 0) (λ n c left. record { whole = λ texts held. tt; beside = λ apart. left }));
  }

  refused_planned : (told : Option (List Text)) (refusal : Refused) (fault : Fault) → ((texts : List Text) → told ≡ Some texts → Reads (plan_of texts words) (Err refusal)) → IsRefused refusal fault → IsPlanned told words old old moment moment images images 0 fault
  refused_planned None refusal fault read answer = unplanned None (Err refusal) fault tt (own_answer refusal fault answer) (refused_other refusal fault answer)
  refused_planned (Some texts) refusal fault read answer = unplanned (Some texts) (plan_of texts words) fault refl (read_answer (plan_of texts words) refusal fault (read texts refl) answer) (refused_other refusal fault answer)

-- ---- the frames of a plan

asked_as_read : (told : Option (List Text)) (words : List (List ℕ)) (plan : Plan) → ((texts : List Text) → told ≡ Some texts → plan_of texts words ≡ Ok plan) → IsPlan plan → IsAsked told words (Ok plan)
asked_as_read None words plan read range = range
asked_as_read (Some texts) words plan read range = sym (read texts refl)

same_reach : (fault : Fault) (count : ℕ) → fault ≢ ShelfFault → reached_by fault count ≡ count
same_reach Done count other = refl
same_reach (OptionFault kind place) count other = refl
same_reach (SceneFault letter kind place) count other = refl
same_reach (Limit which place) count other = refl
same_reach (Absent name) count other = refl
same_reach TextFault count other = refl
same_reach ShelfFault count other = absurd (other refl)
same_reach MessageFault count other = refl
same_reach NoMemory count other = refl

summed_of_frames : (summary : List ℕ) (before now : Option (List ℕ)) (fb fn : ℕ) (fault : Fault) → IsSummed summary before now fb fn fault → IsFrameFault fault
summed_of_frames summary before now fb fn Done is = tt
summed_of_frames summary before now fb fn MessageFault is = tt
summed_of_frames summary before now fb fn NoMemory is = tt
summed_of_frames summary before now fb fn (OptionFault kind place) is = absurd is
summed_of_frames summary before now fb fn (SceneFault letter kind place) is = absurd is
summed_of_frames summary before now fb fn (Limit which place) is = absurd is
summed_of_frames summary before now fb fn (Absent name) is = absurd is
summed_of_frames summary before now fb fn TextFault is = absurd is
summed_of_frames summary before now fb fn ShelfFault is = absurd is

module _ (told : Option (List Text)) (words : List (List ℕ)) (plan : Plan) (read : (texts : List Text) → told ≡ Some texts → plan_of texts words ≡ Ok plan) (range : IsPlan plan) (old new : Contents) (moment moment' : ℕ) (images images' : Images) (n : ℕ) where
  -- these frames may have been changed
  abbrev Reached : ℕ → Type 0
  Reached count = SameBesides (take count (frames_of plan)) old new × ByStages moment moment' images images' (IsStage (take count (frames_of plan)) told (images moment))

  planned_by : (fault : Fault) → IsFrameFault fault → IsFinished (frames_of plan) fault n → Reached (reached_by fault n) → IsPlanned told words old new moment moment' images images' n fault
  planned_by fault of_frames count reached = record {
    asked = Ok plan;
    read = asked_as_read told words plan read range;
    options = of_frames;
    count = count;
    others = reached.0;
    moments = reached.1;
  }

  module _ (tb tn sb sn kb kn : ℕ) (before now : Option (List ℕ)) (end : Result ℕ Fault) (told' : Option (List Text)) (same : told' ≡ told) (course_told : IsCourse plan told' tb tn sb sn kb kn old new moment moment' images images' before now n end) where
    course : IsCourse plan told tb tn sb sn kb kn old new moment moment' images images' before now n end
    course = subst (λ t. IsCourse plan t tb tn sb sn kb kn old new moment moment' images images' before now n end) same course_told

    -- a fault ends them
    pub cut_planned : (fault : Fault) → end ≡ Err fault → IsPlanned told words old new moment moment' images images' n fault
    cut_planned fault is =
        planned_by fault (subst (λ e. IsFrameFault (fault_of e)) is course.frames) (subst (λ e. IsFinished (frames_of plan) (fault_of e) n) is course.count)
        (subst (λ e. Reached (reached_by (fault_of e) n)) is (course.others, course.moments))

    -- all are drawn, and the summary is said
    pub summed_planned : (total : ℕ) (later : Option (List ℕ)) (fn fl : ℕ) (fault : Fault) → end ≡ Ok total → IsSummed (summary_of plan.generate plan.width plan.height total) now later fn fl fault → IsPlanned told words old new moment moment' images images' n fault
    summed_planned total later fn fl fault is summed =
        let all = subst (λ e. IsFinished (frames_of plan) (fault_of e) n) is course.count in
        planned_by fault (summed_of_frames _ now later fn fl fault summed) (summed_finished plan n total now later fn fl all fault summed)
        (subst Reached (sym (same_reach fault n (summed_no_shelf _ now later fn fl fault summed)))
        (subst (λ e. Reached (reached_by (fault_of e) n)) is (course.others, course.moments)))

-- ---- behind the end

-- how a run ends is what it answers
pub answered : {S : Type 0} (told : Option (List Text)) (words : List (List ℕ)) (old : Contents) (moment : ℕ) (images : Images) (holds : S → Contents) (moment_of : S → ℕ) (images_of : S → Images) (shelf shelf' : S) (n n' : ℕ) (fault fault' : Fault) → shelf' ≡ shelf → n' ≡ n → fault' ≡ fault
    → IsPlanned told words old (holds shelf) moment (moment_of shelf) images (images_of shelf) n fault → IsPlanned told words old (holds shelf') moment (moment_of shelf') images (images_of shelf') n' fault'
answered told words old moment images holds moment_of images_of shelf shelf' n n' fault fault' same same_count same_fault planned =
    subst (λ s. IsPlanned told words old (holds s) moment (moment_of s) images (images_of s) n' fault') (sym same)
    (subst (λ k. IsPlanned told words old (holds shelf) moment (moment_of shelf) images (images_of shelf) k fault') (sym same_count)
    (subst (λ f. IsPlanned told words old (holds shelf) moment (moment_of shelf) images (images_of shelf) n f) (sym same_fault) planned))

-- refused options, as they are reported
pub refusal_planned : (told : Option (List Text)) (words : List (List ℕ)) (old : Contents) (moment : ℕ) (images : Images) (refusal : Refused) (ending : Ending) (fault reported : Fault) → ((texts : List Text) → told ≡ Some texts → Reads (plan_of texts words) (Err refusal)) → fault ≡ option_fault refusal → ending ≡ record { fault = fault; report = None }
    → (reported ≡ ending.fault) ⊎ ((reported ≡ NoMemory) × IsPlaced ending.fault) → IsPlanned told words old old moment moment images images 0 reported
refusal_planned told words old moment images refusal ending fault reported read is_fault is answer =
    let whole : ending ≡ record { fault = option_fault refusal; report = None } = is ∙ ap (λ f. record { fault = f; report = None }) is_fault in
    refused_planned words old moment images told refusal reported read (subst (λ (x : Ending). (reported ≡ x.fault) ⊎ ((reported ≡ NoMemory) × IsPlaced x.fault)) whole answer)
