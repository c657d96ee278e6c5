-- Frames one after another: what the first so many leave, and where the run ends.
use Rattle.std.specs.Prelude.{if◌then◌else◌}
use Rattle.std.proofs.Common.{◌≡◌, ◌≢◌, Bool, true, false, ℕ, zero, suc, ◌+◌, ◌-◌, ◌<◌, ◌≤◌, ⊎_elim, List, [], ◌++◌, length, take, Option, Some, Ok, Err, refl, sym, ap, ◌∙◌, subst, arith, add-one}
use Rattle.std.proofs.lemmas.Bool.{cases_lt}
use Rattle.std.proofs.lemmas.List.{append-nil, append_assoc}
use Rattle.shelf.specs.Disk.{Contents, Images, SameOthers, Tells}
use Rattle.shelf.specs.Moments.{ByStages}
use Rattle.shelf.specs.Stream.{with_bytes}
use Rattle.directive_machine.specs.declared.texts.Text.{Text}
use Rattle.directive_machine.specs.Expansions.{Handed}
use Rattle.options.specs.declared.plan.Plan.{Plan}
use Rattle.options.specs.Frames.{picture_name, IsFrame}
use Rattle.options.specs.Plans.{IsPlan}
use Rattle.povfix.specs.declared.outcome.Fault.{Fault}
use Rattle.povfix.specs.declared.outcome.Fault.TheVariants.{Done, OptionFault, SceneFault, Limit, Absent, TextFault, ShelfFault, MessageFault, NoMemory}
use Rattle.povfix.specs.Frames.{Frame, frame_of, frames_from, frames_of, is_summed, reached_by, AreStored, IsBeside, IsExpanded, IsFinished, IsStored, SameBesides}
use Rattle.povfix.specs.Lines.{summary_of, Says}
use Rattle.povfix.specs.Moments.{IsStage, OthersStay}
use Rattle.povfix.specs.Said.{Begins, IsFrameSaid, IsSaid, NextBegins, no_memory_line, shelf_fault_line, text_fault_line}
use Rattle.povfix.specs.Steps.{IsCourse, IsDone, IsEnd, IsEnding}
use Rattle.povfix.specs.Verdict.{AreDrawn, FrameVerdict, FramesVerdict, IsFrameFault, IsVerdict, NextSays, Verdict, behind, done, with_summary}
use Rattle.povfix.proofs.Stages.{as_stages, from_next, from_start, next_stages, no_stage, same_stages, AreApart, StageAt}
use Rattle.povfix.proofs.Stays.{others_now}
use Rattle.povfix.proofs.Saying.{less_at, rose_from, says_behind, says_same, with_both, with_nothing}

-- ---- frames by their places

pub length_frames : (plan : Plan) (n count : ℕ) → length (frames_from plan n count) ≡ count
unfolding frames_from
length_frames plan n zero = refl
length_frames plan n (suc count) = ap suc (length_frames plan (n + 1) count)

stored_front : (plan : Plan) (texts : List Text) (holds : Contents) (n k count : ℕ) → k ≤ count → ((i : ℕ) → i < k → IsStored (frame_of plan (n + i)) texts holds) → AreStored (take k (frames_from plan n count)) texts holds
unfolding frames_from
stored_front plan texts holds n zero count le all = tt
stored_front plan texts holds n (suc k) zero le all = absurd (omega (arith, le))
stored_front plan texts holds n (suc k) (suc count) le all = (
  subst (λ m. IsStored (frame_of plan m) texts holds) (from_start n) (all 0 (omega arith)),
  stored_front plan texts holds (n + 1) k count (omega (arith, le))
      (λ i lt. subst (λ m. IsStored (frame_of plan m) texts holds) (from_next n i) (all (suc i) (omega (arith, lt)))),
)

beside_front : (plan : Plan) (name : List ℕ) (n k count : ℕ) → k ≤ count → IsBeside (take k (frames_from plan n count)) name → (i : ℕ) → i < k → name ≢ picture_name plan (n + i)
unfolding frames_from
beside_front plan name n zero count le beside i lt = absurd (omega (arith, lt))
beside_front plan name n (suc k) zero le beside i lt = absurd (omega (arith, le))
beside_front plan name n (suc k) (suc count) le beside zero lt = subst (λ m. name ≢ picture_name plan m) (sym (from_start n)) beside.0
beside_front plan name n (suc k) (suc count) le beside (suc i) lt = subst (λ m. name ≢ picture_name plan m) (sym (from_next n i)) (beside_front plan name (n + 1) k count (omega (arith, le)) beside.1 i (omega (arith, lt)))

-- ---- what frames come to, one after another

two_steps : (n k : ℕ) → n + 1 + k ≡ n + suc k
two_steps n k = omega arith

-- so many frames from this number on are drawn, with these messages and this sum
abbrev pub DrawnFrom : Plan → List Text → ℕ → ℕ → List ℕ → ℕ → Type 0
DrawnFrom plan texts n k messages total = AreDrawn (frames_from plan n k) texts k messages total

first_sum : (total own : ℕ) → total ≡ 0 → total + own ≡ own + 0
first_sum total own none = omega (arith, none)

next_sum : (total first rest own : ℕ) → total ≡ first + rest → total + own ≡ first + (rest + own)
next_sum total first rest own is = omega (arith, is)

drawn_more : (plan : Plan) (texts : List Text) (n k : ℕ) (messages last : List ℕ) (total own : ℕ) → DrawnFrom plan texts n k messages total → FrameVerdict (frame_of plan (n + k)) texts (done last own) → DrawnFrom plan texts n (suc k) (messages ++ last) (total + own)
unfolding frames_from
drawn_more plan texts n zero messages last total own drawn comes =
    (last, own, [], 0, subst (λ m. FrameVerdict (frame_of plan m) texts (done last own)) (from_start n) comes, (refl, refl), ap (λ m. m ++ last) drawn.0 ∙ sym (append-nil last), first_sum total own drawn.1)
drawn_more plan texts n (suc k) messages last total own drawn comes = (
  drawn.0,
  drawn.1,
  drawn.2 ++ last,
  drawn.3 + own,
  drawn.4,
  drawn_more plan texts (n + 1) k drawn.2 last drawn.3 own drawn.5 (subst (λ m. FrameVerdict (frame_of plan m) texts (done last own)) (sym (two_steps n k)) comes),
  ap (λ m. m ++ last) drawn.6 ∙ append_assoc drawn.0 drawn.2 last,
  next_sum total drawn.1 drawn.3 own drawn.7,
)

drawn_front : (plan : Plan) (texts : List Text) (n k count : ℕ) (messages : List ℕ) (total : ℕ) → k ≤ count → DrawnFrom plan texts n k messages total → AreDrawn (frames_from plan n count) texts k messages total
unfolding frames_from
drawn_front plan texts n zero count messages total le drawn = drawn
drawn_front plan texts n (suc k) zero messages total le drawn = absurd (omega (arith, le))
drawn_front plan texts n (suc k) (suc count) messages total le drawn = (drawn.0, drawn.1, drawn.2, drawn.3, drawn.4, drawn_front plan texts (n + 1) k count drawn.2 drawn.3 (omega (arith, le)) drawn.5, drawn.6, drawn.7)

-- nothing before a verdict leaves it as it is
behind_nothing : (messages : List ℕ) (total : ℕ) (v : Verdict) → messages ≡ [] → total ≡ 0 → behind messages total v ≡ v
behind_nothing messages total v none no_sum =
    ap (λ m. behind m total v) none ∙ ap (λ t. record { fault = v.fault; messages = v.messages; total = t; line = v.line }) (same total v.total no_sum)
  where
    same : (a b : ℕ) → a ≡ 0 → a + b ≡ b
    same a b is = omega (arith, is)

behind_both : (front rest : List ℕ) (a b : ℕ) (v : Verdict) → behind (front ++ rest) (a + b) v ≡ behind front a (behind rest b v)
behind_both front rest a b v =
    ap (λ m. record { fault = v.fault; messages = m; total = a + b + v.total; line = v.line }) (append_assoc front rest v.messages)
    ∙ ap (λ t. record { fault = v.fault; messages = front ++ (rest ++ v.messages); total = t; line = v.line }) (regrouped a b v.total)
  where
    regrouped : (a b c : ℕ) → a + b + c ≡ a + (b + c)
    regrouped a b c = omega arith

behind_same : (m m' : List ℕ) (t t' : ℕ) (v : Verdict) → m ≡ m' → t ≡ t' → behind m t v ≡ behind m' t' v
behind_same m m' t t' v same same_sum = ap (λ n. behind n t v) same ∙ ap (λ n. behind m' n v) same_sum

pub done_same : (m m' : List ℕ) (t t' : ℕ) → m ≡ m' → t ≡ t' → done m t ≡ done m' t'
done_same m m' t t' same same_sum = ap (λ n. done n t) same ∙ ap (done m') same_sum

verdict_at : (plan : Plan) (texts : List Text) (verdict : Verdict) (n k count : ℕ) (messages : List ℕ) (total : ℕ) → k < count → DrawnFrom plan texts n k messages total → FrameVerdict (frame_of plan (n + k)) texts verdict → verdict.fault ≢ Done → FramesVerdict (frames_from plan n count) texts k (behind messages total verdict)
unfolding frames_from
verdict_at plan texts verdict n zero zero messages total lt drawn comes other = absurd (omega (arith, lt))
verdict_at plan texts verdict n (suc k) zero messages total lt drawn comes other = absurd (omega (arith, lt))
verdict_at plan texts verdict n zero (suc count) messages total lt drawn comes other =
    subst (λ v. FrameVerdict (frame_of plan n) texts v × (v.fault ≢ Done)) (sym (behind_nothing messages total verdict drawn.0 drawn.1))
    (subst (λ m. FrameVerdict (frame_of plan m) texts verdict) (from_start n) comes, other)
verdict_at plan texts verdict n (suc k) (suc count) messages total lt drawn comes other = (
  drawn.0,
  drawn.1,
  behind drawn.2 drawn.3 verdict,
  drawn.4,
  verdict_at plan texts verdict (n + 1) k count drawn.2 drawn.3 (omega (arith, lt)) drawn.5 (subst (λ m. FrameVerdict (frame_of plan m) texts verdict) (sym (two_steps n k)) comes) other,
  behind_same messages (drawn.0 ++ drawn.2) total (drawn.1 + drawn.3) verdict drawn.6 drawn.7 ∙ behind_both drawn.0 drawn.2 drawn.1 drawn.3 verdict,
)

next_at : (plan : Plan) (texts : List Text) (n k count : ℕ) (summary : List ℕ) (found : Handed) → k < count → IsExpanded (frame_of plan (n + k)) texts found → NextSays (frames_from plan n count) texts k summary found.messages
unfolding frames_from
next_at plan texts n zero zero summary found lt expanded = absurd (omega (arith, lt))
next_at plan texts n (suc k) zero summary found lt expanded = absurd (omega (arith, lt))
next_at plan texts n zero (suc count) summary found lt expanded = (found, subst (λ m. IsExpanded (frame_of plan m) texts found) (from_start n) expanded, refl)
next_at plan texts n (suc k) (suc count) summary found lt expanded = next_at plan texts (n + 1) k count summary found (omega (arith, lt)) (subst (λ m. IsExpanded (frame_of plan m) texts found) (sym (two_steps n k)) expanded)

next_begins_at : (plan : Plan) (texts : List Text) (n k count : ℕ) (part : List ℕ) → k < count → Begins (frame_of plan (n + k)) texts part → NextBegins (frames_from plan n count) texts k part
unfolding frames_from
next_begins_at plan texts n zero zero part lt begun = absurd (omega (arith, lt))
next_begins_at plan texts n (suc k) zero part lt begun = absurd (omega (arith, lt))
next_begins_at plan texts n zero (suc count) part lt begun = subst (λ m. Begins (frame_of plan m) texts part) (from_start n) begun
next_begins_at plan texts n (suc k) (suc count) part lt begun = next_begins_at plan texts (n + 1) k count part (omega (arith, lt)) (subst (λ m. Begins (frame_of plan m) texts part) (sym (two_steps n k)) begun)

-- what holds of the first so many and of the next one holds of one more
one_more : (P : ℕ → Type 0) (k : ℕ) → ((i : ℕ) → i < k → P i) → P k → (i : ℕ) → i < k + 1 → P i
one_more P k all here i lt = ⊎_elim (λ (low : i < k). all i low) (λ (high : k ≤ i). (let same : k ≡ i = omega (arith, high, lt) in subst P same here)) (cases_lt i k)

-- ---- faults by cases

reached_cases : (P : ℕ → Type 0) (fault : Fault) (k : ℕ) → (fault ≡ ShelfFault → P (k + 1)) → (fault ≢ ShelfFault → P k) → P (reached_by fault k)
reached_cases P Done k failed other = other (λ e. cc)
reached_cases P (OptionFault kind place) k failed other = other (λ e. cc)
reached_cases P (SceneFault letter kind place) k failed other = other (λ e. cc)
reached_cases P (Limit which place) k failed other = other (λ e. cc)
reached_cases P (Absent name) k failed other = other (λ e. cc)
reached_cases P TextFault k failed other = other (λ e. cc)
reached_cases P ShelfFault k failed other = failed refl
reached_cases P MessageFault k failed other = other (λ e. cc)
reached_cases P NoMemory k failed other = other (λ e. cc)

fewer : (frames : List Frame) (k : ℕ) (summed : Bool) → k ≤ length frames - 1 → k ≤ (if summed then length frames else length frames - 1)
fewer frames k true le = omega (arith, le)
fewer frames k false le = le

unfinished : (frames : List Frame) (fault : Fault) (k : ℕ) → IsEnding fault → k ≤ length frames - 1 → IsFinished frames fault k
unfinished frames Done k ending le = absurd ending
unfinished frames (OptionFault kind place) k ending le = le
unfinished frames (SceneFault letter kind place) k ending le = le
unfinished frames (Limit which place) k ending le = le
unfinished frames (Absent name) k ending le = le
unfinished frames TextFault k ending le = le
unfinished frames ShelfFault k ending le = le
unfinished frames MessageFault k ending le = fewer frames k (is_summed frames) le
unfinished frames NoMemory k ending le = fewer frames k (is_summed frames) le

of_frames : (fault : Fault) → IsEnding fault → IsFrameFault fault
of_frames Done ending = tt
of_frames (OptionFault kind place) ending = absurd ending
of_frames (SceneFault letter kind place) ending = tt
of_frames (Limit which place) ending = tt
of_frames (Absent name) ending = tt
of_frames TextFault ending = tt
of_frames ShelfFault ending = tt
of_frames MessageFault ending = tt
of_frames NoMemory ending = tt

-- a verdict with a fault has no summary
unsummed : (plan : Plan) (fault : Fault) (v : Verdict) → fault ≢ Done → v ≡ with_summary plan fault v
unsummed plan Done v other = absurd (other refl)
unsummed plan (OptionFault kind place) v other = refl
unsummed plan (SceneFault letter kind place) v other = refl
unsummed plan (Limit which place) v other = refl
unsummed plan (Absent name) v other = refl
unsummed plan TextFault v other = refl
unsummed plan ShelfFault v other = refl
unsummed plan MessageFault v other = refl
unsummed plan NoMemory v other = refl

module _ (plan : Plan) (texts : List Text) (before mid now : Option (List ℕ)) (fb fm fn : ℕ) (k : ℕ) (messages : List ℕ) (total : ℕ) (lt : k < plan.to - plan.from + 1) (drawn : DrawnFrom plan texts plan.from k messages total) (is : mid ≡ with_bytes before messages) (later : fb ≤ fm) where
  front : AreDrawn (frames_of plan) texts k messages total
  front = drawn_front plan texts plan.from k (plan.to - plan.from + 1) messages total (omega (arith, lt)) drawn

  follows : (rest : List ℕ) → Says mid now fm fn rest → Says before now fb fn (messages ++ rest)
  follows rest says = says_behind before mid now fb fm fn messages rest is later says

  next_begins : (part : List ℕ) → Begins (frame_of plan (plan.from + k)) texts part → NextBegins (frames_of plan) texts k part
  next_begins part begun = next_begins_at plan texts plan.from k (plan.to - plan.from + 1) part lt begun

  verdict_said : (fault : Fault) → fault ≢ Done → (said : (verdict : Verdict) × FrameVerdict (frame_of plan (plan.from + k)) texts verdict × (fault ≡ verdict.fault) × Says mid now fm fn (verdict.messages ++ verdict.line)) → (verdict : Verdict) × IsVerdict (Ok plan) texts k verdict × (fault ≡ verdict.fault) × Says before now fb fn (verdict.messages ++ verdict.line)
  verdict_said fault other said = (
    behind messages total said.0,
    (behind messages total said.0, verdict_at plan texts said.0 plan.from k (plan.to - plan.from + 1) messages total lt drawn said.1 (λ e. other (said.2 ∙ e)), unsummed plan said.0.fault (behind messages total said.0) (λ e. other (said.2 ∙ e))),
    said.2,
    says_same before now fb fn (messages ++ (said.0.messages ++ said.0.line)) ((messages ++ said.0.messages) ++ said.0.line) (sym (append_assoc messages said.0.messages said.0.line)) (follows (said.0.messages ++ said.0.line) said.3),
  )

  pub said_at : (fault : Fault) → IsFrameSaid (frame_of plan (plan.from + k)) texts fault mid now fm fn → IsSaid (Ok plan) texts k fault before now fb fn
  said_at Done said = absurd said
  said_at (OptionFault kind place) said = absurd said
  said_at (SceneFault letter kind place) said = verdict_said (SceneFault letter kind place) (λ e. cc) said
  said_at (Limit which place) said = verdict_said (Limit which place) (λ e. cc) said
  said_at (Absent name) said = verdict_said (Absent name) (λ e. cc) said
  said_at TextFault said = (messages, total, said.0, front, next_begins said.0 said.1, follows (said.0 ++ text_fault_line) said.2)
  said_at NoMemory said = (messages, total, said.0, front, next_begins said.0 said.1, follows (said.0 ++ no_memory_line) said.2)
  said_at ShelfFault said = (
    messages ++ said.0,
    total + said.1,
    subst (λ n. AreDrawn (frames_of plan) texts n (messages ++ said.0) (total + said.1)) (one_further k)
        (drawn_front plan texts plan.from (suc k) (plan.to - plan.from + 1) (messages ++ said.0) (total + said.1) (omega (arith, lt)) (drawn_more plan texts plan.from k messages said.0 total said.1 drawn said.2)),
    says_same before now fb fn (messages ++ (said.0 ++ shelf_fault_line)) ((messages ++ said.0) ++ shelf_fault_line) (sym (append_assoc messages said.0 shelf_fault_line)) (follows (said.0 ++ shelf_fault_line) said.3),
  )
    where
      one_further : (k : ℕ) → suc k ≡ k + 1
      one_further k = omega arith
  said_at MessageFault said = (
    messages,
    total,
    said.0.messages,
    front,
    next_at plan texts plan.from k (plan.to - plan.from + 1) (summary_of plan.generate plan.width plan.height total) said.0 lt said.1,
    less_at mid (with_bytes before messages) now said.0.messages is said.2,
  )

-- ---- what the first so many frames leave

pub record IsSoFar (plan : Plan) (told : Option (List Text)) (texts_before texts_now shelf_before shelf_now sink_before sink_now : ℕ) (old new : Contents) (moment moment' : ℕ) (images images' : Images) (before now : Option (List ℕ)) (k total : ℕ) : Type 0 where
  pub stored : (texts : List Text) → told ≡ Some texts → (i : ℕ) → i < k → IsStored (frame_of plan (plan.from + i)) texts new
  pub durable : (texts : List Text) → told ≡ Some texts → (i : ℕ) → i < k → IsStored (frame_of plan (plan.from + i)) texts (images' moment')
  pub said : (texts : List Text) → told ≡ Some texts → (messages : List ℕ) × DrawnFrom plan texts plan.from k messages total × (now ≡ with_bytes before messages)
  pub others : (n c : List ℕ) → ((i : ℕ) → i < k → n ≢ picture_name plan (plan.from + i)) → new n c → old n c
  pub moments : ByStages moment moment' images images' (StageAt plan told (images moment) k)
  pub tells : Tells old new
  pub texts_later : texts_before ≤ texts_now
  pub shelf_later : shelf_before ≤ shelf_now
  pub sink_later : sink_before ≤ sink_now

pub are_apart : (plan : Plan) → IsPlan plan → ((frame other : ℕ) → IsFrame plan frame → IsFrame plan other → picture_name plan frame ≡ picture_name plan other → frame ≡ other) → AreApart plan
unfolding AreApart
are_apart plan fits law i j low high same =
    let sum = law (plan.from + i) (plan.from + j) (omega arith, omega (arith, low, fits.row)) (omega arith, omega (arith, high, fits.row)) same in
    omega (arith, sum)

pub start : (plan : Plan) (told : Option (List Text)) (texts shelf sink : ℕ) (holds : Contents) (moment : ℕ) (images : Images) (written : Option (List ℕ)) → IsSoFar plan told texts texts shelf shelf sink sink holds holds moment moment images images written written 0 0
start plan told texts shelf sink holds moment images written = record {
  stored = λ texts held i lt. absurd (omega (arith, lt));
  durable = λ texts held i lt. absurd (omega (arith, lt));
  said = λ texts held. ([], (refl, refl), with_nothing written);
  others = λ n c beside now. now;
  moments = no_stage plan told moment images;
  tells = λ n c held. (c, held);
  texts_later = omega arith;
  shelf_later = omega arith;
  sink_later = omega arith;
}

-- the files of earlier frames stay
still : (plan : Plan) (texts : List Text) (k : ℕ) (mid new : Contents) → AreApart plan → k < plan.to - plan.from + 1 → SameOthers (picture_name plan (plan.from + k)) mid new → ((i : ℕ) → i < k → IsStored (frame_of plan (plan.from + i)) texts mid) → (i : ℕ) → i < k → IsStored (frame_of plan (plan.from + i)) texts new
unfolding AreApart
still plan texts k mid new apart lt others stored i less = λ c held.
    stored i less c (others (picture_name plan (plan.from + i)) c (λ same. absurd (omega (arith, less, apart i k (omega (arith, less, lt)) lt same))) held)

module _ (plan : Plan) (told : Option (List Text)) (tb tm tn sb sm sn kb km kn : ℕ) (old mid new : Contents) (m m' m'' : ℕ) (images images' images'' : Images) (before said now : Option (List ℕ)) (k total : ℕ) (apart : AreApart plan) (lt : k < plan.to - plan.from + 1) (so_far : IsSoFar plan told tb tm sb sm kb km old mid m m' images images' before said k total) (others : SameOthers (picture_name plan (plan.from + k)) mid new) (crash_others : OthersStay (picture_name plan (plan.from + k)) m' m'' images' images'') (tells : Tells mid new) where
  beside : (n c : List ℕ) → ((i : ℕ) → i < k + 1 → n ≢ picture_name plan (plan.from + i)) → new n c → old n c
  beside n c apart_all now = so_far.others n c (λ i less. apart_all i (omega (arith, less))) (others n c (apart_all k (omega arith)) now)

  -- the files of earlier frames stay through a crash
  still_durable : (texts : List Text) → told ≡ Some texts → (i : ℕ) → i < k → IsStored (frame_of plan (plan.from + i)) texts (images'' m'')
  still_durable texts held = still plan texts k (images' m') (images'' m'') apart lt (others_now (picture_name plan (plan.from + k)) m' m'' images' images'' crash_others) (so_far.durable texts held)

  one_more_stored : ByStages m m'' images images'' (StageAt plan told (images m) (k + 1))
  one_more_stored = next_stages plan told m m' m'' images images' images'' k so_far.moments apart lt so_far.durable crash_others

  tells_all : Tells old new
  tells_all n c held = tells n (so_far.tells n c held).0 (so_far.tells n c held).1

  said_more : (told_then : Option (List Text)) (own : ℕ) → told_then ≡ told → IsDone (frame_of plan (plan.from + k)) told_then said now own → (texts : List Text) → told ≡ Some texts → (messages : List ℕ) × DrawnFrom plan texts plan.from (k + 1) messages (total + own) × (now ≡ with_bytes before messages)
  said_more told_then own same here texts held =
      let front = so_far.said texts held in
      let more = here.said texts (same ∙ held) in (
        front.0 ++ more.0,
        subst (λ n. DrawnFrom plan texts plan.from n (front.0 ++ more.0) (total + own)) (sym (add-one k)) (drawn_more plan texts plan.from k front.0 more.0 total own front.1 more.1),
        more.2 ∙ ap (λ w. with_bytes w more.0) front.2 ∙ with_both before front.0 more.0,
      )

  pub step : ((texts : List Text) → told ≡ Some texts → IsStored (frame_of plan (plan.from + k)) texts new) → ((texts : List Text) → told ≡ Some texts → IsStored (frame_of plan (plan.from + k)) texts (images'' m'')) → (told_then : Option (List Text)) (own : ℕ) → told_then ≡ told → IsDone (frame_of plan (plan.from + k)) told_then said now own → tm ≤ tn → sm ≤ sn → km ≤ kn → IsSoFar plan told tb tn sb sn kb kn old new m m'' images images'' before now (k + 1) (total + own)
  step stored durable told_then own same here texts_later shelf_later sink_later = record {
    stored = λ texts held. one_more (λ i. IsStored (frame_of plan (plan.from + i)) texts new) k (still plan texts k mid new apart lt others (so_far.stored texts held)) (stored texts held);
    durable = λ texts held. one_more (λ i. IsStored (frame_of plan (plan.from + i)) texts (images'' m'')) k (still_durable texts held) (durable texts held);
    said = said_more told_then own same here;
    others = beside;
    moments = one_more_stored;
    tells = tells_all;
    texts_later = omega (arith, so_far.texts_later, texts_later);
    shelf_later = omega (arith, so_far.shelf_later, shelf_later);
    sink_later = omega (arith, so_far.sink_later, sink_later);
  }

  pub stops : (fault : Fault) (told_then : Option (List Text)) → told_then ≡ told → km ≤ kn → IsEnd (frame_of plan (plan.from + k)) told_then tm tn sm sn km kn mid new m' m'' images' images'' said now fault → IsCourse plan told tb tn sb sn kb kn old new m m'' images images'' before now k (Err fault)
  stops fault told_then same sink_later end = record {
    frames = of_frames fault end.ending;
    count = unfinished (frames_of plan) fault k end.ending (subst (λ n. k ≤ n - 1) (sym (length_frames plan plan.from (plan.to - plan.from + 1))) (omega (arith, lt)));
    stored = λ texts held. stored_front plan texts new plan.from k (plan.to - plan.from + 1) (omega (arith, lt)) (still plan texts k mid new apart lt others (so_far.stored texts held));
    durable = λ texts held. stored_front plan texts (images'' m'') plan.from k (plan.to - plan.from + 1) (omega (arith, lt)) (still_durable texts held);
    said = λ texts held. let front = so_far.said texts held in said_at plan texts before said now kb km kn k front.0 total lt front.1 front.2 so_far.sink_later fault (end.said texts (same ∙ held));
    sink_later = omega (arith, so_far.sink_later, sink_later);
    text_fault = λ e. rose_from tb tm tn so_far.texts_later (end.text_fault e);
    shelf_fault = λ e. rose_from sb sm sn so_far.shelf_later (end.shelf_fault e);
    message_fault = λ e. rose_from kb km kn so_far.sink_later (end.message_fault e);
    others = reached_cases (λ n. SameBesides (take n (frames_of plan)) old new) fault k
        (λ e. λ n c apart_all now. beside n c (beside_front plan n plan.from (k + 1) (plan.to - plan.from + 1) (omega (arith, lt)) apart_all) now)
        (λ e. λ n c apart_all now. so_far.others n c (beside_front plan n plan.from k (plan.to - plan.from + 1) (omega (arith, lt)) apart_all) (end.kept e n c now));
    moments = reached_cases (λ n. ByStages m m'' images images'' (IsStage (take n (frames_of plan)) told (images m))) fault k
        (λ e. as_stages plan told m m'' images images'' (k + 1) (omega (arith, lt)) one_more_stored)
        (λ e. as_stages plan told m m'' images images'' k (omega (arith, lt)) (same_stages plan told m m' m'' images images' images'' k so_far.moments (end.crash_kept e)));
    tells = tells_all;
  }

-- all frames are finished
ends : (plan : Plan) (told : Option (List Text)) (tb tn sb sn kb kn : ℕ) (old new : Contents) (m m' : ℕ) (images images' : Images) (before now : Option (List ℕ)) (total : ℕ) → IsSoFar plan told tb tn sb sn kb kn old new m m' images images' before now (plan.to - plan.from + 1) total → IsCourse plan told tb tn sb sn kb kn old new m m' images images' before now (plan.to - plan.from + 1) (Ok total)
ends plan told tb tn sb sn kb kn old new m m' images images' before now total so_far = record {
  frames = tt;
  count = sym (length_frames plan plan.from (plan.to - plan.from + 1));
  stored = λ texts held. stored_front plan texts new plan.from (plan.to - plan.from + 1) (plan.to - plan.from + 1) (omega arith) (so_far.stored texts held);
  durable = λ texts held. stored_front plan texts (images' m') plan.from (plan.to - plan.from + 1) (plan.to - plan.from + 1) (omega arith) (so_far.durable texts held);
  said = so_far.said;
  text_fault = λ e. cc;
  shelf_fault = λ e. cc;
  message_fault = λ e. cc;
  sink_later = so_far.sink_later;
  others = λ n c apart_all now. so_far.others n c (beside_front plan n plan.from (plan.to - plan.from + 1) (plan.to - plan.from + 1) (omega arith) apart_all) now;
  moments = as_stages plan told m m' images images' (plan.to - plan.from + 1) (omega arith) so_far.moments;
  tells = so_far.tells;
}

pub ends_at : (plan : Plan) (told : Option (List Text)) (tb tn sb sn kb kn : ℕ) (old new : Contents) (m m' : ℕ) (images images' : Images) (before now : Option (List ℕ)) (k total : ℕ) → IsSoFar plan told tb tn sb sn kb kn old new m m' images images' before now k total → k ≡ plan.to - plan.from + 1 → IsCourse plan told tb tn sb sn kb kn old new m m' images images' before now (plan.to - plan.from + 1) (Ok total)
ends_at plan told tb tn sb sn kb kn old new m m' images images' before now k total so_far same =
    ends plan told tb tn sb sn kb kn old new m m' images images' before now total (subst (λ n. IsSoFar plan told tb tn sb sn kb kn old new m m' images images' before now n total) same so_far)
