-- What the frames that are left still come to.
use Rattle.std.proofs.lemmas.List.{reverse-append}
use Rattle.std.proofs.Common.{reverse, take, ◌-◌, ℕ, ◌≡◌, ◌<◌, ◌≤◌, subst, sym, ap, ◌∙◌, refl, Bool, true, false, MatchBool, List, [], ◌∷◌, ◌++◌, Ok, Err, arith}
use Rattle.std.specs.List.{sum_by}
use Rattle.scene_expr.specs.Then.{IsThen}
use Rattle.directive_machine.specs.Weights.{weight}
use Rattle.directive_machine.specs.declared.part.Part.{Part}
use Rattle.directive_machine.specs.declared.part.Frame.{Frame}
use Rattle.directive_machine.specs.Moves.{Action}
use Rattle.directive_machine.specs.Moves.{Next}
use Rattle.directive_machine.specs.State.{State, Stopped, begun}
use Rattle.directive_machine.specs.Course.{Given, Course, Halted, Outcome, After, course, halted_by, after, came}
use Rattle.directive_machine.specs.Ways.{begun_at, IsSettled}
use Rattle.directive_machine.specs.Expands.{Runs, Expands}

abbrev pub frame_weight : Frame → ℕ
frame_weight f = weight f.part.then

abbrev pub frame_weights : List Frame → ℕ
frame_weights frames = sum_by frame_weight frames

-- what follows from the end of a part's run
pub data Follows (g : Given) (part : Part) (a : After) : Outcome → Type 0 where
  refused : (f : Halted) → IsSettled g part a (Err f) → Follows g part a (Err f)
  done : (broken : Bool) (w : Course) → IsSettled g part a (Ok (came (Next.Done broken) w)) → Follows g part a (Ok (after w broken))
  further : (next : Part) (w : Course) (r : Outcome) → IsSettled g part a (Ok (came (Next.Further next) w)) → Expands g next next.at w r → Follows g part a r

-- a frame goes on with its run, or gives up
abbrev pub GoesOn : Given → Frame → After → Outcome → Type 0
GoesOn g frame a r = MatchBool a.broken (Follows g frame.part a r) (Expands g frame.part frame.at a.course r)

-- the frames, the innermost first
abbrev pub Left : Given → List Frame → After → Outcome → Type 0
Left g [] a r = r ≡ Ok a
Left g (frame ∷ frames) a r = IsThen After After Halted (GoesOn g frame a) (Left g frames) r

abbrev pub frame : Part → ℕ → Frame
frame part at = record { part = part; at = at }

pub follows : (g : Given) (part : Part) (at : ℕ) (w : Course) (a : After) (r : Outcome) → Runs g part at w (Ok a) → Follows g part a r → Expands g part at w r
follows g part at w a r run (Follows.refused f is) = Expands.refused part at w a f run is
follows g part at w a r run (Follows.done broken w' is) = Expands.done part at w a broken w' run is
follows g part at w a r run (Follows.further next w' _ is rest) = Expands.further part next at w a w' r run is rest

-- what a run from further on comes to, the part comes to
pub further_on : (g : Given) (part : Part) (at at' : ℕ) (w w' : Course) (r : Outcome) → ((o : Outcome) → Runs g part at' w' o → Runs g part at w o) → Expands g part at' w' r → Expands g part at w r
further_on g part at at' w w' r on (Expands.run_fault _ _ _ f run) = Expands.run_fault part at w f (on (Err f) run)
further_on g part at at' w w' r on (Expands.refused _ _ _ a f run is) = Expands.refused part at w a f (on (Ok a) run) is
further_on g part at at' w w' r on (Expands.done _ _ _ a broken w'' run is) = Expands.done part at w a broken w'' (on (Ok a) run) is
further_on g part at at' w w' r on (Expands.further _ next _ _ a w'' _ run is rest) = Expands.further part next at w a w'' r (on (Ok a) run) is rest

-- a frame whose run is over
pub over : (g : Given) (part : Part) (at : ℕ) (w : Course) (broken : Bool) (r : Outcome) → (broken ≡ false → part.end ≤ at) → Follows g part (after w broken) r → GoesOn g (frame part at) (after w broken) r
over g part at w true r ends is = is
over g part at w false r ends is = follows g part at w (after w false) r (Runs.ends part at w (ends refl)) is

pub left_refused : (g : Given) (part : Part) (at : ℕ) (frames : List Frame) (w : Course) (broken : Bool) (f : Halted) → (broken ≡ false → part.end ≤ at) → IsSettled g part (after w broken) (Err f) → Left g (frame part at ∷ frames) (after w broken) (Err f)
left_refused g part at frames w broken f ends is = IsThen.fault f (over g part at w broken (Err f) ends (Follows.refused f is))

left_over : (g : Given) (part : Part) (at : ℕ) (frames : List Frame) (w w' : Course) (broken given_up : Bool) (r : Outcome) → (broken ≡ false → part.end ≤ at) → IsSettled g part (after w broken) (Ok (came (Next.Done given_up) w')) → Left g frames (after w' given_up) r → Left g (frame part at ∷ frames) (after w broken) r
left_over g part at frames w w' broken given_up r ends is rest =
    IsThen.found (after w' given_up) r (over g part at w broken (Ok (after w' given_up)) ends (Follows.done given_up w' is)) rest

pub left_done : (g : Given) (part : Part) (at : ℕ) (frames : List Frame) (w w' : Course) (broken given_up : Bool) (next' : Next) (r : Outcome) → (broken ≡ false → part.end ≤ at) → next' ≡ Next.Done given_up → IsSettled g part (after w broken) (Ok (came next' w')) → Left g frames (after w' given_up) r → Left g (frame part at ∷ frames) (after w broken) r
left_done g part at frames w w' broken given_up next' r ends same was rest = left_over g part at frames w w' broken given_up r ends (subst (λ n. IsSettled g part (after w broken) (Ok (came n w'))) same was) rest

left_next : (g : Given) (part next : Part) (at : ℕ) (frames : List Frame) (w w' : Course) (broken : Bool) (r : Outcome) → (broken ≡ false → part.end ≤ at) → IsSettled g part (after w broken) (Ok (came (Next.Further next) w')) → Left g (frame next next.at ∷ frames) (after w' false) r → Left g (frame part at ∷ frames) (after w broken) r
left_next g part next at frames w w' broken r ends is (IsThen.fault f rest) = IsThen.fault f (over g part at w broken (Err f) ends (Follows.further next w' (Err f) is rest))
left_next g part next at frames w w' broken r ends is (IsThen.found a _ rest more) = IsThen.found a r (over g part at w broken (Ok a) ends (Follows.further next w' (Ok a) is rest)) more

pub left_further : (g : Given) (part next : Part) (at : ℕ) (frames : List Frame) (w w' : Course) (broken : Bool) (next' : Next) (r : Outcome) → (broken ≡ false → part.end ≤ at) → next' ≡ Next.Further next → IsSettled g part (after w broken) (Ok (came next' w')) → Left g (frame next next.at ∷ frames) (after w' false) r → Left g (frame part at ∷ frames) (after w broken) r
left_further g part next at frames w w' broken next' r ends same was rest = left_next g part next at frames w w' broken r ends (subst (λ n. IsSettled g part (after w broken) (Ok (came n w'))) same was) rest

left_fault : (g : Given) (part : Part) (at : ℕ) (frames : List Frame) (w : Course) (f : Stopped) → at < part.end → begun_at w.sources part at w.state ≡ Err f → Left g (frame part at ∷ frames) (after w false) (Err (halted_by w.sources f))
left_fault g part at frames w f within is = IsThen.fault (halted_by w.sources f) (Expands.run_fault part at w (halted_by w.sources f) (Runs.fault part at w f within is))

left_step : (g : Given) (part : Part) (at : ℕ) (frames : List Frame) (next : ℕ) (w : Course) (s : State) (r : Outcome) → at < part.end → begun_at w.sources part at w.state ≡ Ok (begun (Action.Step next) s) → Left g (frame part next ∷ frames) (after (course s w.sources) false) r → Left g (frame part at ∷ frames) (after w false) r
left_step g part at frames next w s r within is (IsThen.fault f rest) = IsThen.fault f (further_on g part at next w (course s w.sources) (Err f) (λ o run. Runs.step part at next w s o within is run) rest)
left_step g part at frames next w s r within is (IsThen.found a _ rest more) = IsThen.found a r (further_on g part at next w (course s w.sources) (Ok a) (λ o run. Runs.step part at next w s o within is run) rest) more

left_break : (g : Given) (part : Part) (at : ℕ) (frames : List Frame) (w : Course) (s : State) (r : Outcome) → at < part.end → begun_at w.sources part at w.state ≡ Ok (begun Action.Break s) → Left g (frame part at ∷ frames) (after (course s w.sources) true) r → Left g (frame part at ∷ frames) (after w false) r
left_break g part at frames w s r within is (IsThen.fault f rest) = IsThen.fault f (follows g part at w (after (course s w.sources) true) (Err f) (Runs.breaks part at w s within is) rest)
left_break g part at frames w s r within is (IsThen.found a _ rest more) = IsThen.found a r (follows g part at w (after (course s w.sources) true) (Ok a) (Runs.breaks part at w s within is) rest) more

-- behind an opened part the frame around it gives up or goes on
inside_goes_on : (g : Given) (part inner : Part) (at behind : ℕ) (w w' : Course) (s : State) (broken : Bool) (r : Outcome) → at < part.end → begun_at w.sources part at w.state ≡ Ok (begun (Action.Open inner behind) s) → Expands g inner inner.at (course s w.sources) (Ok (after w' broken)) → GoesOn g (frame part behind) (after w' broken) r → Expands g part at w r
inside_goes_on g part inner at behind w w' s true r within is run rest =
    follows g part at w (after w' true) r (Runs.inside_broken part at behind inner w w' s within is run) rest
inside_goes_on g part inner at behind w w' s false r within is run rest =
    further_on g part at behind w w' r (λ o more. Runs.inside part at behind inner w w' s o within is run more) rest

left_open : (g : Given) (part inner : Part) (at behind : ℕ) (frames : List Frame) (w : Course) (s : State) (r : Outcome) → at < part.end → begun_at w.sources part at w.state ≡ Ok (begun (Action.Open inner behind) s) → Left g (frame inner inner.at ∷ frame part behind ∷ frames) (after (course s w.sources) false) r → Left g (frame part at ∷ frames) (after w false) r
left_open g part inner at behind frames w s r within is (IsThen.fault f run) = IsThen.fault f (Expands.run_fault part at w f (Runs.inside_fault part at behind inner w s f within is run))
left_open g part inner at behind frames w s r within is (IsThen.found a _ run (IsThen.fault f rest)) = IsThen.fault f (inside_goes_on g part inner at behind w a.course s a.broken (Err f) within is run rest)
left_open g part inner at behind frames w s r within is (IsThen.found a _ run (IsThen.found b _ rest more)) = IsThen.found b r (inside_goes_on g part inner at behind w a.course s a.broken (Ok b) within is run rest) more

-- the same, with what the token was found to begin

pub on_fault : (g : Given) (part : Part) (at : ℕ) (frames : List Frame) (w : Course) (broken : Bool) (f : Stopped) → broken ≡ false → at < part.end → begun_at w.sources part at w.state ≡ Err f → Left g (frame part at ∷ frames) (after w broken) (Err (halted_by w.sources f))
on_fault g part at frames w broken f unbroken within is = subst (λ b. Left g (frame part at ∷ frames) (after w b) (Err (halted_by w.sources f))) (sym unbroken) (left_fault g part at frames w f within is)

pub on_step : (g : Given) (part : Part) (at : ℕ) (frames : List Frame) (next : ℕ) (action : Action) (w : Course) (s : State) (broken : Bool) (r : Outcome) → broken ≡ false → at < part.end → action ≡ Action.Step next → begun_at w.sources part at w.state ≡ Ok (begun action s) → Left g (frame part next ∷ frames) (after (course s w.sources) broken) r → Left g (frame part at ∷ frames) (after w broken) r
on_step g part at frames next action w s broken r unbroken within same is =
    subst (λ b. Left g (frame part next ∷ frames) (after (course s w.sources) b) r → Left g (frame part at ∷ frames) (after w b) r) (sym unbroken) (left_step g part at frames next w s r within (is ∙ ap (λ a. Ok (begun a s)) same))

pub on_break : (g : Given) (part : Part) (at : ℕ) (frames : List Frame) (action : Action) (w : Course) (s : State) (broken : Bool) (r : Outcome) → broken ≡ false → at < part.end → action ≡ Action.Break → begun_at w.sources part at w.state ≡ Ok (begun action s) → Left g (frame part at ∷ frames) (after (course s w.sources) true) r → Left g (frame part at ∷ frames) (after w broken) r
on_break g part at frames action w s broken r unbroken within same is rest =
    subst (λ b. Left g (frame part at ∷ frames) (after w b) r) (sym unbroken) (left_break g part at frames w s r within (is ∙ ap (λ a. Ok (begun a s)) same) rest)

pub on_open : (g : Given) (part inner : Part) (at behind : ℕ) (frames waiting : List Frame) (action : Action) (w : Course) (s : State) (broken : Bool) (r : Outcome) → broken ≡ false → at < part.end → action ≡ Action.Open inner behind → begun_at w.sources part at w.state ≡ Ok (begun action s) → waiting ≡ frames ++ frame part behind ∷ [] → Left g (frame inner inner.at ∷ reverse waiting) (after (course s w.sources) broken) r → Left g (frame part at ∷ reverse frames) (after w broken) r
on_open g part inner at behind frames waiting action w s broken r unbroken within same is pushed =
    let last : reverse waiting ≡ frame part behind ∷ reverse frames = ap reverse pushed ∙ reverse-append frames (frame part behind ∷ []) in
    let step : Left g (frame inner inner.at ∷ frame part behind ∷ reverse frames) (after (course s w.sources) false) r → Left g (frame part at ∷ reverse frames) (after w false) r = left_open g part inner at behind (reverse frames) w s r within (is ∙ ap (λ a. Ok (begun a s)) same) in
    let along : Left g (frame inner inner.at ∷ reverse waiting) (after (course s w.sources) false) r → Left g (frame part at ∷ reverse frames) (after w false) r = (λ rest. step (subst (λ fs. Left g (frame inner inner.at ∷ fs) (after (course s w.sources) false) r) last rest)) in
    subst (λ b. Left g (frame inner inner.at ∷ reverse waiting) (after (course s w.sources) b) r → Left g (frame part at ∷ reverse frames) (after w b) r) (sym unbroken) along

-- the innermost frame is taken off
pub popped : (g : Given) (frames waiting : List Frame) (outer : Frame) (a : After) (r : Outcome) → frames ≡ waiting ++ outer ∷ [] → Left g (outer ∷ reverse waiting) a r → Left g (reverse frames) a r
popped g frames waiting outer a r is rest =
    let last : reverse frames ≡ outer ∷ reverse waiting = ap reverse is ∙ reverse-append waiting (outer ∷ []) in
    subst (λ fs. Left g fs a r) (sym last) rest

pub none_left : (g : Given) (frames waiting : List Frame) (count : ℕ) (a : After) → frames ≡ waiting ++ [] → waiting ≡ take (count - 1) frames → count ≡ 0 → Left g (reverse frames) a (Ok a)
none_left g frames waiting count a is rest none =
    let first : count - 1 ≡ 0 = omega (arith, none) in
    let empty : frames ≡ [] = is ∙ ap (λ w. w ++ []) (rest ∙ ap (λ k. take k frames) first) in
    subst (λ fs. Left g (reverse fs) a (Ok a)) (sym empty) refl

-- one frame alone
pub left_alone : (g : Given) (part : Part) (at : ℕ) (w : Course) (r : Outcome) → Left g (frame part at ∷ []) (after w false) r → Expands g part at w r
left_alone g part at w r (IsThen.fault f is) = is
left_alone g part at w r (IsThen.found a _ is same) = subst (λ o. Expands g part at w o) (sym same) is

pub left_first : (g : Given) (part : Part) (at : ℕ) (frames : List Frame) (w : Course) (r : Outcome) → frames ≡ [] → Left g (frame part at ∷ reverse frames) (after w false) r → Expands g part at w r
left_first g part at frames w r none left = left_alone g part at w r (subst (λ fs. Left g (frame part at ∷ reverse fs) (after w false) r) none left)
