-- What the whole comes to comes of the frames that are left.
use Rattle.std.proofs.lemmas.List.{reverse-append}
use Rattle.std.proofs.Common.{ℕ, reverse, ◌≡◌, ◌<◌, ◌≤◌, subst, sym, ap, ◌∙◌, refl, Bool, true, false, List, [], ◌∷◌, ◌++◌, Ok, Err}
use Rattle.scene_expr.specs.Then.{IsThen}
use Rattle.directive_machine.specs.declared.part.Part.{Part}
use Rattle.directive_machine.specs.declared.part.Frame.{Frame}
use Rattle.directive_machine.specs.Moves.{Action, Next}
use Rattle.directive_machine.specs.State.{State, begun}
use Rattle.directive_machine.specs.Course.{Given, Course, Halted, Outcome, After, course, after, came}
use Rattle.directive_machine.specs.Ways.{begun_at, IsSettled}
use Rattle.directive_machine.specs.Expands.{Runs, Expands}
use Rattle.directive_machine.proofs.Stacks.{Follows, GoesOn, Left, frame, follows}
use Rattle.directive_machine.proofs.One.{OneSettled, GoesBehind, run_on, run_over, settles_on, expands_on}

-- what comes first is replaced by what it comes to
then_for : {P P' : Outcome → Type 0} {R : After → Outcome → Type 0} (r : Outcome) → ((o : Outcome) → P o → P' o) → IsThen After After Halted P R r → IsThen After After Halted P' R r
then_for r on (IsThen.fault f p) = IsThen.fault f (on (Err f) p)
then_for r on (IsThen.found a _ p q) = IsThen.found a r (on (Ok a) p) q

-- what comes first and ends at once is left out
then_past : {P : Outcome → Type 0} {R : After → Outcome → Type 0} (b : After) (r : Outcome) → ((o : Outcome) → P o → o ≡ Ok b) → IsThen After After Halted P R r → R b r
then_past b r on (IsThen.fault f p) = absurd (cc (on (Err f) p))
then_past {R = R} b r on (IsThen.found a _ p q) = let same : a ≡ b = cc (on (Ok a) p) in subst (λ k. R k r) same q

-- two that come first are one, and then the other
then_both : {P : Outcome → Type 0} {Q R : After → Outcome → Type 0} (r : Outcome) → IsThen After After Halted (λ o. IsThen After After Halted P Q o) R r → IsThen After After Halted P (λ a o. IsThen After After Halted (Q a) R o) r
then_both r (IsThen.fault f (IsThen.fault _ p)) = IsThen.fault f p
then_both r (IsThen.fault f (IsThen.found a _ p q)) = IsThen.found a r p (IsThen.fault f q)
then_both r (IsThen.found b _ (IsThen.found a _ p q) rest) = IsThen.found a r p (IsThen.found b r q rest)

-- a run, and what follows from its end, is a part that is expanded
pub joined : (g : Given) (part : Part) (at : ℕ) (w : Course) (r : Outcome) → IsThen After After Halted (Runs g part at w) (Follows g part) r → Expands g part at w r
joined g part at w r (IsThen.fault f run) = Expands.run_fault part at w f run
joined g part at w r (IsThen.found a _ run ends) = follows g part at w a r run ends

-- ---- a token

step_to : (g : Given) (part : Part) (at next : ℕ) (w : Course) (s : State) (r : Outcome) → at < part.end → begun_at w.sources part at w.state ≡ Ok (begun (Action.Step next) s) → Expands g part at w r → Expands g part next (course s w.sources) r
step_to g part at next w s r within is run =
    joined g part next (course s w.sources) r (then_for {P = Runs g part at w} {P' = Runs g part next (course s w.sources)} {R = Follows g part} r (λ o p. run_on g part at w _ o within is p) (expands_on g part at w r run))

break_to : (g : Given) (part : Part) (at : ℕ) (w : Course) (s : State) (r : Outcome) → at < part.end → begun_at w.sources part at w.state ≡ Ok (begun Action.Break s) → Expands g part at w r → Follows g part (after (course s w.sources) true) r
break_to g part at w s r within is run = then_past {P = Runs g part at w} {R = Follows g part} (after (course s w.sources) true) r (λ o p. run_on g part at w _ o within is p) (expands_on g part at w r run)

-- behind an opened part the frame around it gives up or goes on
goes_behind : (g : Given) (part : Part) (behind : ℕ) (w : Course) (broken : Bool) (r : Outcome) → IsThen After After Halted (GoesBehind g part behind (after w broken)) (Follows g part) r → GoesOn g (frame part behind) (after w broken) r
goes_behind g part behind w true r is = then_past {P = λ o. o ≡ Ok (after w true)} {R = Follows g part} (after w true) r (λ o p. p) is
goes_behind g part behind w false r is = joined g part behind w r is

open_to : (g : Given) (part inner : Part) (at behind : ℕ) (w : Course) (s : State) (r : Outcome) → at < part.end → begun_at w.sources part at w.state ≡ Ok (begun (Action.Open inner behind) s) → Expands g part at w r → IsThen After After Halted (Expands g inner inner.at (course s w.sources)) (GoesOn g (frame part behind)) r
open_to g part inner at behind w s r within is run =
    let inside : IsThen After After Halted (λ o. IsThen After After Halted (Expands g inner inner.at (course s w.sources)) (GoesBehind g part behind) o) (Follows g part) r = then_for {P = Runs g part at w} {P' = λ o. IsThen After After Halted (Expands g inner inner.at (course s w.sources)) (GoesBehind g part behind) o} {R = Follows g part} r (λ o p. run_on g part at w _ o within is p) (expands_on g part at w r run) in
    behind_each r (then_both {P = Expands g inner inner.at (course s w.sources)} {Q = GoesBehind g part behind} {R = Follows g part} r inside)
  where
    behind_each : (o : Outcome) → IsThen After After Halted (Expands g inner inner.at (course s w.sources)) (λ a k. IsThen After After Halted (GoesBehind g part behind a) (Follows g part) k) o → IsThen After After Halted (Expands g inner inner.at (course s w.sources)) (GoesOn g (frame part behind)) o
    behind_each _ (IsThen.fault f p) = IsThen.fault f p
    behind_each o (IsThen.found a _ p q) = IsThen.found a o p (goes_behind g part behind a.course a.broken o q)

-- ---- the frames

pub to_step : (g : Given) (part : Part) (at : ℕ) (frames : List Frame) (next : ℕ) (action : Action) (w : Course) (s : State) (broken : Bool) (r : Outcome) → broken ≡ false → at < part.end → action ≡ Action.Step next → begun_at w.sources part at w.state ≡ Ok (begun action s) → Left g (frame part at ∷ frames) (after w broken) r → Left g (frame part next ∷ frames) (after (course s w.sources) broken) r
to_step g part at frames next action w s true r unbroken within same is left = absurd (cc unbroken)
to_step g part at frames next action w s false r unbroken within same is left =
    then_for {P = Expands g part at w} {P' = Expands g part next (course s w.sources)} {R = Left g frames} r (λ o p. step_to g part at next w s o within (is ∙ ap (λ a. Ok (begun a s)) same) p) left

pub to_break : (g : Given) (part : Part) (at : ℕ) (frames : List Frame) (action : Action) (w : Course) (s : State) (broken : Bool) (r : Outcome) → broken ≡ false → at < part.end → action ≡ Action.Break → begun_at w.sources part at w.state ≡ Ok (begun action s) → Left g (frame part at ∷ frames) (after w broken) r → Left g (frame part at ∷ frames) (after (course s w.sources) true) r
to_break g part at frames action w s true r unbroken within same is left = absurd (cc unbroken)
to_break g part at frames action w s false r unbroken within same is left =
    then_for {P = Expands g part at w} {P' = Follows g part (after (course s w.sources) true)} {R = Left g frames} r (λ o p. break_to g part at w s o within (is ∙ ap (λ a. Ok (begun a s)) same) p) left

pub to_open : (g : Given) (part inner : Part) (at behind : ℕ) (frames waiting : List Frame) (action : Action) (w : Course) (s : State) (broken : Bool) (r : Outcome) → broken ≡ false → at < part.end → action ≡ Action.Open inner behind → begun_at w.sources part at w.state ≡ Ok (begun action s) → waiting ≡ frames ++ frame part behind ∷ [] → Left g (frame part at ∷ reverse frames) (after w broken) r → Left g (frame inner inner.at ∷ reverse waiting) (after (course s w.sources) broken) r
to_open g part inner at behind frames waiting action w s true r unbroken within same is pushed left = absurd (cc unbroken)
to_open g part inner at behind frames waiting action w s false r unbroken within same is pushed left =
    let last : reverse waiting ≡ frame part behind ∷ reverse frames = ap reverse pushed ∙ reverse-append frames (frame part behind ∷ []) in
    let opens : IsThen After After Halted (λ o. IsThen After After Halted (Expands g inner inner.at (course s w.sources)) (GoesOn g (frame part behind)) o) (Left g (reverse frames)) r = then_for {P = Expands g part at w} {P' = λ o. IsThen After After Halted (Expands g inner inner.at (course s w.sources)) (GoesOn g (frame part behind)) o} {R = Left g (reverse frames)} r (λ o p. open_to g part inner at behind w s o within (is ∙ ap (λ a. Ok (begun a s)) same) p) left in
    subst (λ fs. Left g (frame inner inner.at ∷ fs) (after (course s w.sources) false) r) (sym last) (then_both {P = Expands g inner inner.at (course s w.sources)} {Q = GoesOn g (frame part behind)} {R = Left g (reverse frames)} r opens)

-- a frame whose run is over
ends_to : (g : Given) (part : Part) (at : ℕ) (w : Course) (broken : Bool) (r : Outcome) → (broken ≡ false → part.end ≤ at) → GoesOn g (frame part at) (after w broken) r → Follows g part (after w broken) r
ends_to g part at w true r ends p = p
ends_to g part at w false r ends p = then_past {P = Runs g part at w} {R = Follows g part} (after w false) r (λ o q. run_over g part at w o (ends refl) q) (expands_on g part at w r p)

pub to_done : (g : Given) → OneSettled g → (part : Part) (at : ℕ) (frames : List Frame) (w w' : Course) (broken given_up : Bool) (next' : Next) (r : Outcome) → (broken ≡ false → part.end ≤ at) → next' ≡ Next.Done given_up → IsSettled g part (after w broken) (Ok (came next' w')) → Left g (frame part at ∷ frames) (after w broken) r → Left g frames (after w' given_up) r
to_done g one part at frames w w' broken given_up next' r ends same is left =
    then_past {P = GoesOn g (frame part at) (after w broken)} {R = Left g frames} (after w' given_up) r (λ o p. settles_on g one part (after w broken) _ o (subst (λ n. IsSettled g part (after w broken) (Ok (came n w'))) same is) (ends_to g part at w broken o ends p)) left

pub to_further : (g : Given) → OneSettled g → (part next : Part) (at : ℕ) (frames : List Frame) (w w' : Course) (broken : Bool) (next' : Next) (r : Outcome) → (broken ≡ false → part.end ≤ at) → next' ≡ Next.Further next → IsSettled g part (after w broken) (Ok (came next' w')) → Left g (frame part at ∷ frames) (after w broken) r → Left g (frame next next.at ∷ frames) (after w' false) r
to_further g one part next at frames w w' broken next' r ends same is left =
    then_for {P = GoesOn g (frame part at) (after w broken)} {P' = Expands g next next.at w'} {R = Left g frames} r (λ o p. settles_on g one part (after w broken) _ o (subst (λ n. IsSettled g part (after w broken) (Ok (came n w'))) same is) (ends_to g part at w broken o ends p)) left

-- the innermost frame is taken off
pub to_popped : (g : Given) (frames waiting : List Frame) (outer : Frame) (a : After) (r : Outcome) → frames ≡ waiting ++ outer ∷ [] → Left g (reverse frames) a r → Left g (outer ∷ reverse waiting) a r
to_popped g frames waiting outer a r is rest =
    let last : reverse frames ≡ outer ∷ reverse waiting = ap reverse is ∙ reverse-append waiting (outer ∷ []) in
    subst (λ fs. Left g fs a r) last rest

-- one frame alone
to_alone : (g : Given) (part : Part) (at : ℕ) (w : Course) (r : Outcome) → Expands g part at w r → Left g (frame part at ∷ []) (after w false) r
to_alone g part at w (Ok a) is = IsThen.found a (Ok a) is refl
to_alone g part at w (Err f) is = IsThen.fault f is

pub to_first : (g : Given) (part : Part) (at : ℕ) (frames : List Frame) (w : Course) (r : Outcome) → frames ≡ [] → Expands g part at w r → Left g (frame part at ∷ reverse frames) (after w false) r
to_first g part at frames w r none is = subst (λ fs. Left g (frame part at ∷ reverse fs) (after w false) r) (sym none) (to_alone g part at w r is)
