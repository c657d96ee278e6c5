-- What a part of a text comes to, from one of its tokens on.
use Rattle.std.specs.Prelude.{ℕ, ◌≡◌, ◌<◌, ◌≤◌, Bool, true, false, Ok, Err}
use Rattle.directive_machine.specs.declared.part.Part.{Part}
use Rattle.directive_machine.specs.Moves.{Action}
use Rattle.directive_machine.specs.Moves.{Next}
use Rattle.directive_machine.specs.State.{State, Stopped, begun}
use Rattle.directive_machine.specs.Course.{Given, Course, Halted, Outcome, After, course, halted_by, after, came}
use Rattle.directive_machine.specs.Ways.{begun_at, IsSettled}

mutual
  -- the tokens of a part are run, from one on
  pub data Runs (g : Given) : Part → ℕ → Course → Outcome → Type 0 where
    ends : (part : Part) (at : ℕ) (w : Course) → part.end ≤ at → Runs g part at w (Ok (after w false))
    fault : (part : Part) (at : ℕ) (w : Course) (f : Stopped) → at < part.end → begun_at w.sources part at w.state ≡ Err f → Runs g part at w (Err (halted_by w.sources f))
    step : (part : Part) (at next : ℕ) (w : Course) (s : State) (r : Outcome) → at < part.end → begun_at w.sources part at w.state ≡ Ok (begun (Action.Step next) s) → Runs g part next (course s w.sources) r → Runs g part at w r
    breaks : (part : Part) (at : ℕ) (w : Course) (s : State) → at < part.end → begun_at w.sources part at w.state ≡ Ok (begun Action.Break s) → Runs g part at w (Ok (after (course s w.sources) true))
    inside_fault : (part : Part) (at behind : ℕ) (inner : Part) (w : Course) (s : State) (f : Halted) → at < part.end → begun_at w.sources part at w.state ≡ Ok (begun (Action.Open inner behind) s) → Expands g inner inner.at (course s w.sources) (Err f) → Runs g part at w (Err f)
    inside_broken : (part : Part) (at behind : ℕ) (inner : Part) (w w' : Course) (s : State) → at < part.end → begun_at w.sources part at w.state ≡ Ok (begun (Action.Open inner behind) s) → Expands g inner inner.at (course s w.sources) (Ok (after w' true)) → Runs g part at w (Ok (after w' true))
    inside : (part : Part) (at behind : ℕ) (inner : Part) (w w' : Course) (s : State) (r : Outcome) → at < part.end → begun_at w.sources part at w.state ≡ Ok (begun (Action.Open inner behind) s) → Expands g inner inner.at (course s w.sources) (Ok (after w' false)) → Runs g part behind w' r → Runs g part at w r

  -- a part is run, and then something is made of it; a further part may follow, as the body of a loop does its condition
  pub data Expands (g : Given) : Part → ℕ → Course → Outcome → Type 0 where
    run_fault : (part : Part) (at : ℕ) (w : Course) (f : Halted) → Runs g part at w (Err f) → Expands g part at w (Err f)
    refused : (part : Part) (at : ℕ) (w : Course) (a : After) (f : Halted) → Runs g part at w (Ok a) → IsSettled g part a (Err f) → Expands g part at w (Err f)
    done : (part : Part) (at : ℕ) (w : Course) (a : After) (broken : Bool) (w' : Course) → Runs g part at w (Ok a) → IsSettled g part a (Ok (came (Next.Done broken) w')) → Expands g part at w (Ok (after w' broken))
    further : (part next : Part) (at : ℕ) (w : Course) (a : After) (w' : Course) (r : Outcome) → Runs g part at w (Ok a) → IsSettled g part a (Ok (came (Next.Further next) w')) → Expands g next next.at w' r → Expands g part at w r
