-- What comes of a part begins with what was said, and it stops for a text only where one is read.
use Rattle.std.proofs.Common.{ℕ, ◌≡◌, ◌≢◌, subst, sym, Bool, true, false, List, [], ◌∷◌, Option, Some, None, Result, Ok, Err}
use Rattle.std.specs.Result.{IfErr}
use Rattle.scene_lexer.specs.declared.token.Place.{Place}
use Rattle.scene_expr.specs.declared.value.Settings.{Settings}
use Rattle.scene_expr.specs.Then.{IsThen}
use Rattle.text_structure.specs.Texts.{Text}
use Rattle.directive_machine.specs.declared.flat.Source.{Source}
use Rattle.directive_machine.specs.declared.stop.Stop.{Stop}
use Rattle.directive_machine.specs.declared.part.Part.{Part}
use Rattle.directive_machine.specs.declared.part.Frame.{Frame}
use Rattle.directive_machine.specs.State.{State, Stopped, Begun, stopped}
use Rattle.directive_machine.specs.Holds.{text_of}
use Rattle.directive_machine.specs.Settles.{given_up}
use Rattle.directive_machine.specs.Includes.{Asking, asking, included_next, IsAsked, IsIncludedBy}
use Rattle.directive_machine.specs.Sources.{Sources, Unread, text_at, found_text}
use Rattle.directive_machine.specs.Course.{Given, Course, Halted, After, Came, Outcome, course, halted, after, came, Within, Beside}
use Rattle.directive_machine.specs.Tokens.{begun_in}
use Rattle.directive_machine.specs.Ways.{begun_at, read_at, home_number, home_by, IsToldIn, IsSettledBy, IsSettled}
use Rattle.directive_machine.specs.Expands.{Runs, Expands}
use Rattle.directive_machine.specs.Fronts.{IsFront, SaysOn, said_by}
use Rattle.directive_machine.proofs.Fronts.{front_same}
use Rattle.directive_machine.proofs.Heads.{Says, begun_state, says_begun}
use Rattle.directive_machine.proofs.Tails.{says_same, says_then, says_front, says_valued, says_text, says_told, says_given_up}
use Rattle.directive_machine.proofs.Stacks.{Follows, GoesOn, Left}

-- what was said stands first in what is said behind a part, or where it is refused
abbrev pub SaysIn : List ℕ → Result Came Halted → Type 0
SaysIn m (Ok c) = IsFront m c.course.state.messages
SaysIn m (Err f) = IsFront m f.messages

abbrev pub asking_state : Asking → State
asking_state a = a.state

says_asked : {m : List ℕ} (set : Settings) (t : Text) (part : Part) (s : State) (r : Result Asking Stopped) → IsFront m s.messages → IsAsked set t part s r → Says asking_state m r
says_asked set t part s r is = says_then r (λ o p. says_valued set t part s o is p) (λ v o is' p. says_then {from = λ name. v.state} o (λ o' p'. says_same (text_of v) o' (says_text v.value v.first v.state is') p') (λ name o' is2 p'. says_same (Ok (asking name v.state)) o' (Says.ok _ is2) p') p)

fault_front : {A : Type 0} {state : A → State} {m : List ℕ} (f : Stopped) → Says state m (Err f) → IsFront m f.messages
fault_front f (Says.fault _ is other) = is

pub fault_outside : {A : Type 0} {state : A → State} {m : List ℕ} (f : Stopped) → Says state m (Err f) → f.stop ≢ Stop.TextFault
fault_outside f (Says.fault _ is other) = other

within_fault : {A : Type 0} {state : A → State} {m : List ℕ} {sources : Sources} {holds : Result A Stopped → Type 0} (f : Halted) → ((o : Result A Stopped) → holds o → Says state m o) → Within A sources holds (Err f) → IsFront m f.messages
within_fault _ start (Within.fault f p) = fault_front f (start (Err f) p)

within_found : {A : Type 0} {state : A → State} {m : List ℕ} {sources : Sources} {holds : Result A Stopped → Type 0} (a : A) → ((o : Result A Stopped) → holds o → Says state m o) → Within A sources holds (Ok a) → IsFront m (state a).messages
within_found a start (Within.ok _ p) = says_front a (start (Ok a) p)

in_then : {A : Type 0} {state : A → State} {m : List ℕ} {sources : Sources} {holds : Result A Stopped → Type 0} {rest : A → Result Came Halted → Type 0} (r : Result Came Halted) → ((o : Result A Stopped) → holds o → Says state m o) → ((a : A) (o : Result Came Halted) → IsFront m (state a).messages → rest a o → SaysIn m o) → IsThen A Came Halted (Within A sources holds) rest r → SaysIn m r
in_then r start on (IsThen.fault f p) = within_fault f start p
in_then r start on (IsThen.found a _ p q) = on a r (within_found a start p) q

says_as : (m : List ℕ) (x r : Result Came Halted) → SaysIn m x → r ≡ x → SaysIn m r
says_as m x r is same = subst (λ o. SaysIn m o) (sym same) is

beside_fault : {A : Type 0} {m : List ℕ} {holds : Result A Unread → Type 0} (s : State) (f : Halted) → IsFront m s.messages → Beside A s holds (Err f) → IsFront m f.messages
beside_fault s _ is (Beside.fault f p) = is

says_included_by : (m : List ℕ) (found : Option Source) (name : List ℕ) (part : Part) (place : Place) (w : Course) (r : Result Came Halted) → IsFront m w.state.messages → IsIncludedBy found name part place w r → SaysIn m r
says_included_by m None name part place w r is p = says_as m (Err (halted (Stop.Absent name place) w)) r is p
says_included_by m (Some file) name part place w r is (IsThen.fault f p) = beside_fault w.state f is p
says_included_by m (Some file) name part place w r is (IsThen.found found _ p q) = says_as m (Ok (included_next part w.state found)) r is q

says_settled_in : (m : List ℕ) (at : Option ℕ) (g : Given) (part : Part) (w : Course) (r : Result Came Halted) → IsFront m w.state.messages → IsSettledBy at g part w r → SaysIn m r
says_settled_in m (Some at) g part w r is p = in_then r (λ o q. says_asked g.settings (text_at w.sources part.text) part w.state o is q) (λ a o is' q. says_included_by m (found_text g.held g.libraries a.name) a.name part _ (course a.state w.sources) o is' q) p
says_settled_in m None g part w r is p = in_then r (λ o q. says_told g.settings (text_at w.sources part.text) (home_by w.sources (home_number part.then)) part part.then w.state o is q) (λ found o is' q. says_as m (Ok (came found.next (course found.state w.sources))) o is' q) p

says_settled_or : (m : List ℕ) (g : Given) (part : Part) (w : Course) (broken : Bool) (r : Result Came Halted) → IsFront m w.state.messages → IsSettled g part (after w broken) r → SaysIn m r
says_settled_or m g part w true r is p = says_as m (Ok (came (given_up part part.then w.state).next (course (given_up part part.then w.state).state w.sources))) r (says_given_up part part.then w.state is) p
says_settled_or m g part w false r is p = says_settled_in m (read_at part.then) g part w r is p

pub says_settled : (m : List ℕ) (g : Given) (part : Part) (a : After) (r : Result Came Halted) → IsFront m a.course.state.messages → IsSettled g part a r → SaysIn m r
says_settled m g part a r is p = says_settled_or m g part a.course a.broken r is p

-- ---- what a token begins

begun_front : {m : List ℕ} (sources : Sources) (part : Part) (at : ℕ) (s : State) (b : Begun) → IsFront m s.messages → begun_at sources part at s ≡ Ok b → IsFront m b.state.messages
begun_front {m = m} sources part at s b is was = says_front b (subst (λ o. Says begun_state m o) was (says_begun (text_at sources part.text) part at s is))

begun_stops : {m : List ℕ} (sources : Sources) (part : Part) (at : ℕ) (s : State) (f : Stopped) → IsFront m s.messages → begun_at sources part at s ≡ Err f → IsFront m f.messages
begun_stops {m = m} sources part at s f is was = fault_front f (subst (λ o. Says begun_state m o) was (says_begun (text_at sources part.text) part at s is))

-- ---- the law

mutual
  pub runs_front : {m : List ℕ} (g : Given) (part : Part) (at : ℕ) (w : Course) (r : Outcome) → IsFront m w.state.messages → Runs g part at w r → IsFront m (said_by r)
  runs_front g part at w r is (Runs.ends _ _ _ past) = is
  runs_front g part at w r is (Runs.fault _ _ _ f within was) = begun_stops w.sources part at w.state f is was
  runs_front g part at w r is (Runs.step _ _ next _ s _ within was rest) = runs_front g part next (course s w.sources) r (begun_front w.sources part at w.state _ is was) rest
  runs_front g part at w r is (Runs.breaks _ _ _ s within was) = begun_front w.sources part at w.state _ is was
  runs_front g part at w r is (Runs.inside_fault _ _ behind inner _ s f within was run) = expands_front g inner inner.at (course s w.sources) (Err f) (begun_front w.sources part at w.state _ is was) run
  runs_front g part at w r is (Runs.inside_broken _ _ behind inner _ w' s within was run) = expands_front g inner inner.at (course s w.sources) (Ok (after w' true)) (begun_front w.sources part at w.state _ is was) run
  runs_front g part at w r is (Runs.inside _ _ behind inner _ w' s _ within was run rest) = runs_front g part behind w' r (expands_front g inner inner.at (course s w.sources) (Ok (after w' false)) (begun_front w.sources part at w.state _ is was) run) rest

  pub expands_front : {m : List ℕ} (g : Given) (part : Part) (at : ℕ) (w : Course) (r : Outcome) → IsFront m w.state.messages → Expands g part at w r → IsFront m (said_by r)
  expands_front g part at w r is (Expands.run_fault _ _ _ f run) = runs_front g part at w (Err f) is run
  expands_front g part at w r is (Expands.refused _ _ _ a f run ends) = says_settled _ g part a (Err f) (runs_front g part at w (Ok a) is run) ends
  expands_front g part at w r is (Expands.done _ _ _ a broken w' run ends) = says_settled _ g part a _ (runs_front g part at w (Ok a) is run) ends
  expands_front g part at w r is (Expands.further _ next _ _ a w' _ run ends rest) = expands_front g next next.at w' r (says_settled _ g part a _ (runs_front g part at w (Ok a) is run) ends) rest

pub says_on : SaysOn
says_on g part at w r run = expands_front g part at w r (front_same w.state.messages) run

-- ---- the frames that are left

follows_front : {m : List ℕ} (g : Given) (part : Part) (a : After) (r : Outcome) → IsFront m a.course.state.messages → Follows g part a r → IsFront m (said_by r)
follows_front g part a r is (Follows.refused f ends) = says_settled _ g part a (Err f) is ends
follows_front g part a r is (Follows.done broken w ends) = says_settled _ g part a _ is ends
follows_front g part a r is (Follows.further next w _ ends rest) = expands_front g next next.at w r (says_settled _ g part a _ is ends) rest

goes_front : {m : List ℕ} (g : Given) (f : Frame) (w : Course) (broken : Bool) (r : Outcome) → IsFront m w.state.messages → GoesOn g f (after w broken) r → IsFront m (said_by r)
goes_front g f w true r is p = follows_front g f.part (after w true) r is p
goes_front g f w false r is p = expands_front g f.part f.at w r is p

pub left_front : {m : List ℕ} (g : Given) (frames : List Frame) (a : After) (r : Outcome) → IsFront m a.course.state.messages → Left g frames a r → IsFront m (said_by r)
left_front {m = m} g [] a r is same = subst (λ o. IsFront m (said_by o)) (sym same) is
left_front g (f ∷ frames) a r is (IsThen.fault h p) = goes_front g f a.course a.broken (Err h) is p
left_front g (f ∷ frames) a r is (IsThen.found b _ p q) = left_front g frames b r (goes_front g f a.course a.broken (Ok b) is p) q

-- the messages at a stop are those of what is left
pub front_left : (g : Given) (frames : List Frame) (a : After) (r : Outcome) (said : List ℕ) → said ≡ a.course.state.messages → Left g frames a r → IsFront said (said_by r)
front_left g frames a r said same left = subst (λ k. IsFront k (said_by r)) (sym same) (left_front g frames a r (front_same a.course.state.messages) left)

-- ---- no step stops for a text, where none is read

pub told_outside : (set : Settings) (part : Part) (w : Course) (f : Stopped) → IsToldIn set part w (Err f) → f.stop ≢ Stop.TextFault
told_outside set part w f p = fault_outside f (says_told set (text_at w.sources part.text) (home_by w.sources (home_number part.then)) part part.then w.state (Err f) (front_same w.state.messages) p)

pub asked_outside : (set : Settings) (t : Text) (part : Part) (s : State) (f : Stopped) → IsAsked set t part s (Err f) → f.stop ≢ Stop.TextFault
asked_outside set t part s f p = fault_outside f (says_asked set t part s (Err f) (front_same s.messages) p)

-- a stop that is for no text unless memory is wanting is for no text
pub outside : (f : Stop) → (f ≢ Stop.NoMemory → f ≢ Stop.TextFault) → f ≢ Stop.TextFault
outside f some is = some (λ none. cc (is, none)) is

-- what is told of a stop says that it is for no text
pub told_out : {T : Type 0} (set : Settings) (part : Part) (w : Course) (s : State) (r : Result T Stop) → IfErr r (λ f. f ≢ Stop.NoMemory → IsToldIn set part w (Err (stopped f s))) → IfErr r (λ f. f ≢ Stop.TextFault)
told_out set part w s (Ok a) is = is
told_out set part w s (Err f) is = outside f (λ some. told_outside set part w (stopped f s) (is some))

pub begun_out : {T : Type 0} (t : Text) (part : Part) (at : ℕ) (s s' : State) (r : Result T Stop) → IfErr r (λ f. f ≢ Stop.NoMemory → begun_in t part at s ≡ Err (stopped f s')) → IfErr r (λ f. f ≢ Stop.TextFault)
begun_out t part at s s' (Ok a) is = is
begun_out t part at s s' (Err f) is = outside f (λ some. fault_outside (stopped f s') (subst (λ o. Says begun_state s.messages o) (is some) (says_begun t part at s (front_same s.messages))))
