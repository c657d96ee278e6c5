-- Includes, and what is made of parts in a whole expansion.
use Rattle.std.proofs.Common.{ℕ, ◌≡◌, ◌≢◌, subst, sym, ap, ◌∙◌, refl, Bool, true, false, List, Option, Some, None, Result, Ok, Err}
use Rattle.scene_lexer.specs.declared.token.Place.{Place}
use Rattle.scene_expr.specs.declared.value.Settings.{Settings}
use Rattle.scene_expr.specs.Heads.{place_at}
use Rattle.scene_expr.specs.Then.{IsThen}
use Rattle.text_structure.specs.Texts.{Text}
use Rattle.directive_machine.specs.declared.flat.Source.{Source}
use Rattle.directive_machine.specs.declared.stop.Stop.{Stop}
use Rattle.directive_machine.specs.declared.part.Part.{Part}
use Rattle.directive_machine.specs.declared.part.Then.{Then}
use Rattle.directive_machine.specs.declared.part.Rest.{Rest}
use Rattle.directive_machine.specs.declared.texts.Text.{Text as Held}
use Rattle.directive_machine.specs.Moves.{Next, next_of}
use Rattle.std.specs.Result.{IfOk, IfErr}
use Rattle.directive_machine.specs.State.{State, Stopped, Settled, stopped, settled}
use Rattle.directive_machine.specs.Settles.{given_up, is_argument, is_told}
use Rattle.directive_machine.specs.Parts.{IsTold}
use Rattle.directive_machine.specs.Sources.{Sources, unread, opened, found_text, text_at, IsOpened}
use Rattle.directive_machine.specs.Course.{Given, given, Course, Halted, Came, course, halted, came, after, Within, Beside}
use Rattle.directive_machine.specs.Includes.{asking, included_next, IsAsked, IsIncludedBy, IsIncluded}
use Rattle.directive_machine.specs.Ways.{read_at, home_number, home_by, IsToldIn, IsSettledBy, IsSettled}

-- ---- includes

pub in_fault : (file : Source) (name : List ℕ) (part : Part) (place : Place) (w : Course) (f : Stop) (sources : Sources) → IsOpened file place w.sources (Err (unread f sources)) → IsIncludedBy (Some file) name part place w (Err (halted f (course w.state sources)))
in_fault file name part place w f sources is = IsThen.fault _ (Beside.fault _ is)

pub in_ok : (file : Source) (name : List ℕ) (part : Part) (place : Place) (w : Course) (number : ℕ) (sources : Sources) (found : Came) → IsOpened file place w.sources (Ok (opened number sources)) → found ≡ included_next part w.state (opened number sources) → IsIncludedBy (Some file) name part place w (Ok found)
in_ok file name part place w number sources found is same = IsThen.found _ _ (Beside.ok _ is) (ap Ok same)

pub inc_fault : (g : Given) (at : ℕ) (part : Part) (w : Course) (f : Stop) (s : State) → IsAsked g.settings (text_at w.sources part.text) part w.state (Err (stopped f s)) → IsIncluded g at part w (Err (halted f (course s w.sources)))
inc_fault g at part w f s is = IsThen.fault _ (Within.fault _ is)

pub inc_by : (g : Given) (at : ℕ) (part : Part) (w : Course) (name : List ℕ) (place : Place) (s : State) (found : Option Source) (r : Result Came Halted) → IsAsked g.settings (text_at w.sources part.text) part w.state (Ok (asking name s)) → place ≡ place_at (text_at w.sources part.text).tokens at → found_text g.held g.libraries name ≡ found → IsIncludedBy found name part place (course s w.sources) r → IsIncluded g at part w r
inc_by g at part w name place s found r is there same by =
    IsThen.found (asking name s) r (Within.ok _ is)
    (subst (λ k. IsIncludedBy k name part (place_at (text_at w.sources part.text).tokens at) (course s w.sources) r) (sym same)
    (subst (λ p. IsIncludedBy found name part p (course s w.sources) r) there by))

-- ---- parts that read no text

pub argument_is : (then' : Then) (number : ℕ) → home_number then' ≡ Some number → is_argument then' ≡ true
argument_is (Then.Pass call) number is = refl
argument_is (Then.Give call) number is = refl
argument_is (Then.Refer call name) number is = refl
argument_is (Then.Bind name local') number is = absurd (cc is)
argument_is (Then.Decide held otherwise) number is = absurd (cc is)
argument_is (Then.Test circle) number is = absurd (cc is)
argument_is (Then.Choose first) number is = absurd (cc is)
argument_is (Then.Case c) number is = absurd (cc is)
argument_is (Then.Low c) number is = absurd (cc is)
argument_is (Then.High c low) number is = absurd (cc is)
argument_is (Then.From turns) number is = absurd (cc is)
argument_is (Then.To turns first) number is = absurd (cc is)
argument_is (Then.By turns first last) number is = absurd (cc is)
argument_is (Then.Say error at) number is = absurd (cc is)
argument_is Then.Plain number is = absurd (cc is)
argument_is Then.Leave number is = absurd (cc is)
argument_is (Then.Hold name local' stop) number is = absurd (cc is)
argument_is (Then.Again circle) number is = absurd (cc is)
argument_is (Then.Fall parted) number is = absurd (cc is)
argument_is (Then.Turn turns number' last step) number is = absurd (cc is)
argument_is (Then.Enter call) number is = absurd (cc is)
argument_is (Then.Read at) number is = absurd (cc is)

pub told_is : (then' : Then) → read_at then' ≡ None → home_number then' ≡ None → is_told then' ≡ true
told_is (Then.Pass call) none alone = absurd (cc alone)
told_is (Then.Give call) none alone = absurd (cc alone)
told_is (Then.Refer call name) none alone = absurd (cc alone)
told_is (Then.Read at) none alone = absurd (cc none)
told_is (Then.Bind name local') none alone = refl
told_is (Then.Decide held otherwise) none alone = refl
told_is (Then.Test circle) none alone = refl
told_is (Then.Choose first) none alone = refl
told_is (Then.Case c) none alone = refl
told_is (Then.Low c) none alone = refl
told_is (Then.High c low) none alone = refl
told_is (Then.From turns) none alone = refl
told_is (Then.To turns first) none alone = refl
told_is (Then.By turns first last) none alone = refl
told_is (Then.Say error at) none alone = refl
told_is Then.Plain none alone = refl
told_is Then.Leave none alone = refl
told_is (Then.Hold name local' stop) none alone = refl
told_is (Then.Again circle) none alone = refl
told_is (Then.Fall parted) none alone = refl
told_is (Then.Turn turns number last step) none alone = refl
told_is (Then.Enter call) none alone = refl

pub told_home : (set : Settings) (part : Part) (w : Course) (t home : Text) (number : ℕ) (r : Result Settled Stopped) → text_at w.sources part.text ≡ t → home_number part.then ≡ Some number → text_at w.sources number ≡ home → IsTold set t (Some home) part part.then w.state r → IsToldIn set part w r
told_home set part w t home number r text at same is =
    subst (λ k. IsTold set k (home_by w.sources (home_number part.then)) part part.then w.state r) (sym text)
    (subst (λ k. IsTold set t k part part.then w.state r) (sym (ap (home_by w.sources) at ∙ ap Some same)) is)

pub told_alone : (set : Settings) (part : Part) (w : Course) (t : Text) (r : Result Settled Stopped) → text_at w.sources part.text ≡ t → home_number part.then ≡ None → IsTold set t None part part.then w.state r → IsToldIn set part w r
told_alone set part w t r text at is =
    subst (λ k. IsTold set k (home_by w.sources (home_number part.then)) part part.then w.state r) (sym text)
    (subst (λ k. IsTold set t k part part.then w.state r) (sym (ap (home_by w.sources) at)) is)

pub settled_told : (g : Given) (part : Part) (w : Course) (next : Next) (s : State) → read_at part.then ≡ None → IsToldIn g.settings part w (Ok (settled next s)) → IsSettledBy (read_at part.then) g part w (Ok (came next (course s w.sources)))
settled_told g part w next s none is = subst (λ k. IsSettledBy k g part w (Ok (came next (course s w.sources)))) (sym none) (IsThen.found _ _ (Within.ok _ is) refl)

pub settled_fault : (g : Given) (part : Part) (w : Course) (f : Stop) (s : State) → read_at part.then ≡ None → IsToldIn g.settings part w (Err (stopped f s)) → IsSettledBy (read_at part.then) g part w (Err (halted f (course s w.sources)))
settled_fault g part w f s none is = subst (λ k. IsSettledBy k g part w (Err (halted f (course s w.sources)))) (sym none) (IsThen.fault _ (Within.fault _ is))

-- the same of an answer as it stands

pub settled_ok_by : (part : Part) (w : Course) (set : Settings) (libraries : List (List ℕ)) (s : State) (told : Option (List Held)) (further : Part) (r : Result Rest Stop) → read_at part.then ≡ None → IfOk r (λ next. IsToldIn set part w (Ok (settled (next_of next further) s))) → IfOk r (λ next. (h : List Held) → told ≡ Some h → IsSettledBy (read_at part.then) (given set libraries h) part w (Ok (came (next_of next further) (course s w.sources))))
settled_ok_by part w set libraries s told further (Ok next) none is = λ h held. settled_told (given set libraries h) part w (next_of next further) s none is
settled_ok_by part w set libraries s told further (Err f) none is = is

pub settled_err_by : (part : Part) (w : Course) (set : Settings) (libraries : List (List ℕ)) (s : State) (told : Option (List Held)) (r : Result Rest Stop) → read_at part.then ≡ None → IfErr r (λ f. f ≢ Stop.NoMemory → IsToldIn set part w (Err (stopped f s))) → IfErr r (λ f. f ≢ Stop.NoMemory → f ≢ Stop.TextFault → (h : List Held) → told ≡ Some h → IsSettledBy (read_at part.then) (given set libraries h) part w (Err (halted f (course s w.sources))))
settled_err_by part w set libraries s told (Ok next) none is = is
settled_err_by part w set libraries s told (Err f) none is = λ some text h held. settled_fault (given set libraries h) part w f s none (is some)

pub settled_read : (g : Given) (part : Part) (w : Course) (at : ℕ) (r : Result Came Halted) → read_at part.then ≡ Some at → IsIncluded g at part w r → IsSettledBy (read_at part.then) g part w r
settled_read g part w at r some is = subst (λ k. IsSettledBy k g part w r) (sym some) is

-- ---- all together

pub gives_up : (g : Given) (part : Part) (w : Course) (broken : Bool) (next : Next) (s : State) → broken ≡ true → given_up part part.then w.state ≡ settled next s → IsSettled g part (after w broken) (Ok (came next (course s w.sources)))
gives_up g part w true next s is same = ap (λ k. Ok (came k.next (course k.state w.sources))) (sym same)
gives_up g part w false next s is same = absurd (cc is)

pub settles : (g : Given) (part : Part) (w : Course) (broken : Bool) (r : Result Came Halted) → broken ≡ false → IsSettledBy (read_at part.then) g part w r → IsSettled g part (after w broken) r
settles g part w false r is by = by
settles g part w true r is by = absurd (cc is)
