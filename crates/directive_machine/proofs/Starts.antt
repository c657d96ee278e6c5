-- What was said, from the first text's reading to a stop, stands first in what the scene comes to.
use Rattle.std.proofs.Common.{ℕ, ◌≡◌, subst, sym, ap, refl, List, [], length, Option, Some, Result, Ok, Err}
use Rattle.scene_expr.specs.Then.{IsThen, Is}
use Rattle.directive_machine.specs.declared.flat.Source.{Source}
use Rattle.directive_machine.specs.declared.part.Part.{Part}
use Rattle.directive_machine.specs.State.{State}
use Rattle.directive_machine.specs.Sources.{Sources, Opened, opened, text_at, IsOpened}
use Rattle.directive_machine.specs.Course.{Given, Course, Halted, After, Outcome, course, Beside}
use Rattle.directive_machine.specs.Expands.{Expands}
use Rattle.directive_machine.specs.Expansions.{first_state, no_sources, start, first_text, whole_part, IsExpanded, IsExpandedFrom, IsExpansionOf, IsExpansion}
use Rattle.directive_machine.specs.Fronts.{IsFront, said_by, said_in}
use Rattle.directive_machine.proofs.Settled.{one_beside}
use Rattle.directive_machine.proofs.OneText.{OneEnd, one_opened}

-- where nothing was said, it stands first
pub none_said : (m whole : List ℕ) → m ≡ [] → IsFront m whole
none_said m whole none = subst (λ k. IsFront k whole) (sym none) (record { more = whole; is = refl })

pub none_yet : (s : State) (whole : List ℕ) → s ≡ first_state → IsFront s.messages whole
none_yet s whole fresh = none_said s.messages whole (ap (λ (k : State). k.messages) fresh)

-- what comes first has one outcome, so the rest follows from it
then_after : {A B E : Type 0} {P : Result A E → Type 0} {R : A → Result B E → Type 0} (a : A) (r : Result B E) → ((o : Result A E) → P o → o ≡ Ok a) → IsThen A B E P R r → R a r
then_after a r on (IsThen.fault f p) = absurd (cc (on (Err f) p))
then_after {R = R} a r on (IsThen.found b _ p q) = let same : b ≡ a = cc (on (Ok b) p) in subst (λ k. R k r) same q

-- the text that is run is the whole part
part_of : (g : Given) (number count : ℕ) (part : Part) (s : State) (sources : Sources) (o : Outcome) → part ≡ whole_part number count → length (text_at sources number).marks ≡ count → s ≡ first_state → Expands g (whole_part number (length (text_at sources number).marks)) 0 (course first_state sources) o → Expands g part part.at (course s sources) o
part_of g number count part s sources o is long fresh run =
    subst (λ (p : Part). Expands g p p.at (course s sources) o) (sym is)
    (subst (λ k. Expands g (whole_part number count) 0 (course k sources) o) (sym fresh)
    (subst (λ n. Expands g (whole_part number n) 0 (course first_state sources) o) long run))

each_outcome : {P : Outcome → Type 0} (m : List ℕ) (r : Result Course Halted) → ((o : Outcome) → P o → IsFront m (said_by o)) → IsThen After Course Halted P (λ a. Is (Ok a.course)) r → IsFront m (said_in r)
each_outcome m _ says (IsThen.fault f p) = says (Err f) p
each_outcome m r says (IsThen.found a _ p same) = subst (λ o. IsFront m (said_in o)) (sym same) (says (Ok a) p)

pub expanded_front : (g : Given) (number count : ℕ) (part : Part) (s : State) (sources : Sources) (m : List ℕ) (r : Result Course Halted) → part ≡ whole_part number count → length (text_at sources number).marks ≡ count → s ≡ first_state → ((o : Outcome) → Expands g part part.at (course s sources) o → IsFront m (said_by o)) → IsExpanded g (opened number sources) r → IsFront m (said_in r)
expanded_front g number count part s sources m r is long fresh says run =
    each_outcome {P = Expands g (whole_part number (length (text_at sources number).marks)) 0 (course first_state sources)} m r (λ o p. says o (part_of g number count part s sources o is long fresh p)) run

pub from_front : (g : Given) → OneEnd → (file : Source) (number : ℕ) (none sources : Sources) (m : List ℕ) (r : Result Course Halted) → none ≡ no_sources → IsOpened file start none (Ok (opened number sources)) → ((o : Result Course Halted) → IsExpanded g (opened number sources) o → IsFront m (said_in o)) → IsExpandedFrom g file r → IsFront m (said_in r)
from_front g one file number none sources m r empty is says run =
    let read : Beside Opened first_state (IsOpened file start no_sources) (Ok (opened number sources)) = Beside.ok _ (subst (λ k. IsOpened file start k (Ok (opened number sources))) empty is) in
    says r (then_after {P = Beside Opened first_state (IsOpened file start no_sources)} {R = IsExpanded g} (opened number sources) r (λ o p. one_beside first_state (one_opened one file start no_sources) o (Ok (opened number sources)) p read) run)

pub first_front : (g : Given) (name : List ℕ) (bytes : Option (List ℕ)) (file : Source) (m : List ℕ) (r : Result Course Halted) → first_text g.held name bytes ≡ Some file → ((o : Result Course Halted) → IsExpandedFrom g file o → IsFront m (said_in o)) → IsExpansion g name bytes r → IsFront m (said_in r)
first_front g name bytes file m r is says run = says r (subst (λ k. IsExpansionOf k g name r) is run)
