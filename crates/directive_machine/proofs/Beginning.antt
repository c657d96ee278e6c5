-- The first text, from its reading to its end.
use Rattle.std.proofs.Common.{ℕ, ◌≡◌, subst, sym, ap, ◌∙◌, refl, Bool, List, [], length, Option, Some, None, Result, Ok, Err}
use Rattle.scene_lexer.specs.declared.token.Token.{Token}
use Rattle.scene_expr.specs.Then.{IsThen}
use Rattle.directive_machine.specs.declared.flat.Source.{Source}
use Rattle.directive_machine.specs.declared.stop.Stop.{Stop}
use Rattle.directive_machine.specs.declared.part.Part.{Part}
use Rattle.directive_machine.specs.State.{State}
use Rattle.directive_machine.specs.Sources.{Sources, opened, unread, text_at, IsOpened}
use Rattle.directive_machine.specs.Course.{Given, Course, Halted, After, course, halted, after, Beside}
use Rattle.directive_machine.specs.Expands.{Expands}
use Rattle.directive_machine.specs.Expansions.{first_state, no_sources, start, first_text, whole_part, IsExpanded, IsExpandedFrom, IsExpansionOf, IsExpansion, ComesTo, Handed, Reaches}

-- the part that is run is the whole of the text
whole : (g : Given) (number count : ℕ) (part : Part) (s : State) (sources : Sources) (r : Result After Halted) → part ≡ whole_part number count → length (text_at sources number).marks ≡ count → s ≡ first_state → Expands g part part.at (course s sources) r → Expands g (whole_part number (length (text_at sources number).marks)) 0 (course first_state sources) r
whole g number count part s sources r is long fresh run =
    subst (λ n. Expands g (whole_part number n) 0 (course first_state sources) r) (sym long)
    (subst (λ k. Expands g (whole_part number count) 0 (course k sources) r) fresh
    (subst (λ (p : Part). Expands g p p.at (course s sources) r) is run))

pub expanded_ok : (g : Given) (number count : ℕ) (part : Part) (s : State) (sources : Sources) (w : Course) (broken : Bool) → part ≡ whole_part number count → length (text_at sources number).marks ≡ count → s ≡ first_state → Expands g part part.at (course s sources) (Ok (after w broken)) → IsExpanded g (opened number sources) (Ok w)
expanded_ok g number count part s sources w broken is long fresh run = IsThen.found (after w broken) (Ok w) (whole g number count part s sources (Ok (after w broken)) is long fresh run) refl

pub expanded_fault : (g : Given) (number count : ℕ) (part : Part) (s : State) (sources : Sources) (f : Halted) → part ≡ whole_part number count → length (text_at sources number).marks ≡ count → s ≡ first_state → Expands g part part.at (course s sources) (Err f) → IsExpanded g (opened number sources) (Err f)
expanded_fault g number count part s sources f is long fresh run = IsThen.fault f (whole g number count part s sources (Err f) is long fresh run)

pub from_fault : (g : Given) (file : Source) (f : Stop) (s : State) (none sources : Sources) → s ≡ first_state → none ≡ no_sources → IsOpened file start none (Err (unread f sources)) → IsExpandedFrom g file (Err (halted f (course s sources)))
from_fault g file f s none sources fresh empty is =
    subst (λ k. IsExpandedFrom g file (Err (halted f (course k sources)))) (sym fresh)
    (IsThen.fault _ (Beside.fault _ (subst (λ k. IsOpened file start k (Err (unread f sources))) empty is)))

pub from_rest : (g : Given) (file : Source) (number : ℕ) (none sources : Sources) (r : Result Course Halted) → none ≡ no_sources → IsOpened file start none (Ok (opened number sources)) → IsExpanded g (opened number sources) r → IsExpandedFrom g file r
from_rest g file number none sources r empty is rest = IsThen.found (opened number sources) r (Beside.ok _ (subst (λ k. IsOpened file start k (Ok (opened number sources))) empty is)) rest

pub first_some : (g : Given) (name : List ℕ) (bytes : Option (List ℕ)) (file : Source) (r : Result Course Halted) → first_text g.held name bytes ≡ Some file → IsExpandedFrom g file r → IsExpansion g name bytes r
first_some g name bytes file r is rest = subst (λ k. IsExpansionOf k g name r) (sym is) rest

pub first_none : (g : Given) (name : List ℕ) (bytes : Option (List ℕ)) (f : Stop) (s : State) (sources : Sources) → first_text g.held name bytes ≡ None → s ≡ first_state → sources ≡ no_sources → f ≡ Stop.Absent name start → IsExpansion g name bytes (Err (halted f (course s sources)))
first_none g name bytes f s sources is fresh empty absent =
    subst (λ k. IsExpansionOf k g name (Err (halted f (course s sources)))) (sym is)
    (ap (λ k. Err (halted k (course s sources))) absent ∙ ap (λ k. Err (halted (Stop.Absent name start) (course k sources))) fresh ∙ ap (λ k. Err (halted (Stop.Absent name start) (course first_state k))) empty)

-- ---- the course that is reached

pub opens_flat : (g : Given) (file : Source) (s : State) (tokens : List Token) (files : List Source) (names : List (List ℕ)) → s ≡ first_state → ((g : Given) → Reaches (IsExpandedFrom g file) (record { tokens = tokens; files = files; messages = []; names = names })) → Reaches (IsExpandedFrom g file) (record { tokens = tokens; files = files; messages = s.messages; names = names })
opens_flat g file s tokens files names fresh comes =
    subst (λ (k : State). Reaches (IsExpandedFrom g file) (record { tokens = tokens; files = files; messages = k.messages; names = names })) (sym fresh) (comes g)

pub first_reached : (g : Given) (name : List ℕ) (bytes : Option (List ℕ)) (file : Source) (found : Handed) → first_text g.held name bytes ≡ Some file → Reaches (IsExpandedFrom g file) found → Reaches (IsExpansion g name bytes) found
first_reached g name bytes file found is (Reaches.reaches w same run) = Reaches.reaches w same (first_some g name bytes file (Ok w) is run)

pub comes_to : (g : Given) (name : List ℕ) (bytes : Option (List ℕ)) (found : Handed) → Reaches (IsExpansion g name bytes) found → ComesTo g name bytes found
comes_to g name bytes found (Reaches.reaches w same run) = ComesTo.comes w same run
