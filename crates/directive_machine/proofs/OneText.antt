-- A text is taken in in one way at most.
use Rattle.std.proofs.lemmas.List.{ext_get_or}
use Rattle.std.proofs.Common.{ℕ, ◌+◌, ◌*◌, ◌<◌, ◌≡◌, subst, sym, ap, ◌∙◌, List, [], length, Option, Some, None, Result, Ok, Err, arith}
use Rattle.scene_lexer.specs.declared.token.Token.{Token}
use Rattle.scene_lexer.specs.declared.token.Place.{Place}
use Rattle.scene_expr.specs.declared.value.Settings.{Settings}
use Rattle.scene_expr.specs.Heads.{place_at}
use Rattle.scene_expr.specs.Then.{IsOne, one_is, one_then}
use Rattle.text_structure.specs.declared.mark.Mark.{Mark}
use Rattle.text_structure.specs.declared.closer.Closer.{Closer}
use Rattle.text_structure.specs.Ends.{Ends}
use Rattle.text_structure.specs.declared.levels.Misplaced.{Misplaced}
use Rattle.text_structure.specs.Levels.{structure}
use Rattle.text_structure.specs.Marks.{Marked, marked}
use Rattle.scene_lexer.specs.Tokens.{tokens_of}
use Rattle.text_structure.specs.Tables.{IsTable}
use Rattle.text_structure.specs.Texts.{Text, text, IsText}
use Rattle.directive_machine.specs.declared.flat.Source.{Source}
use Rattle.directive_machine.specs.declared.part.Part.{Part}
use Rattle.directive_machine.specs.State.{State}
use Rattle.directive_machine.specs.Sources.{Sources, IsMisspelt, IsWritten, IsOpened, found_text, text_at, with_text, unread, misplaced_stop, Unread}
use Rattle.directive_machine.specs.Course.{Given, Course, After, course}
use Rattle.directive_machine.specs.Includes.{IsAsked, IsIncludedBy}
use Rattle.directive_machine.specs.Ways.{IsSettledBy, IsSettled, home_by, home_number, read_at}
use Rattle.directive_machine.proofs.Settled.{one_valued, one_told, one_within, one_beside, one_match}

abbrev pub OneEnd : Type 0
OneEnd = (m : List Mark) (closer : Closer) (at a b : ℕ) → Ends m closer at a → Ends m closer at b → a ≡ b

one_table : OneEnd → (m : List Mark) (xs ys : List ℕ) → length xs ≡ (length m + 1) * 10 → length ys ≡ (length m + 1) * 10 → IsTable m 0 xs → IsTable m 0 ys → xs ≡ ys
one_table one m xs ys long long' is is' =
    ext_get_or 0 xs ys (long ∙ sym long') (λ k within. one m _ _ _ _ (is k (omega arith) within).ends (is' k (omega arith) (subst (λ n. k < n) (long ∙ sym long') within)).ends)

one_text : OneEnd → (tokens tokens' : List Token) (m m' : List Mark) (xs ys : List ℕ) → tokens ≡ tokens' → m ≡ m' → length xs ≡ (length m + 1) * 10 → length ys ≡ (length m' + 1) * 10 → IsTable m 0 xs → IsTable m' 0 ys → text tokens m xs ≡ text tokens' m' ys
one_text one tokens tokens' m m' xs ys same marks long long' is is' =
    let ends : xs ≡ ys = one_table one m xs ys long (subst (λ k. length ys ≡ (length k + 1) * 10) (sym marks) long') is (subst (λ k. IsTable k 0 ys) (sym marks) is') in
    ap (λ k. text k m xs) same ∙ ap (λ k. text tokens' k xs) marks ∙ ap (λ k. text tokens' m' k) ends

one_misspelt : (number : ℕ) (bytes : List ℕ) → IsOne (IsMisspelt number bytes)
one_misspelt number bytes _ _ (IsMisspelt.lex f p) (IsMisspelt.lex f' q) = let same : f ≡ f' = cc (p, q) in cc same

-- two texts of the same tokens and words
text_same : OneEnd → (t t' : Text) → t.tokens ≡ t'.tokens → t.marks ≡ t'.marks → IsText t → IsText t' → t ≡ t'
text_same one t t' tokens marks is is' = one_text one t.tokens t'.tokens t.marks t'.marks t.ends t'.ends tokens marks is.length is'.length is.filled is'.filled

misplaced_same : (number : ℕ) (file : Source) (s : Sources) (tokens tokens' : List Token) (f f' : Misplaced) → tokens_of number file.text ≡ Ok tokens → tokens_of number file.text ≡ Ok tokens' → structure (marked tokens [] s.words).marks ≡ Err f → structure (marked tokens' [] s.words).marks ≡ Err f' → ◌≡◌ {A = Result Sources Unread} (Err (unread (misplaced_stop tokens f) s)) (Err (unread (misplaced_stop tokens' f') s))
misplaced_same number file s tokens tokens' f f' p q is is' =
    let same : tokens ≡ tokens' = cc (p, q) in
    let alike : f ≡ f' = cc (sym is ∙ ap (λ k. structure (marked k [] s.words).marks) same ∙ is') in
    ap (λ k. Err (unread (misplaced_stop k f) s)) same ∙ ap (λ k. Err (unread (misplaced_stop tokens' k) s)) alike

-- a text's directives nest, or they don't
misplaced_not : (s : Sources) (tokens tokens' : List Token) (f : Misplaced) (m : Marked) → tokens ≡ tokens' → structure (marked tokens [] s.words).marks ≡ Err f → marked tokens' [] s.words ≡ m → structure m.marks ≡ Ok 0 → ⊥
misplaced_not s tokens tokens' f m same is was nests =
    let both : Err f ≡ Ok 0 = sym is ∙ ap (λ k. structure (marked k [] s.words).marks) same ∙ ap (λ (k : Marked). structure k.marks) was ∙ nests in cc both

written_same : OneEnd → (file : Source) (s : Sources) (tokens tokens' : List Token) (t t' : Text) (m m' : Marked) → tokens ≡ tokens' → marked tokens [] s.words ≡ m → marked tokens' [] s.words ≡ m' → t.tokens ≡ tokens → t'.tokens ≡ tokens' → t.marks ≡ m.marks → t'.marks ≡ m'.marks → IsText t → IsText t' → ◌≡◌ {A = Result Sources Unread} (Ok (with_text file t m s)) (Ok (with_text file t' m' s))
written_same one file s tokens tokens' t t' m m' same was was' has has' is is' has_lists has_lists' =
    let marks : m ≡ m' = sym was ∙ ap (λ k. marked k [] s.words) same ∙ was' in
    ap (λ k. Ok (with_text file k m s)) (text_same one t t' (has ∙ same ∙ sym has') (is ∙ ap (λ (k : Marked). k.marks) marks ∙ sym is') has_lists has_lists')
    ∙ ap (λ k. Ok (with_text file t' k s)) marks

one_written : OneEnd → (number : ℕ) (file : Source) (s : Sources) → IsOne (IsWritten number file s)
one_written one number file s _ _ (IsWritten.misspelt stop p) (IsWritten.misspelt stop' q) = ap (λ k. Err (unread k s)) (one_misspelt number file.text _ _ p q)
one_written one number file s _ _ (IsWritten.misspelt _ (IsMisspelt.lex f p)) (IsWritten.misplaced tokens _ q _) = absurd (cc (p, q))
one_written one number file s _ _ (IsWritten.misspelt _ (IsMisspelt.lex f p)) (IsWritten.written tokens _ _ q _ _ _ _ _) = absurd (cc (p, q))
one_written one number file s _ _ (IsWritten.misplaced tokens _ q _) (IsWritten.misspelt _ (IsMisspelt.lex f p)) = absurd (cc (p, q))
one_written one number file s _ _ (IsWritten.misplaced tokens f p is) (IsWritten.misplaced tokens' f' q is') = misplaced_same number file s tokens tokens' f f' p q is is'
one_written one number file s _ _ (IsWritten.misplaced tokens f p is) (IsWritten.written tokens' t m q marks nests _ _ _) = absurd (misplaced_not s tokens tokens' f m (cc (p, q)) is marks nests)
one_written one number file s _ _ (IsWritten.written tokens _ _ q _ _ _ _ _) (IsWritten.misspelt _ (IsMisspelt.lex f p)) = absurd (cc (p, q))
one_written one number file s _ _ (IsWritten.written tokens t m q marks nests _ _ _) (IsWritten.misplaced tokens' f p is) = absurd (misplaced_not s tokens' tokens f m (cc (p, q)) is marks nests)
one_written one number file s _ _ (IsWritten.written tokens t m p marks nests has is text) (IsWritten.written tokens' t' m' q marks' nests' has' is' text') =
    written_same one file s tokens tokens' t t' m m' (cc (p, q)) marks marks' has has' is is' text text'

pub one_opened : OneEnd → (file : Source) (place : Place) (s : Sources) → IsOne (IsOpened file place s)
one_opened one file place s = one_match _ (one_is _) (one_then (one_is _) (λ s1. one_then (one_written one _ file s1) (λ s2. one_is _)))

one_included_by : OneEnd → (found : Option Source) (name : List ℕ) (part : Part) (place : Place) (w : Course) → IsOne (IsIncludedBy found name part place w)
one_included_by one None name part place w = one_is _
one_included_by one (Some file) name part place w = one_then (one_beside w.state (one_opened one file place w.sources)) (λ found. one_is _)

one_asked : (set : Settings) (t : Text) (part : Part) (s : State) → IsOne (IsAsked set t part s)
one_asked set t part s = one_then (one_valued set t part s) (λ v. one_then (one_is _) (λ name. one_is _))

one_settled_by : OneEnd → (at : Option ℕ) (g : Given) (part : Part) (w : Course) → IsOne (IsSettledBy at g part w)
one_settled_by one (Some at) g part w = one_then (one_within w.sources (one_asked g.settings (text_at w.sources part.text) part w.state)) (λ asked. one_included_by one (found_text g.held g.libraries asked.name) asked.name part (place_at (text_at w.sources part.text).tokens at) (course asked.state w.sources))
one_settled_by one None g part w = one_then (one_within w.sources (one_told g.settings (text_at w.sources part.text) (home_by w.sources (home_number part.then)) part part.then w.state)) (λ found. one_is _)

pub one_settled : OneEnd → (g : Given) (part : Part) (a : After) → IsOne (IsSettled g part a)
one_settled one g part a = one_match a.broken (one_is _) (one_settled_by one (read_at part.then) g part a.course)
