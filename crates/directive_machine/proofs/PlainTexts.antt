-- A first text whose tokens begin nothing comes to its tokens.
use Rattle.std.proofs.Common.{ℕ, zero, suc, ◌+◌, ◌*◌, ◌^◌, ◌≡◌, ◌<◌, ◌≤◌, nat_eq, nat_lt, Bool, true, false, not, ◌&&◌, ◌||◌, if◌then◌else◌, List, [], ◌∷◌, ◌++◌, length, slice_get, Option, Some, None, Result, Ok, Err, codes, refl, ap, subst, sym, ◌∙◌, append_assoc, length-append, arith}
use Rattle.std.specs.List.{list_all}
use Rattle.std.specs.Option.{unwrap_or}
use Rattle.std.proofs.lemmas.List.{append-nil}
use Rattle.std.proofs.lemmas.List.Folds.{list_all-append}
use Rattle.scene_lexer.specs.declared.token.Kind.{Kind}
use Rattle.scene_lexer.specs.declared.token.Token.{Token}
use Rattle.scene_lexer.specs.Tokens.{tokens_of}
use Rattle.scene_expr.specs.Then.{IsThen}
use Rattle.text_structure.specs.declared.levels.Level.{Level}
use Rattle.text_structure.specs.declared.mark.Known.{Known}
use Rattle.text_structure.specs.declared.mark.Mark.{Mark}
use Rattle.text_structure.specs.Levels.{directive_first, further_open, left_open, structure, structure_by}
use Rattle.text_structure.specs.Marks.{Vocabulary, Marked, marked, word_marking, kind_marking}
use Rattle.text_structure.specs.Tables.{IsTable}
use Rattle.text_structure.specs.Texts.{Text, text, IsText}
use Rattle.text_structure.specs.Turns.{directive_in}
use Rattle.text_structure.specs.Words.{known_of}
use Rattle.directive_machine.specs.declared.flat.Source.{Source}
use Rattle.directive_machine.specs.declared.part.Part.{Part}
use Rattle.directive_machine.specs.declared.stop.Stop.{Stop}
use Rattle.directive_machine.specs.Moves.{Action, Next}
use Rattle.directive_machine.specs.State.{State, begun, settled, on_ok, counted, limited, most_handed}
use Rattle.directive_machine.specs.Words.{handed_at, handed_token}
use Rattle.directive_machine.specs.Declares.{step}
use Rattle.directive_machine.specs.Tokens.{begun_in, begun_mark}
use Rattle.directive_machine.specs.PlainTokens.{is_defined, is_plain, is_plain_token}
use Rattle.directive_machine.specs.Sources.{Sources, opened, unread, most_bytes, text_at, counted_bytes, listed_name, with_text, IsWritten, IsOpened}
use Rattle.directive_machine.specs.Course.{Given, Course, After, Outcome, course, after, came, Within}
use Rattle.directive_machine.specs.Ways.{begun_at, IsSettled}
use Rattle.directive_machine.specs.Expands.{Runs, Expands}
use Rattle.directive_machine.specs.Expansions.{first_state, no_sources, start, whole_part, IsExpanded, IsExpandedFrom, Reaches}
use Rattle.directive_machine.proofs.Beginning.{from_rest}
use Rattle.directive_machine.proofs.TakenIn.{opened_new}
use Rattle.directive_machine.proofs.Tables.{is_still, both_true, not_true, has_table}

-- ---- the marks of plain tokens are still

known_still : (known : Known) → is_defined (Some known) ≡ false → is_still (Mark.Known known) ≡ true
known_still Known.Defined is = absurd (cc is)
known_still (Known.Directive directive) is = refl
known_still Known.Block is = refl
known_still Known.Colour is = refl
known_still Known.Other is = refl

word_still : (known : Option Known) (words : Vocabulary) (word : List ℕ) → is_defined known ≡ false → is_still (word_marking known words word).mark ≡ true
word_still None words word is = refl
word_still (Some known) words word is = known_still known is

kind_still : (words : Vocabulary) (kind : Kind) → is_plain kind ≡ true → is_still (kind_marking words kind).mark ≡ true
kind_still words (Kind.Word word) is = word_still (known_of word) words word (not_true (is_defined (known_of word)) is)
kind_still words (Kind.Number value) is = refl
kind_still words (Kind.Text text) is = refl
kind_still words (Kind.Sign code) is = is

one_more : (xs : List Mark) (x : Mark) → list_all is_still xs ≡ true → is_still x ≡ true → list_all is_still (xs ++ x ∷ []) ≡ true
one_more xs x all is = list_all-append is_still xs (x ∷ []) ∙ (rw (all, is) refl)

marks_still : (tokens : List Token) (marks : List Mark) (words : Vocabulary) → list_all is_plain_token tokens ≡ true → list_all is_still marks ≡ true → list_all is_still (marked tokens marks words).marks ≡ true
marks_still [] marks words plain still = still
marks_still (token ∷ tokens) marks words plain still =
    let parts = both_true (is_plain token.kind) (list_all is_plain_token tokens) plain in
    marks_still tokens (marks ++ (kind_marking words token.kind).mark ∷ []) (kind_marking words token.kind).words parts.1 (one_more marks (kind_marking words token.kind).mark still (kind_still words token.kind parts.0))

marks_long : (tokens : List Token) (marks : List Mark) (words : Vocabulary) → length (marked tokens marks words).marks ≡ length marks + length tokens
marks_long [] marks words = omega arith
marks_long (token ∷ tokens) marks words =
    let rest = marks_long tokens (marks ++ (kind_marking words token.kind).mark ∷ []) (kind_marking words token.kind).words in
    let more = length-append marks ((kind_marking words token.kind).mark ∷ []) in
    omega (arith, rest, more)

-- ---- nothing is open

first_none : (m : Mark) (further : List Mark) → is_still m ≡ true → directive_first (m ∷ further) ≡ None
first_none (Mark.Sign code) further is = ap (λ b. if b then directive_in (slice_get further 0) else None) (not_true (nat_eq code 35) is)
first_none Mark.Number further is = refl
first_none Mark.Text further is = refl
first_none (Mark.Known known) further is = refl
first_none (Mark.Name name) further is = refl

nothing_open : (m : List Mark) (at : ℕ) (levels : List Level) → list_all is_still m ≡ true → left_open m at levels ≡ Ok levels
nothing_open [] at levels still = refl
nothing_open (m ∷ further) at levels still =
    let parts = both_true (is_still m) (list_all is_still further) still in
    ap (λ d. further_open d at levels (left_open further (suc at))) (first_none m further parts.0) ∙ nothing_open further (suc at) levels parts.1

nests : (m : List Mark) → list_all is_still m ≡ true → structure m ≡ Ok 0
nests m still = ap structure_by (nothing_open m 0 [] still)

-- ---- each token is handed out

abbrev so_far : ℕ → List Token → State
so_far taken tokens = record { scopes = [] ∷ []; waiting = []; taken = taken; out = tokens; messages = [] }

abbrev handed_out : List Token → State
handed_out tokens = so_far (length tokens) tokens

mark_at : (m : List Mark) (at : ℕ) → at < length m → list_all is_still m ≡ true → (x : Mark) × (slice_get m at ≡ Some x) × (is_still x ≡ true)
mark_at [] at within still = absurd (never at within)
  where
    never : (k : ℕ) → k < 0 → ⊥
    never k within = grind arith
mark_at (x ∷ m) zero within still = (x, refl, (both_true (is_still x) (list_all is_still m) still).0)
mark_at (x ∷ m) (suc at) within still = mark_at m at (omega (arith, within)) (both_true (is_still x) (list_all is_still m) still).1

token_at : (before : List Token) (token : Token) (further : List Token) → slice_get (before ++ token ∷ further) (length before) ≡ Some token
token_at [] token further = refl
token_at (x ∷ before) token further = token_at before token further

by_mark : (t : Text) (part : Part) (at : ℕ) (s : State) (x : Mark) → s.scopes ≡ [] ∷ [] → is_still x ≡ true → begun_mark (Some x) t part at s ≡ handed_at t part at s
by_mark t part at s (Mark.Sign code) none is = let e = not_true (nat_eq code 35) is in rw e refl
by_mark t part at s (Mark.Name name) none is = rw none refl
by_mark t part at s Mark.Number none is = refl
by_mark t part at s Mark.Text none is = refl
by_mark t part at s (Mark.Known Known.Defined) none is = absurd (cc is)
by_mark t part at s (Mark.Known (Known.Directive directive)) none is = refl
by_mark t part at s (Mark.Known Known.Block) none is = refl
by_mark t part at s (Mark.Known Known.Colour) none is = refl
by_mark t part at s (Mark.Known Known.Other) none is = refl

counts : (t : Text) (at taken : ℕ) (tokens : List Token) → taken < 16777216 → counted t at (so_far taken tokens) ≡ Ok (so_far (taken + 1) tokens)
counts t at taken tokens few = let e : nat_lt taken 16777216 ≡ true = grind (arith, few) in rw e refl

hands : (t : Text) (number count at taken : ℕ) (before : List Token) (token : Token) → slice_get t.tokens at ≡ Some token → length before < 4194304 → handed_at t (whole_part number count) at (so_far taken before) ≡ Ok (begun (Action.Step (at + 1)) (so_far taken (before ++ token ∷ [])))
hands t number count at taken before token there few =
    let free : nat_lt (length before + length (token ∷ [])) (most_handed + 1) ≡ true = grind (arith, few) in
    ap (λ o. handed_token o (whole_part number count) (at + 1) (so_far taken before)) there
    ∙ ap (λ b. on_ok (if b then Ok (so_far taken (before ++ token ∷ [])) else limited 2 token.place (so_far taken before)) (step (at + 1))) free

steps : (t : Text) (number count : ℕ) (before : List Token) (token : Token) → slice_get t.tokens (length before) ≡ Some token → list_all is_still t.marks ≡ true → length before < length t.marks → length before < 4194304 → begun_in t (whole_part number count) (length before) (handed_out before) ≡ Ok (begun (Action.Step (length before + 1)) (handed_out (before ++ token ∷ [])))
steps t number count before token there still within few =
    let mark = mark_at t.marks (length before) within still in
    let more : length (before ++ token ∷ []) ≡ length before + 1 = length-append before (token ∷ []) in
    ap (λ r. on_ok r (begun_mark (slice_get t.marks (length before)) t (whole_part number count) (length before))) (counts t (length before) (length before) before (omega (arith, few)))
    ∙ ap (λ o. begun_mark o t (whole_part number count) (length before) (so_far (length before + 1) before)) mark.1
    ∙ by_mark t (whole_part number count) (length before) (so_far (length before + 1) before) mark.0 refl mark.2
    ∙ hands t number count (length before) (length before + 1) before token there few
    ∙ ap (λ n. Ok (begun (Action.Step (length before + 1)) (so_far n (before ++ token ∷ [])))) (sym more)

run : (g : Given) (sources : Sources) (number : ℕ) (t : Text) (tokens before rest : List Token) → tokens ≡ before ++ rest → text_at sources number ≡ t → t.tokens ≡ tokens → list_all is_still t.marks ≡ true → length t.marks ≡ length tokens → length tokens ≤ 4194304 → Runs g (whole_part number (length tokens)) (length before) (course (handed_out before) sources) (Ok (after (course (handed_out tokens) sources) false))
run g sources number t tokens before [] is same has still long few =
    let whole : before ≡ tokens = sym (is ∙ append-nil before) in
    subst (λ (k : List Token). Runs g (whole_part number (length tokens)) (length k) (course (handed_out k) sources) (Ok (after (course (handed_out tokens) sources) false))) (sym whole)
    (Runs.ends (whole_part number (length tokens)) (length tokens) (course (handed_out tokens) sources) (omega arith))
run g sources number t tokens before (token ∷ rest) is same has still long few =
    let size : length tokens ≡ length before + length (token ∷ rest) = ap length is ∙ length-append before (token ∷ rest) in
    let within : length before < length tokens = omega (arith, size) in
    let there : slice_get t.tokens (length before) ≡ Some token = ap (λ k. slice_get k (length before)) (has ∙ is) ∙ token_at before token rest in
    let begins : begun_in t (whole_part number (length tokens)) (length before) (handed_out before) ≡ Ok (begun (Action.Step (length before + 1)) (handed_out (before ++ token ∷ []))) =
    steps t number (length tokens) before token there still (omega (arith, within, long)) (omega (arith, within, few)) in
    let next : Runs g (whole_part number (length tokens)) (length (before ++ token ∷ [])) (course (handed_out (before ++ token ∷ [])) sources) (Ok (after (course (handed_out tokens) sources) false)) =
    run g sources number t tokens (before ++ token ∷ []) rest (is ∙ sym (append_assoc before (token ∷ []) rest)) same has still long few in
    Runs.step (whole_part number (length tokens)) (length before) (length before + 1) (course (handed_out before) sources) (handed_out (before ++ token ∷ [])) (Ok (after (course (handed_out tokens) sources) false)) within
    (ap (λ k. begun_in k (whole_part number (length tokens)) (length before) (handed_out before)) same ∙ begins)
    (subst (λ k. Runs g (whole_part number (length tokens)) k (course (handed_out (before ++ token ∷ [])) sources) (Ok (after (course (handed_out tokens) sources) false))) (length-append before (token ∷ [])) next)

settles : (g : Given) (number count : ℕ) (w : Course) → IsSettled g (whole_part number count) (after w false) (Ok (came (Next.Done false) w))
settles g number count w = IsThen.found (settled (Next.Done false) w.state) (Ok (came (Next.Done false) w)) (Within.ok (settled (Next.Done false) w.state) refl) refl

expands : (g : Given) (sources : Sources) (number : ℕ) (t : Text) (tokens : List Token) → text_at sources number ≡ t → t.tokens ≡ tokens → list_all is_still t.marks ≡ true → length t.marks ≡ length tokens → length tokens ≤ 4194304 → IsExpanded g (opened number sources) (Ok (course (handed_out tokens) sources))
expands g sources number t tokens same has still long few =
    let w : Course = course (handed_out tokens) sources in
    let runs : Runs g (whole_part number (length tokens)) 0 (course first_state sources) (Ok (after (course (handed_out tokens) sources) false)) = run g sources number t tokens [] tokens refl same has still long few in
    let size : length tokens ≡ length (text_at sources number).marks = sym (ap (λ (k : Text). length k.marks) same ∙ long) in
    IsThen.found (after (course (handed_out tokens) sources) false) (Ok (course (handed_out tokens) sources))
    (subst (λ n. Expands g (whole_part number n) 0 (course first_state sources) (Ok (after (course (handed_out tokens) sources) false))) size
    (Expands.done (whole_part number (length tokens)) 0 (course first_state sources) (after (course (handed_out tokens) sources) false) false (course (handed_out tokens) sources) runs (settles g number (length tokens) (course (handed_out tokens) sources))))
    refl

-- ---- and so the text is opened

which : {A E : Type 0} (b : Bool) (a a' : A) (e : E) → (if b then Ok a else Err e) ≡ Ok a' → a' ≡ a
which true a a' e is = cc is
which false a a' e is = absurd (cc is)

-- the sources are those before, with more bytes
counted_as : (size : ℕ) (name : List ℕ) (s1 : Sources) → counted_bytes size start (listed_name name no_sources) ≡ Ok s1 → s1.texts ≡ []
counted_as size name s1 is = ap (λ (k : Sources). k.texts) (which (nat_lt (0 + size) (most_bytes + 1)) (record (listed_name name no_sources) { size = 0 + size }) s1 (unread (Stop.Limit 4 start) (listed_name name no_sources)) is)

opens : (file : Source) (s1 : Sources) (tokens : List Token) (t : Text) (m : Marked) → counted_bytes (length file.name + 8 + length file.text) start (listed_name file.name no_sources) ≡ Ok s1 → tokens_of 0 file.text ≡ Ok tokens → marked tokens [] s1.words ≡ m → list_all is_still m.marks ≡ true → t.tokens ≡ tokens → t.marks ≡ m.marks → IsText t → IsOpened file start no_sources (Ok (opened 0 (with_text file t m s1)))
opens file s1 tokens t m counts' has is still same marks table =
    opened_new file start 0 0 no_sources (Ok (opened 0 (with_text file t m s1))) refl refl (omega arith)
    (IsThen.found s1 _ (sym counts') (IsThen.found (with_text file t m s1) _ (IsWritten.written tokens t m has is (nests m.marks still) same marks table) refl))

flat_text : (g : Given) (file : Source) (s1 : Sources) (tokens : List Token) → counted_bytes (length file.name + 8 + length file.text) start (listed_name file.name no_sources) ≡ Ok s1 → tokens_of 0 file.text ≡ Ok tokens → list_all is_plain_token tokens ≡ true → length tokens ≤ 4194304 → Reaches (IsExpandedFrom g file) (record { tokens = tokens; files = s1.files ++ file ∷ []; messages = []; names = s1.names })
flat_text g file s1 tokens counts' has plain few =
    let still : list_all is_still (marked tokens [] s1.words).marks ≡ true = marks_still tokens [] s1.words plain refl in
    let long : length (marked tokens [] s1.words).marks ≡ length tokens = (let raw = marks_long tokens [] s1.words in omega (arith, raw)) in
    let table = has_table (marked tokens [] s1.words).marks still in
    by_table (marked tokens [] s1.words) table.0 refl still long table.1 table.2
  where
    by_table : (m : Marked) (ends : List ℕ) → marked tokens [] s1.words ≡ m → list_all is_still m.marks ≡ true → length m.marks ≡ length tokens → length ends ≡ (length m.marks + 1) * 10 → IsTable m.marks 0 ends → Reaches (IsExpandedFrom g file) (record { tokens = tokens; files = s1.files ++ file ∷ []; messages = []; names = s1.names })
    by_table m ends is still long size filled =
        let t : Text = text tokens m.marks ends in
        let there : text_at (with_text file (text tokens m.marks ends) m s1) 0 ≡ text tokens m.marks ends = ap (λ xs. unwrap_or (slice_get (xs ++ text tokens m.marks ends ∷ []) 0) (text [] [] [])) (counted_as (length file.name + 8 + length file.text) file.name s1 counts') in
        let open' : IsOpened file start no_sources (Ok (opened 0 (with_text file (text tokens m.marks ends) m s1))) =
        opens file s1 tokens (text tokens m.marks ends) m counts' has is still refl refl (record { small = omega (arith, long, few); tokens = long; length = size; filled = filled }) in
        Reaches.reaches (course (handed_out tokens) (with_text file (text tokens m.marks ends) m s1)) refl
        (from_rest g file 0 no_sources (with_text file (text tokens m.marks ends) m s1) _ refl open' (expands g (with_text file (text tokens m.marks ends) m s1) 0 (text tokens m.marks ends) tokens there refl still long few))

pub comes_flat : (g : Given) (file : Source) (none s1 : Sources) (tokens : List Token) (files : List Source) (names : List (List ℕ)) → none ≡ no_sources → counted_bytes (length file.name + 8 + length file.text) start (listed_name file.name none) ≡ Ok s1 → tokens_of 0 file.text ≡ Ok tokens → list_all is_plain_token tokens ≡ true → length tokens ≤ 4194304 → files ≡ s1.files ++ file ∷ [] → names ≡ s1.names → Reaches (IsExpandedFrom g file) (record { tokens = tokens; files = files; messages = []; names = names })
comes_flat g file none s1 tokens files names empty counts' has plain few kept same =
    subst (λ k. Reaches (IsExpandedFrom g file) (record { tokens = tokens; files = k; messages = []; names = names })) (sym kept)
    (subst (λ k. Reaches (IsExpandedFrom g file) (record { tokens = tokens; files = s1.files ++ file ∷ []; messages = []; names = k })) (sym same)
    (flat_text g file s1 tokens (subst (λ k. counted_bytes (length file.name + 8 + length file.text) start (listed_name file.name k) ≡ Ok s1) empty counts') has plain few))
