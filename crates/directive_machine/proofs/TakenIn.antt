-- Texts that are taken in.
use Rattle.std.proofs.lemmas.Bool.{le-ltb}
use Rattle.std.proofs.Common.{ℕ, ◌+◌, ◌≤◌, ◌≡◌, ◌≢◌, subst, sym, ap, ◌∙◌, refl, Bool, true, false, nat_lt, MatchBool, List, [], length, Result, Ok, Err}
use Rattle.scene_lexer.specs.declared.token.Token.{Token}
use Rattle.scene_lexer.specs.declared.token.Place.{Place}
use Rattle.scene_lexer.specs.declared.token.LexFault.{LexFault}
use Rattle.scene_lexer.specs.Tokens.{tokens_of}
use Rattle.scene_expr.specs.Then.{IsThen}
use Rattle.text_structure.specs.declared.levels.Misplaced.{Misplaced}
use Rattle.text_structure.specs.Levels.{structure}
use Rattle.text_structure.specs.Marks.{Vocabulary, marked}
use Rattle.text_structure.specs.Texts.{Text, IsText}
use Rattle.directive_machine.specs.declared.flat.Source.{Source}
use Rattle.directive_machine.specs.declared.stop.Stop.{Stop}
use Rattle.directive_machine.specs.Sources.{Sources, Unread, Opened, unread, opened, counted_bytes, listed_name, misplaced_stop, with_text, number_of_name, again, IsMisspelt, IsWritten, IsNew, IsOpened}

pub misspelt : (number file : ℕ) (bytes : List ℕ) (f : LexFault) (stop : Stop) → file ≡ number → (f ≢ LexFault.NoMemory) × (stop ≡ Stop.Lex f) → (f ≢ LexFault.NoMemory → tokens_of file bytes ≡ Err f) → IsMisspelt number bytes stop
misspelt number file bytes f stop same is wrong = subst (λ k. IsMisspelt number bytes k) (sym is.1) (IsMisspelt.lex f (subst (λ n. tokens_of n bytes ≡ Err f) same (wrong is.0)))

pub misspelt_in : (number : ℕ) (bytes : List ℕ) (file : Source) (s : Sources) (stop : Stop) → bytes ≡ file.text → IsMisspelt number bytes stop → IsWritten number file s (Err (unread stop s))
misspelt_in number bytes file s stop same is = IsWritten.misspelt stop (subst (λ b. IsMisspelt number b stop) same is)

pub written_in : (number : ℕ) (bytes : List ℕ) (file : Source) (s s' : Sources) (tokens : List Token) (t : Text) (words : Vocabulary) → bytes ≡ file.text → tokens_of number bytes ≡ Ok tokens → (t.tokens ≡ tokens) × (marked tokens [] s.words ≡ record { marks = t.marks; words = words }) → structure t.marks ≡ Ok 0 → IsText t → s' ≡ with_text file t (record { marks = t.marks; words = words }) s → IsWritten number file s (Ok s')
written_in number bytes file s s' tokens t words same has is nests text made =
    subst (λ k. IsWritten number file s (Ok k)) (sym made)
    (IsWritten.written tokens t _ (subst (λ b. tokens_of number b ≡ Ok tokens) same has) is.1 nests is.0 refl text)

pub misplaced_in : (number : ℕ) (bytes : List ℕ) (file : Source) (s s' : Sources) (tokens : List Token) (f : Misplaced) (stop : Stop) → bytes ≡ file.text → s'.names ≡ s.names → tokens_of number bytes ≡ Ok tokens → structure (marked tokens [] s.words).marks ≡ Err f → stop ≡ misplaced_stop tokens f → IsWritten number file s (Err (unread stop s'))
misplaced_in number bytes file s s' tokens f stop same names has wrong is =
    subst (λ k. IsWritten number file s (Err (record { stop = stop; names = k }))) (sym names)
    (subst (λ k. IsWritten number file s (Err (unread k s))) (sym is)
    (IsWritten.misplaced tokens f (subst (λ b. tokens_of number b ≡ Ok tokens) same has) wrong))

-- the structure's own want of memory is the expansion's
pub misplaced_some : (tokens : List Token) (f : Misplaced) (stop : Stop) → stop ≢ Stop.NoMemory → stop ≡ misplaced_stop tokens f → f ≢ Misplaced.NoMemory
misplaced_some tokens f stop some is none = some (is ∙ ap (misplaced_stop tokens) none)

-- a new text is counted, and then read
pub new_fault : (file : Source) (place : Place) (number : ℕ) (s : Sources) (f : Unread) → counted_bytes (length file.name + 8 + length file.text) place (listed_name file.name s) ≡ Err f → IsNew file place number s (Err f)
new_fault file place number s f is = IsThen.fault f (sym is)

pub new_stops : (file : Source) (place : Place) (number : ℕ) (s s' : Sources) (f : Unread) → counted_bytes (length file.name + 8 + length file.text) place (listed_name file.name s) ≡ Ok s' → IsWritten number file s' (Err f) → IsNew file place number s (Err f)
new_stops file place number s s' f is wrong = IsThen.found s' (Err f) (sym is) (IsThen.fault f wrong)

pub new_ok : (file : Source) (place : Place) (number : ℕ) (s s' s'' : Sources) → counted_bytes (length file.name + 8 + length file.text) place (listed_name file.name s) ≡ Ok s' → IsWritten number file s' (Ok s'') → IsNew file place number s (Ok (opened number s''))
new_ok file place number s s' s'' is wrote = IsThen.found s' _ (sym is) (IsThen.found s'' _ wrote refl)

-- a text that was read before, or a new one
by_known : (known : Bool) (P Q : Type 0) → known ≡ true → P → MatchBool known P Q
by_known true P Q is p = p
by_known false P Q is p = absurd (cc is)

by_new : (known : Bool) (P Q : Type 0) → known ≡ false → Q → MatchBool known P Q
by_new false P Q is q = q
by_new true P Q is q = absurd (cc is)

pub opened_again : (file : Source) (place : Place) (number : ℕ) (s : Sources) (r : Result Opened Unread) → number ≡ number_of_name s file.name → nat_lt number (length s.names) ≡ true → again file place number s ≡ r → IsOpened file place s r
opened_again file place number s r is known same =
    subst (λ n. MatchBool (nat_lt n (length s.names)) (r ≡ again file place n s) (IsNew file place n s r)) is
    (by_known (nat_lt number (length s.names)) (r ≡ again file place number s) (IsNew file place number s r) known (sym same))

pub opened_new : (file : Source) (place : Place) (number count : ℕ) (s : Sources) (r : Result Opened Unread) → number ≡ number_of_name s file.name → count ≡ length s.names → count ≤ number → IsNew file place number s r → IsOpened file place s r
opened_new file place number count s r is counts known new =
    subst (λ n. MatchBool (nat_lt n (length s.names)) (r ≡ again file place n s) (IsNew file place n s r)) is
    (by_new (nat_lt number (length s.names)) (r ≡ again file place number s) (IsNew file place number s r) (le-ltb number (length s.names) (subst (λ n. n ≤ number) counts known)) new)
