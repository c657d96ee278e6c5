-- Words one after another, over texts that tell what they hold.
use Rattle.std.proofs.Common.{◌≡◌, ℕ, ◌+◌, ◌<◌, ◌≤◌, true, false, nat_lt, List, [], ◌∷◌, length, Result, Ok, Err, sym, ap, subst, arith}
use Rattle.std.proofs.lemmas.Bool.Decides.{nat_tests}
use Rattle.directive_machine.specs.declared.texts.Text.{Text}
use Rattle.options.specs.declared.fault.Where.TheVariants.{Word}
use Rattle.options.specs.declared.fault.OptionFault.{OptionFault}
use Rattle.options.specs.declared.fault.OptionFault.TheVariants.{UnknownWord, BadNumber, Missing, Range, AbsentIni, BadLine, OutOfProfile, TextFault, NoMemory}
use Rattle.options.specs.declared.draft.Draft.{Draft}
use Rattle.options.specs.Outcomes.{◌>>=◌, Answers, Reads}
use Rattle.options.specs.Drafts.{first_draft}
use Rattle.options.specs.Plans.{word_read, words_read, completed, plan_of}
use Rattle.options.proofs.Steps.{then_err}

-- an answer without texts is one with them
pub read_of : {A : Type 0} (meant got : Result A OptionFault) → Answers meant got → Reads meant got
read_of meant (Ok x) is = is
read_of meant (Err (UnknownWord place)) is = is
read_of meant (Err (BadNumber place)) is = is
read_of meant (Err (Missing place)) is = is
read_of meant (Err (Range place)) is = is
read_of meant (Err (AbsentIni place)) is = is
read_of meant (Err (BadLine place)) is = is
read_of meant (Err (OutOfProfile place)) is = is
read_of meant (Err TextFault) is = tt
read_of meant (Err NoMemory) is = is

-- a step that stops
pub stops : {A B : Type 0} (meant : Result A OptionFault) (fault : OptionFault) (next : A → Result B OptionFault) → Reads meant (Err fault) → Reads (meant >>= next) (Err fault)
stops meant (UnknownWord place) next is = then_err meant (UnknownWord place) next is
stops meant (BadNumber place) next is = then_err meant (BadNumber place) next is
stops meant (Missing place) next is = then_err meant (Missing place) next is
stops meant (Range place) next is = then_err meant (Range place) next is
stops meant (AbsentIni place) next is = then_err meant (AbsentIni place) next is
stops meant (BadLine place) next is = then_err meant (BadLine place) next is
stops meant (OutOfProfile place) next is = then_err meant (OutOfProfile place) next is
stops meant TextFault next is = tt
stops meant NoMemory next is = tt

-- a step that is done, and then the next
pub goes : {A B : Type 0} (meant : Result A OptionFault) (a : A) (next : A → Result B OptionFault) (got : Result B OptionFault) → meant ≡ Ok a → Answers (next a) got → Reads (meant >>= next) got
goes meant a next got is answers = subst (λ m. Reads (m >>= next) got) (sym is) (read_of (next a) got answers)

pub words-cons : (h : List Text) (n : ℕ) (words : List (List ℕ)) (word : List ℕ) (rest : List (List ℕ)) (draft : Draft) → words ≡ word ∷ rest → words_read h n words draft ≡ (word_read h n word draft >>= λ next. words_read h (n + 1) rest next)
unfolding words_read
words-cons h n words word rest draft e = ap (λ ws. words_read h n ws draft) e

pub words-none : (h : List Text) (n : ℕ) (words : List (List ℕ)) (draft : Draft) → words ≡ [] → words_read h n words draft ≡ Ok draft
unfolding words_read
words-none h n words draft e = ap (λ ws. words_read h n ws draft) e

pub plan-many : (h : List Text) (words : List (List ℕ)) → 65536 < length words → plan_of h words ≡ Err (Range (Word 0))
unfolding plan_of
plan-many h words many = let e : nat_lt 65536 (length words) ≡ true = grind (arith, nat_tests) in rw e

pub plan-few : (h : List Text) (words : List (List ℕ)) → length words ≤ 65536 → plan_of h words ≡ (words_read h 1 words first_draft >>= completed)
unfolding plan_of
plan-few h words few = let e : nat_lt 65536 (length words) ≡ false = grind (arith, nat_tests) in rw e
