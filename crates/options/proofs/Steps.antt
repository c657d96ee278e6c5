-- One step after another, each with what it answers.
use Rattle.std.proofs.Common.{◌≡◌, Result, Ok, Err, sym, ap, subst}
use Rattle.options.specs.declared.fault.OptionFault.{OptionFault}
use Rattle.options.specs.declared.fault.OptionFault.TheVariants.{UnknownWord, BadNumber, Missing, Range, AbsentIni, BadLine, OutOfProfile, TextFault, NoMemory}
use Rattle.options.specs.declared.draft.Draft.{Draft}
use Rattle.options.specs.declared.draft.Setting.{Setting}
use Rattle.options.specs.Outcomes.{◌>>=◌, Answers}
use Rattle.options.specs.Drafts.{IsFit, IsRead}

-- behind a step that is done
pub then_ok : {A : Type 0} (meant : Result A OptionFault) (a : A) (next : A → Result Draft OptionFault) (got : Result Draft OptionFault) → meant ≡ Ok a → IsRead (next a) got → IsRead (meant >>= next) got
then_ok meant a next got is read = subst (λ m. IsRead (m >>= next) got) (sym is) read

-- a step that stops
pub then_err : {A B : Type 0} (meant : Result A OptionFault) (fault : OptionFault) (next : A → Result B OptionFault) → Answers meant (Err fault) → Answers (meant >>= next) (Err fault)
then_err meant (UnknownWord place) next stops = ap (λ m. m >>= next) stops
then_err meant (BadNumber place) next stops = ap (λ m. m >>= next) stops
then_err meant (Missing place) next stops = ap (λ m. m >>= next) stops
then_err meant (Range place) next stops = ap (λ m. m >>= next) stops
then_err meant (AbsentIni place) next stops = ap (λ m. m >>= next) stops
then_err meant (BadLine place) next stops = ap (λ m. m >>= next) stops
then_err meant (OutOfProfile place) next stops = ap (λ m. m >>= next) stops
then_err meant TextFault next stops = stops
then_err meant NoMemory next stops = tt

-- what is meant is an answer
pub exact : (meant : Result Setting OptionFault) (fault : OptionFault) → IsFit (Err fault) → Err fault ≡ meant → Answers meant (Err fault)
exact meant (UnknownWord place) own is = sym is
exact meant (BadNumber place) own is = sym is
exact meant (Missing place) own is = sym is
exact meant (Range place) own is = sym is
exact meant (AbsentIni place) own is = sym is
exact meant (BadLine place) own is = sym is
exact meant (OutOfProfile place) own is = sym is
exact meant TextFault own is = own
exact meant NoMemory own is = tt
