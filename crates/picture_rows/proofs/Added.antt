-- What holds of each element of a list and of one more holds of each of the longer list.
use Rattle.std.proofs.Common.{◌≡◌, List, [], ◌∷◌, ◌++◌, IfOk, Result, Ok, Err, subst, sym}
use Rattle.std.specs.List.{All}
use Rattle.std.proofs.lemmas.List.Elements.{All-append, All-cons, All-nil}

pub all_added : {A E V : Type 0} (items : V → List A) (P : A → Type 0) (old : List A) (x : A) (r : Result V E) → All P old → P x → IfOk r (λ new. items new ≡ old ++ x ∷ []) → IfOk r (λ new. All P (items new))
all_added items P old x (Ok new) all one e = subst (All P) (sym e) (All-append P old (x ∷ []) all (All-cons P x [] one (All-nil P)))
all_added items P old x (Err e) all one h = tt
