-- The steps of a transform, one after another.
use Rattle.std.specs.Prelude.{◌≡◌, ℕ, ◌+◌, ◌<◌, ◌≤◌, List, [], ◌∷◌, Result, Ok, Err, length, refl}
use Rattle.std.proofs.Common.{ap, sym, ◌∙◌, add-one, drop, drop-cons, get_or}
use Rattle.std.proofs.Math.ListN.{drop_of_length-le}
use Rattle.xform.specs.declared.transform.Xform.{Xform}
use Rattle.xform.specs.declared.transform.Step.{Step}
use Rattle.xform.specs.declared.transform.XformFault.{XformFault}
use Rattle.xform.specs.Transforms.{after, then_of, composed_from}

composed-cons : (x : Xform) (s : Step) (rest : List Step) → composed_from x (s ∷ rest) ≡ after (then_of x s) (λ y. composed_from y rest)
unfolding composed_from
composed-cons x s rest = refl

composed-none : (x : Xform) → composed_from x [] ≡ Ok x
unfolding composed_from
composed-none x = refl

front : (steps : List Step) (i : ℕ) (s : Step) → s ≡ get_or steps i s → i < length steps → drop i steps ≡ s ∷ drop (i + 1) steps
front steps i s e lt = rw (add-one, drop-cons steps i s) (rw (← e) refl)

pub composed-ok : (x y : Xform) (steps : List Step) (i : ℕ) (s : Step) → s ≡ get_or steps i s → i < length steps → Ok y ≡ then_of x s → composed_from x (drop i steps) ≡ composed_from y (drop (i + 1) steps)
composed-ok x y steps i s e lt step =
    ap (composed_from x) (front steps i s e lt) ∙ composed-cons x s (drop (i + 1) steps) ∙ ap (λ (r : Result Xform XformFault). after r (λ y. composed_from y (drop (i + 1) steps))) (sym step)

pub composed-err : (x : Xform) (f : XformFault) (steps : List Step) (i : ℕ) (s : Step) → s ≡ get_or steps i s → i < length steps → Err f ≡ then_of x s → composed_from x (drop i steps) ≡ Err f
composed-err x f steps i s e lt step =
    ap (composed_from x) (front steps i s e lt) ∙ composed-cons x s (drop (i + 1) steps) ∙ ap (λ (r : Result Xform XformFault). after r (λ y. composed_from y (drop (i + 1) steps))) (sym step)

pub composed-end : (x : Xform) (steps : List Step) (i : ℕ) → length steps ≤ i → composed_from x (drop i steps) ≡ Ok x
composed-end x steps i le = ap (composed_from x) (drop_of_length-le steps le) ∙ composed-none x
