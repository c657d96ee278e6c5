-- Things moved in a row, each by one step.
use Rattle.std.proofs.Common.{◌≡◌, ◌<◌, ◌+◌, ℕ, List, [], ◌∷◌, ◌++◌, take, drop, length, Result, Ok, Err, refl, sym, ap, ◌∙◌, arith, append_assoc, get_or, add-one}
use Rattle.std.proofs.Math.ListN.{set}
use Rattle.std.proofs.Math.Seq.{drop-cons}
use Rattle.std.proofs.lemmas.List.{take_more_set, drop-set-lt}
use Rattle.xform.specs.declared.transform.Step.{Step}
use Rattle.xform.specs.declared.transform.Xform.{Xform}
use Rattle.xform.specs.declared.transform.XformFault.{XformFault}
use Rattle.xform.specs.Transforms.{then_of}
use Rattle.item_blocks.specs.Steps.{with_moved, and_moved, all_moved}

-- ---- things moved in a row

abbrev pub joined : List Xform → Result (List Xform) XformFault → Result (List Xform) XformFault
joined front (Ok xs) = Ok (front ++ xs)
joined front (Err fault) = Err fault

pub joined_further : (front : List Xform) (y : Xform) (r : Result (List Xform) XformFault) → joined front (with_moved y r) ≡ joined (front ++ y ∷ []) r
joined_further front y (Ok xs) = ap Ok (sym (append_assoc front (y ∷ []) xs))
joined_further front y (Err fault) = refl

-- one thing more is moved
pub moved_further : (step : Step) (xs : List Xform) (i : ℕ) (d y : Xform) → i < length xs → Ok y ≡ then_of (get_or xs i d) step → joined (take i xs) (all_moved step (drop i xs)) ≡ joined (take (i + 1) (set xs i y)) (all_moved step (drop (i + 1) (set xs i y)))
moved_further step xs i d y within is =
    let here : drop i xs ≡ get_or xs i d ∷ drop (i + 1) xs = rw add-one (drop-cons xs i d within) in
    let front : take (i + 1) (set xs i y) ≡ take i xs ++ y ∷ [] = take_more_set xs i y within in
    let rest : drop (i + 1) (set xs i y) ≡ drop (i + 1) xs = drop-set-lt (i + 1) xs i y (omega arith) in
    ap (λ ds. joined (take i xs) (all_moved step ds)) here
    ∙ ap (λ m. joined (take i xs) (and_moved m (all_moved step (drop (i + 1) xs)))) (sym is)
    ∙ joined_further (take i xs) y (all_moved step (drop (i + 1) xs))
    ∙ ap (λ t. joined t (all_moved step (drop (i + 1) xs))) (sym front)
    ∙ ap (λ ds. joined (take (i + 1) (set xs i y)) (all_moved step ds)) (sym rest)
