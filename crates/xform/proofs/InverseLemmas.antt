-- The inverse of a matrix by the steps of the code.
use Rattle.std.specs.Prelude.{◌≡◌, ◌≢◌, zero, suc, ℤ, pos, negsuc, ◌*ℤ◌, List, Result, Err, Bool, false, if◌then◌else◌, refl}
use Rattle.std.specs.Ordering.{int_eq}
use Rattle.std.proofs.Common.{ap, sym, ◌∙◌, arith}
use Rattle.xform.specs.declared.transform.XformFault.{XformFault}
use Rattle.xform.specs.declared.transform.XformFault.TheVariants.{Singular}
use Rattle.fix_math.specs.Matrices.{entry, matrix, sum3}
use Rattle.xform.specs.Products.{adjugate_at, determinant}
use Rattle.xform.specs.Transforms.{inverse_entry, inverse_of, small_inverse, inverted}

isnt_zero : (z : ℤ) → z ≢ pos 0 → int_eq z (pos 0) ≡ false
isnt_zero (pos zero) some = absurd (some refl)
isnt_zero (pos (suc n)) some = grind arith
isnt_zero (negsuc n) some = refl

pub inverted-is : (g cofactors adjugate inverse : List (List ℤ)) (det : ℤ) (r : Result (List (List ℤ)) XformFault)
    → cofactors ≡ matrix (λ j i. adjugate_at g i j)
    → adjugate ≡ matrix (λ i j. entry cofactors j i)
    → det ≡ sum3 (λ k. entry g 0 k *ℤ entry cofactors 0 k)
    → det ≢ pos 0
    → inverse ≡ matrix (λ i j. inverse_entry (entry adjugate i j) det)
    → r ≡ small_inverse inverse
    → r ≡ inverted g
inverted-is g cofactors adjugate inverse det r cofactors_are adjugate_is det_is some inverse_is r_is =
    let d : det ≡ determinant g = det_is ∙ ap (λ (m : List (List ℤ)). sum3 (λ k. entry g 0 k *ℤ entry m 0 k)) cofactors_are in
    let a : adjugate ≡ matrix (adjugate_at g) = adjugate_is ∙ ap (λ (m : List (List ℤ)). matrix (λ i j. entry m j i)) cofactors_are in
    let i : inverse ≡ inverse_of g =
    inverse_is ∙ ap (λ (m : List (List ℤ)). matrix (λ i j. inverse_entry (entry m i j) det)) a ∙ ap (λ (t : ℤ). matrix (λ i j. inverse_entry (adjugate_at g i j) t)) d in
    let none : int_eq (determinant g) (pos 0) ≡ false = ap (λ (t : ℤ). int_eq t (pos 0)) (sym d) ∙ isnt_zero det some in
    r_is ∙ ap small_inverse i ∙ sym (ap (λ (b : Bool). if b then Err Singular else small_inverse (inverse_of g)) none)
