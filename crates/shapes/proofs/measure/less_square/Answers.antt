use Rattle.std.proofs.Common.{rules, arith, ◌+ℤ◌, ◌-ℤ◌, FitsSigned, refl}
use Rattle.std.proofs.lemmas.Int.{to_z-of_z, fits_signed_from_abs}
use mir.Syntax.{w128}
use Rattle.shapes.proofs.Squares.{small_sum, small_rest}
use Rattle.shapes.proofs.measure.less_square.Goals as goal

pub returns-clause-value : goal.returns-clause-value
returns-clause-value c =
    let x = c.args.x in let y = c.args.y in let r = c.args.r in
    let f : FitsSigned w128 x.value = search rules in
    let g : FitsSigned w128 y.value = search rules in
    let h : FitsSigned w128 r.value = search rules in
    let a : FitsSigned w128 (x.value +ℤ y.value) = fits_signed_from_abs w128 _ (omega (arith, small_sum x.value y.value x.low y.low x.small y.small)) in
    let b : FitsSigned w128 (x.value +ℤ y.value -ℤ r.value) = fits_signed_from_abs w128 _ (omega (arith, small_rest x.value y.value r.value x.low y.low r.low x.small y.small r.small)) in
    simp to_z-of_z refl

pub returns-clause-small : goal.returns-clause-small
returns-clause-small c =
    let x = c.args.x in let y = c.args.y in let r = c.args.r in
    let f : FitsSigned w128 x.value = search rules in
    let g : FitsSigned w128 y.value = search rules in
    let h : FitsSigned w128 r.value = search rules in
    let a : FitsSigned w128 (x.value +ℤ y.value) = fits_signed_from_abs w128 _ (omega (arith, small_sum x.value y.value x.low y.low x.small y.small)) in
    let m = small_rest x.value y.value r.value x.low y.low r.low x.small y.small r.small in
    let b : FitsSigned w128 (x.value +ℤ y.value -ℤ r.value) = fits_signed_from_abs w128 _ (omega (arith, m)) in
    simp to_z-of_z m
