use Rattle.std.proofs.Common.{rules, arith, ◌+ℤ◌, FitsSigned, refl}
use Rattle.std.proofs.lemmas.Int.{to_z-of_z, fits_signed_from_abs}
use mir.Syntax.{w128}
use Rattle.shapes.proofs.MakingLemmas.{shares_sum, mixed_small}
use Rattle.shapes.proofs.making.mixed.Goals as goal

pub overflow_add-result-2 : goal.overflow_add-result-2
overflow_add-result-2 c =
    let f : FitsSigned w128 c.times-x.result.value = search rules in
    let g : FitsSigned w128 c.times-y.result.value = search rules in
    let h : FitsSigned w128 c.times-z.result.value = search rules in
    let m = shares_sum c.times-x.result.value c.times-y.result.value c.times-z.result.value c.times-x.result.small c.times-y.result.small c.times-z.result.small in
    let p : FitsSigned w128 (c.times-x.result.value +ℤ c.times-y.result.value) = fits_signed_from_abs w128 _ (omega (arith, m.0)) in
    let q : FitsSigned w128 (c.times-x.result.value +ℤ c.times-y.result.value +ℤ c.times-z.result.value) = fits_signed_from_abs w128 _ (omega (arith, m.1)) in
    simp to_z-of_z q

pub invariant_of-result : goal.invariant_of-result
invariant_of-result c =
    let f : FitsSigned w128 c.times-x.result.value = search rules in
    let g : FitsSigned w128 c.times-y.result.value = search rules in
    let h : FitsSigned w128 c.times-z.result.value = search rules in
    let m = shares_sum c.times-x.result.value c.times-y.result.value c.times-z.result.value c.times-x.result.small c.times-y.result.small c.times-z.result.small in
    let p : FitsSigned w128 (c.times-x.result.value +ℤ c.times-y.result.value) = fits_signed_from_abs w128 _ (omega (arith, m.0)) in
    let q : FitsSigned w128 (c.times-x.result.value +ℤ c.times-y.result.value +ℤ c.times-z.result.value) = fits_signed_from_abs w128 _ (omega (arith, m.1)) in
    simp to_z-of_z (record { small = m.1 })

pub returns-clause-value : goal.returns-clause-value
returns-clause-value c =
    let f : FitsSigned w128 c.times-x.result.value = search rules in
    let g : FitsSigned w128 c.times-y.result.value = search rules in
    let h : FitsSigned w128 c.times-z.result.value = search rules in
    let m = shares_sum c.times-x.result.value c.times-y.result.value c.times-z.result.value c.times-x.result.small c.times-y.result.small c.times-z.result.small in
    let p : FitsSigned w128 (c.times-x.result.value +ℤ c.times-y.result.value) = fits_signed_from_abs w128 _ (omega (arith, m.0)) in
    let q : FitsSigned w128 (c.times-x.result.value +ℤ c.times-y.result.value +ℤ c.times-z.result.value) = fits_signed_from_abs w128 _ (omega (arith, m.1)) in
    simp to_z-of_z (rw (c.times-x.ensures, c.times-y.ensures, c.times-z.ensures) refl)

pub returns-clause-small : goal.returns-clause-small
returns-clause-small c = λ n ha hb hc.
    let f : FitsSigned w128 c.times-x.result.value = search rules in
    let g : FitsSigned w128 c.times-y.result.value = search rules in
    let h : FitsSigned w128 c.times-z.result.value = search rules in
    let m = shares_sum c.times-x.result.value c.times-y.result.value c.times-z.result.value c.times-x.result.small c.times-y.result.small c.times-z.result.small in
    let p : FitsSigned w128 (c.times-x.result.value +ℤ c.times-y.result.value) = fits_signed_from_abs w128 _ (omega (arith, m.0)) in
    let q : FitsSigned w128 (c.times-x.result.value +ℤ c.times-y.result.value +ℤ c.times-z.result.value) = fits_signed_from_abs w128 _ (omega (arith, m.1)) in
    let v = c.args.normal.now in let d = c.requires in
    simp to_z-of_z (rw (c.times-x.ensures, c.times-y.ensures, c.times-z.ensures) (mixed_small v.x v.y v.z c.args.a.value c.args.b.value c.args.c.value n d.first d.second d.third ha hb hc))
