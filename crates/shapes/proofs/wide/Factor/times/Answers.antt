use Rattle.std.proofs.Common.{rules, arith, ◌*ℤ◌, FitsSigned, w64, pos}
use Rattle.std.proofs.lemmas.Int.{ints, to_z-of_z, fits_signed_from_abs}
use mir.Syntax.{w128}
use Rattle.shapes.proofs.WideLemmas.{factor_at, factor_step, product_line}
use Rattle.shapes.proofs.wide.Factor.times.Goals as goal

pub invariant_of-result : goal.invariant_of-result
invariant_of-result c =
    let f : FitsSigned w64 c.args.self.value = search rules in
    let f1 : FitsSigned w128 c.args.self.value = fits_signed_from_abs w128 _ (omega (arith, ints, c.args.self.small)) in
    let g : FitsSigned w64 c.args.line.now.at = search rules in
    let h : FitsSigned w64 c.args.line.now.step = search rules in
    let g1 : FitsSigned w128 c.args.line.now.at = fits_signed_from_abs w128 _ (omega (arith, ints, c.requires)) in
    let h1 : FitsSigned w128 c.args.line.now.step = fits_signed_from_abs w128 _ (omega (arith, ints, c.args.line.now.step_small)) in
    let a = factor_at c.args.self.value c.args.line.now.at c.args.self.small c.requires in
    let b = factor_step c.args.self.value c.args.line.now.step c.args.self.small c.args.line.now.step_small in
    let p : FitsSigned w128 (c.args.self.value *ℤ c.args.line.now.at) = fits_signed_from_abs w128 _ (omega (arith, ints, a)) in
    let q : FitsSigned w128 (c.args.self.value *ℤ c.args.line.now.step) = fits_signed_from_abs w128 _ (omega (arith, ints, b)) in
    simp to_z-of_z (record { at_small = omega (arith, a); step_small = omega (arith, b) })

pub returns-clause-value : goal.returns-clause-value
returns-clause-value c = λ t.
    let f : FitsSigned w64 c.args.self.value = search rules in
    let f1 : FitsSigned w128 c.args.self.value = fits_signed_from_abs w128 _ (omega (arith, ints, c.args.self.small)) in
    let g : FitsSigned w64 c.args.line.now.at = search rules in
    let h : FitsSigned w64 c.args.line.now.step = search rules in
    let g1 : FitsSigned w128 c.args.line.now.at = fits_signed_from_abs w128 _ (omega (arith, ints, c.requires)) in
    let h1 : FitsSigned w128 c.args.line.now.step = fits_signed_from_abs w128 _ (omega (arith, ints, c.args.line.now.step_small)) in
    let a = factor_at c.args.self.value c.args.line.now.at c.args.self.small c.requires in
    let b = factor_step c.args.self.value c.args.line.now.step c.args.self.small c.args.line.now.step_small in
    let p : FitsSigned w128 (c.args.self.value *ℤ c.args.line.now.at) = fits_signed_from_abs w128 _ (omega (arith, ints, a)) in
    let q : FitsSigned w128 (c.args.self.value *ℤ c.args.line.now.step) = fits_signed_from_abs w128 _ (omega (arith, ints, b)) in
    simp to_z-of_z (product_line c.args.self.value c.args.line.now.at c.args.line.now.step (pos t))

pub returns-clause-at_small : goal.returns-clause-at_small
returns-clause-at_small c =
    let f : FitsSigned w64 c.args.self.value = search rules in
    let f1 : FitsSigned w128 c.args.self.value = fits_signed_from_abs w128 _ (omega (arith, ints, c.args.self.small)) in
    let g : FitsSigned w64 c.args.line.now.at = search rules in
    let h : FitsSigned w64 c.args.line.now.step = search rules in
    let g1 : FitsSigned w128 c.args.line.now.at = fits_signed_from_abs w128 _ (omega (arith, ints, c.requires)) in
    let h1 : FitsSigned w128 c.args.line.now.step = fits_signed_from_abs w128 _ (omega (arith, ints, c.args.line.now.step_small)) in
    let a = factor_at c.args.self.value c.args.line.now.at c.args.self.small c.requires in
    let b = factor_step c.args.self.value c.args.line.now.step c.args.self.small c.args.line.now.step_small in
    let p : FitsSigned w128 (c.args.self.value *ℤ c.args.line.now.at) = fits_signed_from_abs w128 _ (omega (arith, ints, a)) in
    let q : FitsSigned w128 (c.args.self.value *ℤ c.args.line.now.step) = fits_signed_from_abs w128 _ (omega (arith, ints, b)) in
    simp to_z-of_z a

pub returns-clause-step_small : goal.returns-clause-step_small
returns-clause-step_small c =
    let f : FitsSigned w64 c.args.self.value = search rules in
    let f1 : FitsSigned w128 c.args.self.value = fits_signed_from_abs w128 _ (omega (arith, ints, c.args.self.small)) in
    let g : FitsSigned w64 c.args.line.now.at = search rules in
    let h : FitsSigned w64 c.args.line.now.step = search rules in
    let g1 : FitsSigned w128 c.args.line.now.at = fits_signed_from_abs w128 _ (omega (arith, ints, c.requires)) in
    let h1 : FitsSigned w128 c.args.line.now.step = fits_signed_from_abs w128 _ (omega (arith, ints, c.args.line.now.step_small)) in
    let a = factor_at c.args.self.value c.args.line.now.at c.args.self.small c.requires in
    let b = factor_step c.args.self.value c.args.line.now.step c.args.self.small c.args.line.now.step_small in
    let p : FitsSigned w128 (c.args.self.value *ℤ c.args.line.now.at) = fits_signed_from_abs w128 _ (omega (arith, ints, a)) in
    let q : FitsSigned w128 (c.args.self.value *ℤ c.args.line.now.step) = fits_signed_from_abs w128 _ (omega (arith, ints, b)) in
    simp to_z-of_z b
