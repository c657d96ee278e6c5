use Rattle.std.proofs.Common.{rules, arith, ◌+ℤ◌, FitsSigned, pos}
use Rattle.std.proofs.lemmas.Int.{ints, to_z-of_z}
use mir.Syntax.{w128}
use Rattle.shapes.proofs.WideLemmas.{sum_line, sums_fit}
use Rattle.shapes.proofs.wide.WideLine.sum.Goals as goal

pub invariant_of-result : goal.invariant_of-result
invariant_of-result c =
    let a : FitsSigned w128 c.args.x.at = search rules in
    let b : FitsSigned w128 c.args.y.at = search rules in
    let d : FitsSigned w128 c.args.z.at = search rules in
    let e : FitsSigned w128 c.args.x.step = search rules in
    let f : FitsSigned w128 c.args.y.step = search rules in
    let g : FitsSigned w128 c.args.z.step = search rules in
    let at = sums_fit c.args.x.at c.args.y.at c.args.z.at c.requires.x_at c.requires.y_at c.requires.z_at in
    let h : FitsSigned w128 (c.args.x.at +ℤ c.args.y.at) = at.0 in
    let i : FitsSigned w128 (c.args.x.at +ℤ c.args.y.at +ℤ c.args.z.at) = at.1 in
    let steps = sums_fit c.args.x.step c.args.y.step c.args.z.step (omega (arith, c.requires.x_step)) (omega (arith, c.requires.y_step)) (omega (arith, c.requires.z_step)) in
    let j : FitsSigned w128 (c.args.x.step +ℤ c.args.y.step) = steps.0 in
    let k : FitsSigned w128 (c.args.x.step +ℤ c.args.y.step +ℤ c.args.z.step) = steps.1 in
    simp to_z-of_z (record { at_small = omega (arith, ints); step_small = omega (arith, ints) })

pub returns-clause-value : goal.returns-clause-value
returns-clause-value c = λ t.
    let a : FitsSigned w128 c.args.x.at = search rules in
    let b : FitsSigned w128 c.args.y.at = search rules in
    let d : FitsSigned w128 c.args.z.at = search rules in
    let e : FitsSigned w128 c.args.x.step = search rules in
    let f : FitsSigned w128 c.args.y.step = search rules in
    let g : FitsSigned w128 c.args.z.step = search rules in
    let at = sums_fit c.args.x.at c.args.y.at c.args.z.at c.requires.x_at c.requires.y_at c.requires.z_at in
    let h : FitsSigned w128 (c.args.x.at +ℤ c.args.y.at) = at.0 in
    let i : FitsSigned w128 (c.args.x.at +ℤ c.args.y.at +ℤ c.args.z.at) = at.1 in
    let steps = sums_fit c.args.x.step c.args.y.step c.args.z.step (omega (arith, c.requires.x_step)) (omega (arith, c.requires.y_step)) (omega (arith, c.requires.z_step)) in
    let j : FitsSigned w128 (c.args.x.step +ℤ c.args.y.step) = steps.0 in
    let k : FitsSigned w128 (c.args.x.step +ℤ c.args.y.step +ℤ c.args.z.step) = steps.1 in
    simp to_z-of_z (sum_line c.args.x.at c.args.y.at c.args.z.at c.args.x.step c.args.y.step c.args.z.step (pos t))
