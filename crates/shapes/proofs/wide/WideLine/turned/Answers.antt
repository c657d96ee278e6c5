use Rattle.std.proofs.Common.{rules, arith, pos, ◌-ℤ◌, FitsSigned}
use Rattle.std.proofs.lemmas.Int.{ints, to_z-of_z, fits_signed_from_abs}
use mir.Syntax.{w128}
use Rattle.shapes.proofs.Quotients.{product_neg}
use Rattle.shapes.proofs.wide.WideLine.turned.Goals as goal

pub returns-clause-value : goal.returns-clause-value
returns-clause-value c = λ t.
    let f : FitsSigned w128 c.args.self.now.at = search rules in
    let g : FitsSigned w128 c.args.self.now.step = search rules in
    let d : FitsSigned w128 (pos 0 -ℤ c.args.self.now.at) = fits_signed_from_abs w128 _ (omega (arith, ints)) in
    let p : FitsSigned w128 (pos 0 -ℤ c.args.self.now.step) = fits_signed_from_abs w128 _ (omega (arith, ints)) in
    let e = product_neg t c.args.self.now.step in
    simp to_z-of_z (omega (arith, ints))
