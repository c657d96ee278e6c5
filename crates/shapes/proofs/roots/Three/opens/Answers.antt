use Rattle.std.proofs.Common.{rules, arith, ◌-ℤ◌, FitsSigned}
use Rattle.std.proofs.lemmas.Int.{ints, to_z-of_z, fits_signed_from_abs}
use mir.Syntax.{w128}
use Rattle.shapes.proofs.Bent.{true_le, le_true}
use Rattle.shapes.proofs.roots.Three.opens.Goals as goal

pub returns : goal.returns
returns c =
    let f1 : FitsSigned w128 c.args.self.now.first = search rules in
    let f2 : FitsSigned w128 c.args.self.now.middle = search rules in
    let f3 : FitsSigned w128 c.args.self.now.last = search rules in
    let g1 : FitsSigned w128 (c.args.self.now.middle -ℤ c.args.self.now.first) = fits_signed_from_abs w128 _ (omega (arith, ints)) in
    let g2 : FitsSigned w128 (c.args.self.now.last -ℤ c.args.self.now.middle) = fits_signed_from_abs w128 _ (omega (arith, ints)) in
    simp to_z-of_z (λ h. true_le _ _ h, λ h. le_true _ _ h)
