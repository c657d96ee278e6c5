use Rattle.std.proofs.Common.{◌^◌, ◌*ℤ◌, FitsSigned, arith, to_z-of_z}
use Rattle.std.specs.Int.{w128}
use Rattle.std.proofs.lemmas.Int.{fits_signed_mul}
use Rattle.fix_math.specs.Order.{mul-within}
use Rattle.pigment.proofs.maps.product.Goals as goal

pub returns-clause-value : goal.returns-clause-value
returns-clause-value c =
    let a : FitsSigned w128 c.args.a = c.ranges.a in
    let b : FitsSigned w128 c.args.b = c.ranges.b in
    let product : FitsSigned w128 (c.args.a *ℤ c.args.b) = fits_signed_mul w128 c.args.a c.args.b (2 ^ 48) (2 ^ 48) c.requires.a_small c.requires.b_small (omega arith) in
    simp to_z-of_z

pub returns-clause-small : goal.returns-clause-small
returns-clause-small c =
    let a : FitsSigned w128 c.args.a = c.ranges.a in
    let b : FitsSigned w128 c.args.b = c.ranges.b in
    let product : FitsSigned w128 (c.args.a *ℤ c.args.b) = fits_signed_mul w128 c.args.a c.args.b (2 ^ 48) (2 ^ 48) c.requires.a_small c.requires.b_small (omega arith) in
    simp to_z-of_z (omega (arith, mul-within c.args.a c.args.b (2 ^ 48) (2 ^ 48) c.requires.a_small c.requires.b_small))
