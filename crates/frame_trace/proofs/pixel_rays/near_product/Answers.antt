use Rattle.std.proofs.Common.{◌^◌, ◌*ℤ◌, FitsSigned, arith, to_z-of_z}
use Rattle.std.specs.Int.{w64}
use Rattle.std.proofs.lemmas.Int.{fits_signed_mul}
use Rattle.fix_math.specs.Order.{mul-within}
use Rattle.frame_trace.proofs.pixel_rays.near_product.Goals as goal

pub returns-clause-value : goal.returns-clause-value
returns-clause-value c =
    let a : FitsSigned w64 c.args.a = c.ranges.a in
    let b : FitsSigned w64 c.args.b = c.ranges.b in
    let product : FitsSigned w64 (c.args.a *ℤ c.args.b) = fits_signed_mul w64 c.args.a c.args.b (2 ^ 36) (2 ^ 25) c.requires.a_small c.requires.b_small (omega arith) in
    simp to_z-of_z

pub returns-clause-small : goal.returns-clause-small
returns-clause-small c =
    let a : FitsSigned w64 c.args.a = c.ranges.a in
    let b : FitsSigned w64 c.args.b = c.ranges.b in
    let product : FitsSigned w64 (c.args.a *ℤ c.args.b) = fits_signed_mul w64 c.args.a c.args.b (2 ^ 36) (2 ^ 25) c.requires.a_small c.requires.b_small (omega arith) in
    simp to_z-of_z (omega (arith, mul-within c.args.a c.args.b (2 ^ 36) (2 ^ 25) c.requires.a_small c.requires.b_small))
