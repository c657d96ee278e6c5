use Rattle.std.proofs.Common.{◌+ℤ◌, FitsSigned, arith, to_z-of_z}
use Rattle.std.specs.Int.{w128}
use Rattle.std.proofs.lemmas.Int.{ints, fits_signed_from_abs}
use Rattle.fix_math.proofs.arithmetic.rounded.Goals as goal

-- none of the three sums wraps
pub returns : goal.returns
returns c =
    let dividend : FitsSigned w128 c.args.dividend = c.ranges.dividend in
    let divisor : FitsSigned w128 c.args.divisor = c.ranges.divisor in
    let twice : FitsSigned w128 (c.args.dividend +ℤ c.args.dividend) = fits_signed_from_abs w128 _ (omega (arith, ints)) in
    let sum : FitsSigned w128 ((c.args.dividend +ℤ c.args.dividend) +ℤ c.args.divisor) = fits_signed_from_abs w128 _ (omega (arith, ints)) in
    let double : FitsSigned w128 (c.args.divisor +ℤ c.args.divisor) = fits_signed_from_abs w128 _ (omega (arith, ints)) in
    let quotient : FitsSigned w128 c.div_euclid.result = record { sfits = c.div_euclid.type_inv } in
    let is = simp to_z-of_z at c.div_euclid.ensures in
    record { value = simp to_z-of_z is }
