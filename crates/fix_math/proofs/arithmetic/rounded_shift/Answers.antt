use Rattle.std.proofs.Common.{◌+ℤ◌, ◌^◌, FitsSigned, arith, to_z-of_z}
use Rattle.std.proofs.lemmas.Int.{ints, fits_signed_from_abs}
use Rattle.std.specs.Int.{w128}
use Rattle.fix_math.proofs.ShiftLemmas.{shr_fits, shr-rnd}
use Rattle.fix_math.proofs.arithmetic.rounded_shift.Goals as goal

pub returns-else-bits-eq0 : goal.returns-else-bits-eq0
returns-else-bits-eq0 c =
    let value : FitsSigned w128 c.args.value = c.ranges.value in
    let half : FitsSigned w128 c.power_of_two.result = record { sfits = c.power_of_two.type_inv } in
    let sum : FitsSigned w128 (c.args.value +ℤ c.power_of_two.result) = fits_signed_from_abs w128 _ (omega (arith, ints)) in
    let shifted = shr_fits (c.args.value +ℤ c.power_of_two.result) (2 ^ c.args.bits) sum in
    record { value = simp to_z-of_z (shr-rnd c.args.value c.power_of_two.result c.args.bits (omega arith) c.power_of_two.ensures.value) }
