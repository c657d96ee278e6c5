use Rattle.std.proofs.Common.{FitsSigned, arith, to_z-of_z}
use Rattle.std.specs.Int.{w64}
use Rattle.finish_shade.proofs.Smooth.{smooth_amount}
use Rattle.finish_shade.proofs.lamps.smooth.Goals as goal

pub invariant_of-result : goal.invariant_of-result
invariant_of-result c =
    let v : FitsSigned w64 c.args.v = c.ranges.v in
    let result : FitsSigned w64 c.smooth_number.result = record { sfits = c.smooth_number.type_inv } in
    let is = simp to_z-of_z at c.smooth_number.ensures in
    rw (to_z-of_z result, is) (omega (arith, (smooth_amount c.args.v c.requires.low c.requires.high).high))

pub returns-clause-amount : goal.returns-clause-amount
returns-clause-amount c =
    let v : FitsSigned w64 c.args.v = c.ranges.v in
    let result : FitsSigned w64 c.smooth_number.result = record { sfits = c.smooth_number.type_inv } in
    let is = simp to_z-of_z at c.smooth_number.ensures in
    rw (to_z-of_z result, is) (smooth_amount c.args.v c.requires.low c.requires.high)
