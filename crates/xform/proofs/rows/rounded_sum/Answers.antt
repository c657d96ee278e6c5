use Rattle.std.proofs.Common.{◌^◌, FitsSigned, arith, to_z-of_z}
use Rattle.std.specs.Int.{w128}
use Rattle.fix_math.specs.Floor.{shortened_within}
use Rattle.xform.proofs.rows.rounded_sum.Goals as goal

pub returns-clause-small : goal.returns-clause-small
returns-clause-small c =
    let sum : FitsSigned w128 c.row_dot.result = record { sfits = c.row_dot.type_inv } in
    let result : FitsSigned w128 c.rounded_shift.result = record { sfits = c.rounded_shift.type_inv } in
    let is = simp to_z-of_z at c.rounded_shift.ensures.value in
    rw (to_z-of_z result, is) (shortened_within c.row_dot.result c.args.bits (2 ^ 125) (omega (arith, c.row_dot.ensures.small)))
