use Rattle.std.proofs.Common.{FitsSigned, arith, to_z-of_z}
use Rattle.std.specs.Int.{w128}
use Rattle.pigment.proofs.Bounds.{coordinate_small}
use Rattle.pigment.proofs.space.coordinate.Goals as goal

pub from_known-requires : goal.from_known-requires
from_known-requires c =
    let sum : FitsSigned w128 c.row_dot.result = record { sfits = c.row_dot.type_inv } in
    let result : FitsSigned w128 c.rounded_shift.result = record { sfits = c.rounded_shift.type_inv } in
    let is = simp to_z-of_z at c.rounded_shift.ensures.value in
    rw (to_z-of_z result, is, c.row_dot.ensures.value) (omega (arith, coordinate_small c.args.row.now c.args.seen.now c.requires.row c.requires.seen))

pub returns-clause-small : goal.returns-clause-small
returns-clause-small c =
    let sum : FitsSigned w128 c.row_dot.result = record { sfits = c.row_dot.type_inv } in
    let result : FitsSigned w128 c.rounded_shift.result = record { sfits = c.rounded_shift.type_inv } in
    let is = simp to_z-of_z at c.rounded_shift.ensures.value in
    rw (c.from_known.ensures, to_z-of_z result, is, c.row_dot.ensures.value) (coordinate_small c.args.row.now c.args.seen.now c.requires.row c.requires.seen)
