use Rattle.std.proofs.Common.{FitsSigned, arith, to_z-of_z}
use Rattle.std.specs.Int.{w128}
use Rattle.pigment.proofs.Ways.{part_way_amount}
use Rattle.pigment.proofs.maps.strength.Goals as goal

pub from_known-requires : goal.from_known-requires
from_known-requires c =
    let way = c.args.way in
    let result : FitsSigned w128 c.part_way.result = record { sfits = c.part_way.type_inv } in
    let amount = part_way_amount c.args.from c.args.to way.done way.whole 65536 c.requires.from c.requires.to way.some way.within in
    rw (to_z-of_z result, c.part_way.ensures) (omega (arith, amount.high))

pub returns-clause-amount : goal.returns-clause-amount
returns-clause-amount c =
    let way = c.args.way in
    let result : FitsSigned w128 c.part_way.result = record { sfits = c.part_way.type_inv } in
    rw (c.from_known.ensures, to_z-of_z result, c.part_way.ensures)
    (part_way_amount c.args.from c.args.to way.done way.whole 65536 c.requires.from c.requires.to way.some way.within)
