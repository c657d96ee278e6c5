use Rattle.std.proofs.Common.{FitsSigned, arith, to_z-of_z}
use Rattle.std.specs.Int.{w64, w128}
use Rattle.frame_trace.proofs.Shares.{share_small}
use Rattle.frame_trace.proofs.pixel_rays.far_share.Goals as goal

pub from_known-requires : goal.from_known-requires
from_known-requires c =
    let place : FitsSigned w64 c.args.place = c.ranges.place in
    let result : FitsSigned w128 c.far_quotient.result = record { sfits = c.far_quotient.type_inv } in
    let is = simp to_z-of_z at c.far_quotient.ensures in
    rw (to_z-of_z result, is) (omega (arith, share_small c.args.side c.args.place c.args.parts c.requires.side c.requires.place))

pub returns-clause-small : goal.returns-clause-small
returns-clause-small c =
    let place : FitsSigned w64 c.args.place = c.ranges.place in
    let result : FitsSigned w128 c.far_quotient.result = record { sfits = c.far_quotient.type_inv } in
    let is = simp to_z-of_z at c.far_quotient.ensures in
    rw (c.from_known.ensures, to_z-of_z result, is) (share_small c.args.side c.args.place c.args.parts c.requires.side c.requires.place)
