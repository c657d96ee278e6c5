use Rattle.std.proofs.Common.{FitsSigned, to_z-of_z}
use Rattle.std.specs.Int.{w64, w128}
use Rattle.finish_shade.proofs.Cosines.{joined_small}
use Rattle.finish_shade.proofs.directions.joined.Goals as goal

pub from_known-requires : goal.from_known-requires
from_known-requires c =
    let eta : FitsSigned w64 c.args.eta = c.ranges.eta in
    let side : FitsSigned w64 c.args.side = c.ranges.side in
    let result : FitsSigned w128 c.joined_wide.result = record { sfits = c.joined_wide.type_inv } in
    let is = simp to_z-of_z at c.joined_wide.ensures in
    rw (to_z-of_z result, is) (joined_small c.args.eta c.args.d c.args.side c.args.n c.requires.eta_small c.requires.d_small c.requires.side_small c.requires.n_small)
