use Rattle.std.proofs.Common.{FitsSigned, to_z-of_z}
use Rattle.std.specs.Int.{w64}
use Rattle.finish_shade.proofs.Smooth.{share_within}
use Rattle.finish_shade.proofs.lamps.share_between.Goals as goal

pub returns-clause-low : goal.returns-clause-low
returns-clause-low c =
    let g : FitsSigned w64 c.args.g = c.ranges.g in
    let result : FitsSigned w64 c.part_between.result = record { sfits = c.part_between.type_inv } in
    let is = simp to_z-of_z at c.part_between.ensures in
    rw (to_z-of_z result, is) ((share_within c.args.g c.args.outer c.args.inner c.requires.low c.requires.high).0)

pub returns-clause-high : goal.returns-clause-high
returns-clause-high c =
    let g : FitsSigned w64 c.args.g = c.ranges.g in
    let result : FitsSigned w64 c.part_between.result = record { sfits = c.part_between.type_inv } in
    let is = simp to_z-of_z at c.part_between.ensures in
    rw (to_z-of_z result, is) ((share_within c.args.g c.args.outer c.args.inner c.requires.low c.requires.high).1)
