use Rattle.std.proofs.Common.{FitsSigned, to_z-of_z}
use Rattle.std.specs.Int.{w64}
use Rattle.frame_trace.proofs.Shares.{finer_small}
use Rattle.frame_trace.proofs.pixel_rays.finer.Goals as goal

pub returns-clause-small : goal.returns-clause-small
returns-clause-small c =
    let pixel : FitsSigned w64 c.args.pixel = c.ranges.pixel in
    let part : FitsSigned w64 c.args.part = c.ranges.part in
    let product : FitsSigned w64 c.times.result = record { sfits = c.times.type_inv } in
    let result : FitsSigned w64 c.plus_part.result = record { sfits = c.plus_part.type_inv } in
    let times = simp to_z-of_z at c.times.ensures.value in
    let plus = simp to_z-of_z at c.plus_part.ensures in
    rw (to_z-of_z result, plus, times) (finer_small c.args.pixel c.args.part c.args.size c.args.n c.requires.pixel_small c.requires.part_small)
