use Rattle.std.proofs.Common.{FitsSigned, to_z-of_z}
use Rattle.std.specs.Int.{w64}
use Rattle.view_blocks.proofs.Sizes.{part_within}
use Rattle.view_blocks.proofs.view.scaled_part.Goals as goal

pub returns-clause-within : goal.returns-clause-within
returns-clause-within c =
    let fits : FitsSigned w64 c.component_by.result = record { sfits = c.component_by.type_inv } in
    rw (to_z-of_z fits, c.component_by.ensures) (part_within c.args.component c.args.size c.requires.small)
