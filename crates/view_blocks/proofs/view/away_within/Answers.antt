use Rattle.std.proofs.Common.{FitsSigned, to_z-of_z}
use Rattle.std.specs.Int.{w128}
use Rattle.view_blocks.proofs.Sizes.{away_low, away_high}
use Rattle.view_blocks.proofs.view.away_within.Goals as goal

pub returns-clause-low : goal.returns-clause-low
returns-clause-low c =
    let fits : FitsSigned w128 c.away_by.result = record { sfits = c.away_by.type_inv } in
    rw (to_z-of_z fits, c.away_by.ensures) (away_low c.args.angle c.args.right.now c.requires.angle)

pub returns-clause-high : goal.returns-clause-high
returns-clause-high c =
    let fits : FitsSigned w128 c.away_by.result = record { sfits = c.away_by.type_inv } in
    rw (to_z-of_z fits, c.away_by.ensures) (away_high c.args.angle c.args.right.now c.requires.angle c.requires.right)
