use Rattle.std.proofs.Common.{ℤ, FitsSigned, ap, ◌∙◌, to_z-of_z}
use Rattle.std.specs.Int.{w128}
use Rattle.fix_math.specs.MatrixLaws.{dot-turned}
use Rattle.fix_math.specs.Matrices.{component}
use Rattle.fix_math.specs.Numbers.{shortened}
use Rattle.view_blocks.proofs.view.turned_part.Goals as goal

pub returns : goal.returns
returns c =
    let fits : FitsSigned w128 c.rounded_shift.result = record { sfits = c.rounded_shift.type_inv } in
    let sum : FitsSigned w128 c.row_dot.result = record { sfits = c.row_dot.type_inv } in
    let is = simp to_z-of_z at c.rounded_shift.ensures.value in
    to_z-of_z fits ∙ is ∙ ap (λ (t : ℤ). shortened t 32) (c.row_dot.ensures.value ∙ dot-turned (component c.args.v.now) (component c.args.row.now))
