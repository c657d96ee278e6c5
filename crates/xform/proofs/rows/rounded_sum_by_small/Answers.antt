use Rattle.std.proofs.Common.{ℤ, FitsSigned, ap, ◌∙◌, to_z-of_z}
use Rattle.std.specs.Int.{w128}
use Rattle.fix_math.specs.MatrixLaws.{dot-turned}
use Rattle.fix_math.specs.Matrices.{component}
use Rattle.fix_math.specs.Numbers.{shortened}
use Rattle.xform.proofs.rows.rounded_sum_by_small.Goals as goal

pub returns-clause-value : goal.returns-clause-value
returns-clause-value c =
    let fits : FitsSigned w128 c.rounded_sum.result = record { sfits = c.rounded_sum.type_inv } in
    let turned = dot-turned (component c.args.b.now) (component c.args.a.now) in
    to_z-of_z fits ∙ c.rounded_sum.ensures.value ∙ ap (λ (t : ℤ). shortened t c.args.bits) turned
