use Rattle.std.proofs.Common.{FitsSigned, to_z-of_z, refl}
use Rattle.std.specs.Int.{w128}
use Rattle.xform.proofs.InverseLemmas.{inverted-is}
use Rattle.xform.proofs.matrix_step.inverted.Goals as goal

pub returns-clause-value : goal.returns-clause-value
returns-clause-value c =
    let det : FitsSigned w128 c.determinant_by-det.result = record { sfits = c.determinant_by-det.type_inv } in
    let inverse_is = simp to_z-of_z at c.inverse_rows.ensures in
    inverted-is c.args.g.now c.cofactor_rows-cofactors.result c.flipped.result c.inverse_rows.result c.determinant_by-det.result c.small_inverse.result
    c.cofactor_rows-cofactors.ensures.value c.flipped.ensures.value c.determinant_by-det.ensures.value (λ e. c.if-det-eq0.false (rw e refl)) inverse_is c.small_inverse.ensures.value
