use Rattle.std.proofs.Common.{FitsSigned, arith, ◌∙◌, to_z-of_z, w64}
use Rattle.std.proofs.lemmas.Int.{fits_signed_from_abs}
use Rattle.fix_math.proofs.SeriesLemmas.{turned-sine, turned-cosine}
use Rattle.fix_math.proofs.angles.sincos.Goals as goal

pub returns-clause-sine : goal.returns-clause-sine
returns-clause-sine c =
    let sine_fits : FitsSigned w64 c.first_quarter-sine.result.0 = fits_signed_from_abs w64 _ (omega arith) in
    let cosine_fits : FitsSigned w64 c.first_quarter-sine.result.1 = fits_signed_from_abs w64 _ (omega arith) in
    let first = c.first_quarter-sine.ensures in
    let is = simp to_z-of_z at c.turned.ensures.sine in
    is ∙ turned-sine c.args.deg c.without_turns-angle.result c.first_quarter-sine.result.0 c.first_quarter-sine.result.1 first.sine first.cosine c.without_turns-angle.ensures.value

pub returns-clause-cosine : goal.returns-clause-cosine
returns-clause-cosine c =
    let sine_fits : FitsSigned w64 c.first_quarter-sine.result.0 = fits_signed_from_abs w64 _ (omega arith) in
    let cosine_fits : FitsSigned w64 c.first_quarter-sine.result.1 = fits_signed_from_abs w64 _ (omega arith) in
    let first = c.first_quarter-sine.ensures in
    let is = simp to_z-of_z at c.turned.ensures.cosine in
    is ∙ turned-cosine c.args.deg c.without_turns-angle.result c.first_quarter-sine.result.0 c.first_quarter-sine.result.1 first.sine first.cosine c.without_turns-angle.ensures.value
