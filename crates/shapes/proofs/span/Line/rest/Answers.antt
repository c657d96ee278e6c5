use Rattle.std.proofs.Common.{rules, arith, ◌≡◌, w64, ◌-ℤ◌, FitsSigned, unsigned_abs}
use Rattle.std.proofs.lemmas.Int.{ints, to_z-of_z, fits_signed_from_abs}
use Rattle.shapes.proofs.UprightLemmas.{turned_line}
use Rattle.shapes.proofs.span.Line.rest.Goals as goal

pub returns : goal.returns
returns c = λ t.
    let f : FitsSigned w64 c.args.self.now.at = search rules in
    let g : FitsSigned w64 c.args.self.now.step = search rules in
    let h : FitsSigned w64 c.args.extent.length = search rules in
    let d : FitsSigned w64 (c.args.extent.length -ℤ c.args.self.now.at) = fits_signed_from_abs w64 _ (omega (arith, ints)) in
    let e : c.unsigned_abs.result ≡ unsigned_abs c.args.self.now.step = simp to_z-of_z at c.unsigned_abs.ensures.value in
    simp to_z-of_z (rw e (turned_line c.args.self.now.at c.args.extent.length c.args.self.now.step t c.requires.falls))
