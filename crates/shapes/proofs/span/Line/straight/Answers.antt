use Rattle.std.proofs.Common.{rules, ◌≡◌, w64, FitsSigned, unsigned_abs}
use Rattle.std.proofs.lemmas.Int.{to_z-of_z}
use Rattle.shapes.proofs.UprightLemmas.{straight_line}
use Rattle.shapes.proofs.span.Line.straight.Goals as goal

pub returns : goal.returns
returns c = λ t.
    let f : FitsSigned w64 c.args.self.now.at = search rules in
    let g : FitsSigned w64 c.args.self.now.step = search rules in
    let e : c.unsigned_abs.result ≡ unsigned_abs c.args.self.now.step = simp to_z-of_z at c.unsigned_abs.ensures.value in
    simp to_z-of_z (rw e (straight_line c.args.self.now.at c.args.self.now.step t c.requires))
