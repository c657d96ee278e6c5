use Rattle.std.proofs.Common.{arith, w64, ℤ, pos, Bool, FitsSigned, IsTrue, ◌≤ℤ◌, subst, sym}
use Rattle.std.proofs.lemmas.Bool.{false≢true}
use Rattle.std.proofs.lemmas.Int.{ints, to_z-of_z, fits_signed_from_abs}
use Rattle.box_probe.specs.Probes.{fine}
use Rattle.box_probe.proofs.probe.Probe.meets_before.Goals as goal

pub returns : goal.returns
returns c = λ missed ray t probe lt inside.
    let fz : FitsSigned w64 (pos 0) = fits_signed_from_abs w64 _ (omega (arith, ints)) in
    let fe : FitsSigned w64 c.fine.result = record { sfits = c.fine.type_inv } in
    let meets = simp to_z-of_z at c.meets.ensures in
    let Z : ℤ → Type 0 = λ z. fine t ≤ℤ z in
    let Q : Bool → Type 0 = λ b. IsTrue b in
    let high : fine t ≤ℤ c.fine.result = subst Z (sym c.fine.ensures) (omega (arith, ints)) in
    false≢true (subst Q missed (meets ray t probe (omega (arith, c.requires, lt)) (omega (arith, ints)) high inside))
