-- A clock between two others is in their range.
use Rattle.std.proofs.Common.{◌≡◌, ◌+ℤ◌, FitsSigned, w64, sym, subst, arith}
use Rattle.std.proofs.lemmas.Int.{to_z-of_z, fits_signed_from_abs}
use Rattle.fix_math.specs.Numbers.{IsInRange}
use Rattle.options.proofs.Clocks.{between}
use Rattle.options.proofs.frames.clock_between.Goals as goal

pub invariant_of-result-2 : goal.invariant_of-result-2
invariant_of-result-2 c =
    let a = c.initial.inside.0 in
    let f : FitsSigned w64 a = fits_signed_from_abs w64 a (omega (arith, c.initial.invariant)) in
    let g : FitsSigned w64 c.part.result = fits_signed_from_abs w64 c.part.result (omega (arith, c.part.ensures.small)) in
    let is : a ≡ c.args.initial = c.initial.view_is in
    let h : IsInRange (a +ℤ c.part.result) = subst (λ z. IsInRange (z +ℤ c.part.result)) (sym is)
    (subst (λ z. IsInRange (c.args.initial +ℤ z)) (sym c.part.ensures.value)
    (between c.args.initial c.args.end c.args.step c.args.steps c.requires.begins c.requires.ends (omega (arith, c.if-steps-eq0.false)) c.requires.within)) in
    let k : FitsSigned w64 (a +ℤ c.part.result) = fits_signed_from_abs w64 (a +ℤ c.part.result) (omega (arith, h)) in
    simp to_z-of_z h
