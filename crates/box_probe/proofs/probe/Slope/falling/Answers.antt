use Rattle.std.proofs.Common.{arith, refl, pos, w64, FitsSigned, ◌-ℤ◌}
use Rattle.std.proofs.lemmas.Int.{ints, to_z-of_z, fits_signed_from_abs}
use Rattle.box_probe.proofs.Reciprocals.{falling_slope}
use Rattle.box_probe.proofs.probe.Slope.falling.Goals as goal

pub returns : goal.returns
returns c =
    let fz : FitsSigned w64 (pos 0) = fits_signed_from_abs w64 _ (omega (arith, ints)) in
    let fr : FitsSigned w64 c.share_of-share.result = record { sfits = c.share_of-share.type_inv } in
    let fn : FitsSigned w64 (pos 0 -ℤ c.share_of-share.result) = fits_signed_from_abs w64 _ (omega (arith, ints)) in
    let fs : FitsSigned w64 ((pos 0 -ℤ c.share_of-share.result) -ℤ pos 1) = fits_signed_from_abs w64 _ (omega (arith, ints)) in
    let fa : FitsSigned w64 c.raw-at.result = record { sfits = c.raw-at.type_inv } in
    let fw : FitsSigned w64 c.raw.result = record { sfits = c.raw.type_inv } in
    let fv : FitsSigned w64 (pos 0 -ℤ c.raw.result) = fits_signed_from_abs w64 _ (omega (arith, ints)) in
    let low = rw c.raw.ensures.value at (simp to_z-of_z at c.share_of-share.ensures.low) in
    let high = rw c.raw.ensures.value at (simp to_z-of_z at c.share_of-share.ensures.high) in
    let nb = simp to_z-of_z at c.new.ensures.by in
    let na = rw c.raw-at.ensures.value at (simp to_z-of_z at c.new.ensures.from) in
    let fb = simp to_z-of_z at c.new-2.ensures.by in
    let fa' = rw c.raw-at.ensures.value at (simp to_z-of_z at c.new-2.ensures.from) in
    falling_slope _ c.args.origin c.args.step c.share_of-share.result refl nb na fb fa' c.share_of-share.ensures.sign low high
