-- Casts of small numbers from 128 bits to 64.
use Rattle.std.proofs.Common.{◌≡◌, ℤ, ◌<◌, ◌^◌, unsigned_abs, FitsSigned, to_z, of_z, to_z-of_z}
use Rattle.std.specs.Int.{w64, w128}
use Rattle.std.proofs.lemmas.Int.{fits_signed_from_abs}

pub narrow_fits : (z w : ℤ) → FitsSigned w128 z → z ≡ w → unsigned_abs w < 2 ^ 63 → FitsSigned w64 (to_z w128 (of_z w128 z))
narrow_fits z w wide is small =
    let fits : FitsSigned w64 z = fits_signed_from_abs w64 z (rw is small) in
    simp to_z-of_z fits

pub narrowed : (z w : ℤ) → FitsSigned w128 z → z ≡ w → unsigned_abs w < 2 ^ 63 → to_z w64 (of_z w64 (to_z w128 (of_z w128 z))) ≡ w
narrowed z w wide is small =
    let fits : FitsSigned w64 z = fits_signed_from_abs w64 z (rw is small) in
    simp to_z-of_z is
