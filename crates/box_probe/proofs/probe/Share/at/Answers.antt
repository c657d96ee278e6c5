use Rattle.std.proofs.Common.{arith, w32, w64, FitsSigned, ◌*ℤ◌, ◌-ℤ◌}
use Rattle.std.proofs.lemmas.Int.{ints, to_z-of_z, fits_signed_from_abs}
use Rattle.box_probe.proofs.Reciprocals.{passed_fits}
use Rattle.box_probe.proofs.probe.Share.at.Goals as goal

pub returns : goal.returns
returns c =
    let fx : FitsSigned w32 c.args.corner = c.ranges.corner in
    let fy : FitsSigned w64 c.args.corner = fits_signed_from_abs w64 _ (omega (arith, ints)) in
    let fb : FitsSigned w64 c.args.self.now.by = fits_signed_from_abs w64 _ (omega (arith, ints)) in
    let ff : FitsSigned w64 c.args.self.now.from = fits_signed_from_abs w64 _ (omega (arith, ints)) in
    let k = passed_fits c.args.corner c.args.self.now.by c.args.self.now.from (omega (arith, ints)) (omega (arith, ints)) (omega (arith, ints)) in
    let fp : FitsSigned w64 (c.args.corner *ℤ c.args.self.now.by) = k.0 in
    let fd : FitsSigned w64 (c.args.corner *ℤ c.args.self.now.by -ℤ c.args.self.now.from) = k.1 in
    simp to_z-of_z
