use Rattle.std.proofs.Common.{w64, FitsSigned, ◌*ℤ◌, ◌-ℤ◌}
use Rattle.std.proofs.lemmas.Int.{to_z-of_z}
use Rattle.box_probe.proofs.Reciprocals.{start_fits}
use Rattle.box_probe.proofs.probe.Share.new.Goals as goal

pub invariant_of-result : goal.invariant_of-result
invariant_of-result c =
    let fa : FitsSigned w64 c.args.at = c.ranges.at in
    let fb : FitsSigned w64 c.args.by = c.ranges.by in
    let ff : FitsSigned w64 c.args.later = c.ranges.later in
    let k = start_fits c.args.at c.args.by c.args.later c.requires.at_small c.requires.by_small c.requires.later_small in
    let fp : FitsSigned w64 (c.args.at *ℤ c.args.by) = k.0 in
    let fd : FitsSigned w64 (c.args.at *ℤ c.args.by -ℤ c.args.later) = k.1 in
    simp to_z-of_z (record { by_small = c.requires.by_small; from_small = k.2 })

pub returns-clause-from : goal.returns-clause-from
returns-clause-from c =
    let fa : FitsSigned w64 c.args.at = c.ranges.at in
    let fb : FitsSigned w64 c.args.by = c.ranges.by in
    let ff : FitsSigned w64 c.args.later = c.ranges.later in
    let k = start_fits c.args.at c.args.by c.args.later c.requires.at_small c.requires.by_small c.requires.later_small in
    let fp : FitsSigned w64 (c.args.at *ℤ c.args.by) = k.0 in
    let fd : FitsSigned w64 (c.args.at *ℤ c.args.by -ℤ c.args.later) = k.1 in
    simp to_z-of_z
