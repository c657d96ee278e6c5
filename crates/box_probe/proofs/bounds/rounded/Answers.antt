use Rattle.std.proofs.Common.{w32, w64, FitsSigned}
use Rattle.std.proofs.lemmas.Int.{to_z-of_z}
use Rattle.box_probe.proofs.bounds.rounded.Goals as goal

pub returns : goal.returns
returns c = λ z small between.
    let fl : FitsSigned w64 c.entry-low.result = record { sfits = c.entry-low.type_inv } in
    let fh : FitsSigned w64 c.entry-high.result = record { sfits = c.entry-high.type_inv } in
    let fb : FitsSigned w32 c.below.result = record { sfits = c.below.type_inv } in
    let fa : FitsSigned w32 c.above.result = record { sfits = c.above.type_inv } in
    let low = rw c.entry-low.ensures at (simp to_z-of_z at c.below.ensures) in
    let high = rw c.entry-high.ensures at (simp to_z-of_z at c.above.ensures) in
    record { above = simp to_z-of_z (low z small between.low); below = simp to_z-of_z (high z small between.high) }
