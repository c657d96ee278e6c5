use Rattle.std.proofs.Common.{arith, w64, FitsSigned}
use Rattle.std.proofs.lemmas.Int.{ints, to_z-of_z}
use Rattle.shapes.proofs.Aimed.{length-not_negative}
use Rattle.shapes.proofs.aim.Aim.of.Goals as goal

pub returns : goal.returns
returns c =
    let f : FitsSigned w64 c.length_square-square.result = record { sfits = c.length_square-square.type_inv } in
    let k = length-not_negative c.args.dir.now in let m = c.length_square-square.ensures.value in let n = simp to_z-of_z at c.unsigned_abs.ensures in
    omega (arith, ints)
