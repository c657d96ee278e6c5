use Rattle.std.proofs.Common.{◌≡◌, ◌*◌, ◌%◌, ◌^◌, arith}
use Rattle.std.proofs.Math.Pow.{pow_mono}
use Rattle.std.proofs.lemmas.Int.{to_z_pos}
use Rattle.std.proofs.lemmas.Nat.{one_shl}
use mir.Syntax.{w128}
use Rattle.shapes.proofs.coefficients.power.Goals as goal

pub returns : goal.returns
returns c =
    let small = pow_mono {i = c.args.bits} {j = 121} (omega arith) in
    let whole : 1 * 2 ^ c.args.bits % 2 ^ 128 ≡ 2 ^ c.args.bits = one_shl c.args.bits 128 (omega arith) in
    rw whole (to_z_pos w128 (2 ^ c.args.bits) (omega arith))
