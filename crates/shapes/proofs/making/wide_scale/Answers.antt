use Rattle.std.proofs.Common.{◌≡◌, ◌*◌, ◌%◌, ◌^◌, ◌+◌, arith}
use Rattle.std.proofs.Math.Pow.{pow_mono}
use Rattle.std.proofs.lemmas.Int.{to_z_pos}
use Rattle.std.proofs.lemmas.Nat.{one_shl}
use mir.Syntax.{w128}
use Rattle.shapes.proofs.making.wide_scale.Goals as goal

pub returns : goal.returns
returns c =
    let small = pow_mono {i = c.args.e + 32} {j = 64} (omega arith) in
    let whole : 1 * 2 ^ (c.args.e + 32) % 2 ^ 128 ≡ 2 ^ (c.args.e + 32) = one_shl (c.args.e + 32) 128 (omega arith) in
    rw whole (to_z_pos w128 (2 ^ (c.args.e + 32)) (omega arith))
