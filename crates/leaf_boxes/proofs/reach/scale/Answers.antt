use Rattle.std.proofs.Common.{◌≡◌, ◌*◌, ◌%◌, ◌^◌, ◌+◌, arith}
use Rattle.std.proofs.Math.Pow.{pow_mono}
use Rattle.std.proofs.lemmas.Int.{to_z_pos}
use Rattle.std.proofs.lemmas.Nat.{one_shl}
use mir.Syntax.{w64}
use Rattle.leaf_boxes.proofs.reach.scale.Goals as goal

pub returns : goal.returns
returns c =
    let small = pow_mono {i = c.args.e + 16} {j = 48} (omega arith) in
    let whole : 1 * 2 ^ (c.args.e + 16) % 2 ^ 64 ≡ 2 ^ (c.args.e + 16) = one_shl (c.args.e + 16) 64 (omega arith) in
    rw whole (to_z_pos w64 (2 ^ (c.args.e + 16)) (omega arith))
