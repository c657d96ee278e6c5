use Rattle.std.proofs.Common.{◌≡◌, ◌*◌, ◌%◌, ◌^◌, arith}
use Rattle.std.proofs.Math.Pow.{pow_mono}
use Rattle.std.proofs.lemmas.Int.{to_z_pos}
use Rattle.std.proofs.lemmas.Nat.{one_shl}
use Rattle.std.specs.Int.{w128}
use Rattle.fix_math.proofs.arithmetic.power_of_two.Goals as goal

pub returns-clause-value : goal.returns-clause-value
returns-clause-value c =
    let small = pow_mono {i = c.args.bits} {j = 100} c.requires in
    let whole : 1 * 2 ^ c.args.bits % 2 ^ 128 ≡ 2 ^ c.args.bits = one_shl c.args.bits 128 (omega arith) in
    rw whole (to_z_pos w128 (2 ^ c.args.bits) (omega arith))

pub returns-clause-small : goal.returns-clause-small
returns-clause-small c = pow_mono {i = c.args.bits} {j = 100} c.requires
