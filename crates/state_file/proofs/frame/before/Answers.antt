use Rattle.std.proofs.Common.{rules, ◌+◌, ◌*◌, ◌/◌, ◌≡◌, arith}
use Rattle.state_file.specs.Shape.{bytes_before, columns, picture_row}
use Rattle.state_file.proofs.Shapes.{before_small}
use Rattle.state_file.proofs.frame.before.Goals as goal

pub overflow_mul-above-3 : goal.overflow_mul-above-3
overflow_mul-above-3 c =
    let s = before_small c.args.g.now c.requires.limits c.args.block c.requires.some in
    let e : c.pixel-pixel.result * c.from.result * (32 * c.from-2.result)
    ≡ picture_row c.args.g.now * (32 * (c.args.block / columns c.args.g.now)) = search rules in
    omega (arith, e, s)

pub overflow_add-result : goal.overflow_add-result
overflow_add-result c =
    let s = before_small c.args.g.now c.requires.limits c.args.block c.requires.some in
    let e : c.pixel-pixel.result * c.from.result * (32 * c.from-2.result) + c.pixel-pixel.result * (32 * c.from-3.result) * c.side.result
    ≡ bytes_before c.args.g.now c.args.block = search rules in
    omega (arith, e, s)

pub returns-clause-most : goal.returns-clause-most
returns-clause-most c =
    let s = before_small c.args.g.now c.requires.limits c.args.block c.requires.some in
    let e : c.pixel-pixel.result * c.from.result * (32 * c.from-2.result) + c.pixel-pixel.result * (32 * c.from-3.result) * c.side.result
    ≡ bytes_before c.args.g.now c.args.block = search rules in
    omega (arith, e, s)
