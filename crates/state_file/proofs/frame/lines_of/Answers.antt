use Rattle.std.proofs.Common.{rules, ◌*◌, ◌/◌, ◌%◌, ◌≡◌, arith}
use Rattle.state_file.specs.Shape.{columns, picture_row, pixel_bytes}
use Rattle.state_file.proofs.Shapes.{start_within, picture_small}
use Rattle.state_file.proofs.frame.lines_of.Goals as goal

pub overflow_mul-above-2 : goal.overflow_mul-above-2
overflow_mul-above-2 c =
    let s = start_within c.args.g.now c.requires.limits c.args.block c.requires.some in
    let p = picture_small c.args.g.now c.requires.limits in
    let e : c.pixel-pixel.result * c.from.result * (32 * c.from-2.result)
    ≡ picture_row c.args.g.now * (32 * (c.args.block / columns c.args.g.now)) = search rules in
    omega (arith, e, s, p)

pub overflow_add-result : goal.overflow_add-result
overflow_add-result c =
    let s = start_within c.args.g.now c.requires.limits c.args.block c.requires.some in
    let p = picture_small c.args.g.now c.requires.limits in
    let e : c.pixel-pixel.result * c.from.result * (32 * c.from-2.result)
    ≡ picture_row c.args.g.now * (32 * (c.args.block / columns c.args.g.now)) = search rules in
    let d : c.pixel-pixel.result * (32 * c.from-3.result)
    ≡ pixel_bytes c.args.g.now * (32 * (c.args.block % columns c.args.g.now)) = search rules in
    omega (arith, e, d, s, p)
