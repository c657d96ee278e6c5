use Rattle.std.proofs.Common.{◌≡◌, ◌*◌, ◌∙◌, ap, sym, arith, refl}
use Rattle.std.proofs.Math.Nat.{mul_comm}
use Rattle.state_file.specs.Shape.{layout_of, picture_row, block_row, block_height}
use Rattle.state_file.proofs.Laying.{laid_here, laid_others, lays_as, ends_within}
use Rattle.state_file.proofs.Shapes.{picture_small}
use Rattle.state_file.proofs.lay.lay_bytes.Goals as goal

pub lines_of-lines-requires-clause-some : goal.lines_of-lines-requires-clause-some
unfolding layout_of
lines_of-lines-requires-clause-some c = c.requires.index

pub lay_lines-requires-clause-long : goal.lay_lines-requires-clause-long
unfolding layout_of
lay_lines-requires-clause-long c =
    let g = c.args.frame.now.geometry in
    let b = c.args.index in
    let e : c.lines_of-lines.result.count * c.lines_of-lines.result.line ≡ block_height g b * block_row g b =
    ap (λ x. x * c.lines_of-lines.result.line) c.lines_of-lines.ensures.count
    ∙ ap (λ x. block_height g b * x) c.lines_of-lines.ensures.line in
    c.requires.size ∙ mul_comm (block_row g b) (block_height g b) ∙ sym e

pub lay_lines-requires-clause-room : goal.lay_lines-requires-clause-room
unfolding layout_of
lay_lines-requires-clause-room c =
    let g = c.args.frame.now.geometry in
    let b = c.args.index in
    let m : c.lines_of-lines.result.stride * c.lines_of-lines.result.count ≡ picture_row g * block_height g b =
    ap (λ x. x * c.lines_of-lines.result.count) c.lines_of-lines.ensures.stride
    ∙ ap (λ x. picture_row g * x) c.lines_of-lines.ensures.count in
    omega (
      arith,
      ends_within g c.args.frame.now.limits b c.requires.index,
      m,
      c.requires.drawn,
      c.lines_of-lines.ensures.start,
      c.lines_of-lines.ensures.stride,
      c.lines_of-lines.ensures.line,
    )

pub lay_lines-requires-clause-small : goal.lay_lines-requires-clause-small
unfolding layout_of
lay_lines-requires-clause-small c = omega (arith, c.requires.drawn, picture_small c.args.frame.now.geometry c.args.frame.now.limits)

pub returns-clause-here : goal.returns-clause-here
returns-clause-here c =
    laid_here c.args.frame.now.geometry c.args.frame.now.key.items c.args.frame.now.limits c.args.index c.requires.index
    c.args.bytes.now c.args.picture.now c.lay_lines.new.out
    (lays_as c.args.frame.now.geometry c.args.index _ _ _ _ _ c.args.bytes.now c.args.picture.now c.lay_lines.new.out
    c.lines_of-lines.ensures.start c.lines_of-lines.ensures.stride c.lines_of-lines.ensures.line c.lines_of-lines.ensures.count refl
    c.lay_lines.ensures)

pub returns-clause-others : goal.returns-clause-others
returns-clause-others c =
    laid_others c.args.frame.now.geometry c.args.frame.now.key.items c.args.frame.now.limits c.args.index c.requires.index
    c.args.bytes.now c.args.picture.now c.lay_lines.new.out
    (lays_as c.args.frame.now.geometry c.args.index _ _ _ _ _ c.args.bytes.now c.args.picture.now c.lay_lines.new.out
    c.lines_of-lines.ensures.start c.lines_of-lines.ensures.stride c.lines_of-lines.ensures.line c.lines_of-lines.ensures.count refl
    c.lay_lines.ensures)
