use Rattle.std.proofs.Common.{arith, ap, ◌∙◌}
use Rattle.shapes.specs.Growths.{form_row}
use Rattle.shapes.specs.Outward.{unit_towards}
use Rattle.shapes.proofs.Inner.{box_end, box_middle}
use Rattle.shapes.proofs.cuboid.Cuboid.normal.Goals as goal

pub returns-then-face-lt4 : goal.returns-then-face-lt4
returns-then-face-lt4 c =
    let axes = c.args.self.now.axes in
    c.unit_out_of_ends-then-face-lt4.ensures ∙ ap unit_towards (box_middle (form_row axes.first) (form_row axes.second) (form_row axes.third) c.args.face (omega arith) (omega arith))

pub returns-else-face-lt4 : goal.returns-else-face-lt4
returns-else-face-lt4 c =
    let axes = c.args.self.now.axes in
    c.unit_out_of_ends-else-face-lt4.ensures ∙ ap unit_towards (box_end (form_row axes.first) (form_row axes.second) (form_row axes.third) c.args.face (omega arith))
