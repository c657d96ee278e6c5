use Rattle.std.proofs.Common.{◌≡◌, ◌∙◌, ap}
use Rattle.fix_math.specs.declared.fix.V3.{V3}
use Rattle.shapes.specs.Faces.{seen_from}
use Rattle.shapes.specs.Rays.{point_at}
use Rattle.shapes.specs.Lines.{wide_at}
use Rattle.shapes.specs.Bodies.{wide_form_at}
use Rattle.shapes.proofs.Told.{half_space_told}
use Rattle.shapes.proofs.half_space.HalfSpace.stretches.Goals as goal

pub returns : goal.returns
returns c = λ t.
    let half = c.args.self.now in
    let u : V3 = seen_from half.anchor (point_at c.args.path.now.ray t) in
    let seen = c.of_path-sight.ensures t in
    let w : wide_at c.along.result t ≡ wide_form_at half.row u = c.along.ensures.value t ∙ ap (wide_form_at half.row) seen in
    half_space_told c.alone.result t c.args.path.now.end half.limit.value (wide_at c.less_limit-above.result t) (wide_at c.along.result t) (wide_form_at half.row u) _
    (c.less_limit-above.ensures t) w (c.narrow_wide.ensures t) (c.alone.ensures t)
