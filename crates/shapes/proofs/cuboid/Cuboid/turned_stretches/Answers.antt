use Rattle.std.proofs.Common.{arith, ◌≡◌, ◌∙◌, ap}
use Rattle.fix_math.specs.declared.fix.V3.{V3}
use Rattle.shapes.specs.Faces.{seen_from}
use Rattle.shapes.specs.Rays.{point_at}
use Rattle.shapes.specs.Lines.{wide_at}
use Rattle.shapes.specs.Bodies.{form_at, own_of}
use Rattle.shapes.proofs.Told.{cuboid_told}
use Rattle.shapes.proofs.cuboid.Cuboid.turned_stretches.Goals as goal

pub between_ends-along_y-requires-clause-low : goal.between_ends-along_y-requires-clause-low
between_ends-along_y-requires-clause-low c = λ t w. let a = (c.between_ends-along_x.ensures t).0 w in omega (arith, a.0.high, c.args.path.now.near)

pub between_ends-requires-clause-low : goal.between_ends-requires-clause-low
between_ends-requires-clause-low c = λ t w. let b = (c.between_ends-along_y.ensures t).0 w in let a = (c.between_ends-along_x.ensures t).0 b.0 in omega (arith, a.0.high, c.args.path.now.near)

pub returns : goal.returns
returns c = λ t.
    let axes = c.args.self.now.axes in
    let u : V3 = seen_from axes.anchor (point_at c.args.path.now.ray t) in
    let seen = c.of_path-sight.ensures t in
    let x : wide_at c.along-x.result t ≡ form_at axes.first u = c.along-x.ensures.value t ∙ ap (form_at axes.first) seen in
    let y : wide_at c.along-y.result t ≡ form_at axes.second u = c.along-y.ensures.value t ∙ ap (form_at axes.second) seen in
    let z : wide_at c.along-z.result t ≡ form_at axes.third u = c.along-z.ensures.value t ∙ ap (form_at axes.third) seen in
    cuboid_told c.alone.result t c.args.path.now.end c.args.self.now.x.value c.args.self.now.y.value c.args.self.now.z.value
    (wide_at c.along-x.result t) (wide_at c.along-y.result t) (wide_at c.along-z.result t) (own_of axes u) _ _ _ x y z
    (c.between_ends-along_x.ensures t) (c.between_ends-along_y.ensures t) (c.between_ends.ensures t) (c.alone.ensures t)
