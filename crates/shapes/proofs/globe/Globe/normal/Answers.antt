use Rattle.std.proofs.Common.{◌≡◌, ◌∙◌, ap}
use Rattle.fix_math.specs.declared.fix.V3.{V3}
use Rattle.shapes.specs.Bodies.{form_at, own_of}
use Rattle.shapes.specs.Faces.{seen_from}
use Rattle.shapes.specs.Growths.{form_row}
use Rattle.shapes.specs.Lines.{wide_at}
use Rattle.shapes.specs.Rays.{position_of}
use Rattle.shapes.proofs.Inner.{ball_inner, ball_unit}
use Rattle.shapes.proofs.globe.Globe.normal.Goals as goal

pub measure-x-requires-clause-small : goal.measure-x-requires-clause-small
measure-x-requires-clause-small c =
    let globe = c.args.self.now in
    let u : V3 = seen_from globe.axes.anchor (position_of c.args.p.now) in
    let x : wide_at c.along.result 0 ≡ form_at globe.axes.first u = c.along.ensures.value 0 ∙ ap (form_at globe.axes.first) c.of_point-sight.ensures in
    rw x (ball_inner globe.radius.value (own_of globe.axes u) c.requires.inside globe.radius.high).0

pub measure-y-requires-clause-small : goal.measure-y-requires-clause-small
measure-y-requires-clause-small c =
    let globe = c.args.self.now in
    let u : V3 = seen_from globe.axes.anchor (position_of c.args.p.now) in
    let y : wide_at c.along-2.result 0 ≡ form_at globe.axes.second u = c.along-2.ensures.value 0 ∙ ap (form_at globe.axes.second) c.of_point-sight.ensures in
    rw y (ball_inner globe.radius.value (own_of globe.axes u) c.requires.inside globe.radius.high).1

pub measure-z-requires-clause-small : goal.measure-z-requires-clause-small
measure-z-requires-clause-small c =
    let globe = c.args.self.now in
    let u : V3 = seen_from globe.axes.anchor (position_of c.args.p.now) in
    let z : wide_at c.along-3.result 0 ≡ form_at globe.axes.third u = c.along-3.ensures.value 0 ∙ ap (form_at globe.axes.third) c.of_point-sight.ensures in
    rw z (ball_inner globe.radius.value (own_of globe.axes u) c.requires.inside globe.radius.high).2

pub returns : goal.returns
returns c =
    let axes = c.args.self.now.axes in
    let u : V3 = seen_from axes.anchor (position_of c.args.p.now) in
    let seen = c.of_point-sight.ensures in
    let o = c.of_ball.ensures in
    ball_unit c.unit.result c.of_ball.result.x.value c.of_ball.result.y.value c.of_ball.result.z.value c.measure-x.result.value c.measure-y.result.value c.measure-z.result.value
    (own_of axes u) (form_row axes.first) (form_row axes.second) (form_row axes.third) c.unit.ensures
    (c.measure-x.ensures ∙ c.along.ensures.value 0 ∙ ap (form_at axes.first) seen)
    (c.measure-y.ensures ∙ c.along-2.ensures.value 0 ∙ ap (form_at axes.second) seen)
    (c.measure-z.ensures ∙ c.along-3.ensures.value 0 ∙ ap (form_at axes.third) seen)
    o.x o.y o.z
