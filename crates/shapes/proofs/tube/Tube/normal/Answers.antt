use Rattle.std.proofs.Common.{◌≡◌, ◌∙◌, ap, arith}
use Rattle.fix_math.specs.declared.fix.V3.{V3}
use Rattle.shapes.specs.Bodies.{form_at, own_of}
use Rattle.shapes.specs.Faces.{seen_from}
use Rattle.shapes.specs.Growths.{form_row}
use Rattle.shapes.specs.Lines.{wide_at}
use Rattle.shapes.specs.Outward.{unit_towards, out_of_pipe}
use Rattle.shapes.specs.Rays.{position_of}
use Rattle.shapes.proofs.Inner.{pipe_inner, pipe_unit, side_end}
use Rattle.shapes.proofs.tube.Tube.normal.Goals as goal

pub measure-x-requires-clause-small : goal.measure-x-requires-clause-small
measure-x-requires-clause-small c =
    let tube = c.args.self.now in
    let u : V3 = seen_from tube.axes.anchor (position_of c.args.p.now) in
    let x : wide_at c.along.result 0 ≡ form_at tube.axes.first u = c.along.ensures.value 0 ∙ ap (form_at tube.axes.first) c.of_point-sight.ensures in
    rw x (pipe_inner tube.radius.value tube.height.value (own_of tube.axes u) c.requires.inside tube.radius.high).0

pub measure-y-requires-clause-small : goal.measure-y-requires-clause-small
measure-y-requires-clause-small c =
    let tube = c.args.self.now in
    let u : V3 = seen_from tube.axes.anchor (position_of c.args.p.now) in
    let y : wide_at c.along-2.result 0 ≡ form_at tube.axes.second u = c.along-2.ensures.value 0 ∙ ap (form_at tube.axes.second) c.of_point-sight.ensures in
    rw y (pipe_inner tube.radius.value tube.height.value (own_of tube.axes u) c.requires.inside tube.radius.high).1

pub returns-then-face-ne0 : goal.returns-then-face-ne0
returns-then-face-ne0 c =
    let axes = c.args.self.now.axes in
    let u : V3 = seen_from axes.anchor (position_of c.args.p.now) in
    c.unit_out_of_ends.ensures ∙ ap unit_towards (side_end (out_of_pipe (own_of axes u) (form_row axes.first) (form_row axes.second)) (form_row axes.third) c.args.face (omega (arith, c.if-face-ne0.true)))

pub returns : goal.returns
returns c =
    let axes = c.args.self.now.axes in
    let u : V3 = seen_from axes.anchor (position_of c.args.p.now) in
    let seen = c.of_point-sight.ensures in
    let o = c.of_pipe.ensures in
    pipe_unit c.unit.result c.of_pipe.result.x.value c.of_pipe.result.y.value c.of_pipe.result.z.value c.measure-x.result.value c.measure-y.result.value
    (own_of axes u) (form_row axes.first) (form_row axes.second) (form_row axes.third) c.args.face (omega (arith, c.if-face-ne0.false)) c.unit.ensures
    (c.measure-x.ensures ∙ c.along.ensures.value 0 ∙ ap (form_at axes.first) seen)
    (c.measure-y.ensures ∙ c.along-2.ensures.value 0 ∙ ap (form_at axes.second) seen)
    o.x o.y o.z
