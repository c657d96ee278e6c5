use Rattle.std.proofs.Common.{ℤ, ◌+ℤ◌, ◌≡◌, ◌∙◌, ap, arith}
use Rattle.fix_math.specs.declared.fix.V3.{V3}
use Rattle.shapes.specs.Bodies.{form_at, own_of, taper_radius}
use Rattle.shapes.specs.Faces.{seen_from}
use Rattle.shapes.specs.Growths.{form_row}
use Rattle.shapes.specs.Lines.{wide_at}
use Rattle.shapes.specs.Outward.{unit_towards, out_of_pipe, multiple, difference}
use Rattle.shapes.specs.Rays.{position_of}
use Rattle.shapes.proofs.Inner.{taper_inner, taper_unit, side_end}
use Rattle.shapes.proofs.taper.Taper.normal.Goals as goal

pub measure-x-requires-clause-small : goal.measure-x-requires-clause-small
measure-x-requires-clause-small c =
    let taper = c.args.self.now in
    let u : V3 = seen_from taper.axes.anchor (position_of c.args.p.now) in
    let x : wide_at c.along.result 0 ≡ form_at taper.axes.first u = c.along.ensures.value 0 ∙ ap (form_at taper.axes.first) c.of_point-sight.ensures in
    rw x (taper_inner taper.widest.value (taper_radius taper u) taper.height.value (own_of taper.axes u) c.requires.inside taper.widest.high).0

pub measure-y-requires-clause-small : goal.measure-y-requires-clause-small
measure-y-requires-clause-small c =
    let taper = c.args.self.now in
    let u : V3 = seen_from taper.axes.anchor (position_of c.args.p.now) in
    let y : wide_at c.along-2.result 0 ≡ form_at taper.axes.second u = c.along-2.ensures.value 0 ∙ ap (form_at taper.axes.second) c.of_point-sight.ensures in
    rw y (taper_inner taper.widest.value (taper_radius taper u) taper.height.value (own_of taper.axes u) c.requires.inside taper.widest.high).1

pub measure-radius-requires-clause-small : goal.measure-radius-requires-clause-small
measure-radius-requires-clause-small c =
    let taper = c.args.self.now in
    let u : V3 = seen_from taper.axes.anchor (position_of c.args.p.now) in
    let m : wide_at c.more.result 0 ≡ taper_radius taper u = c.more.ensures.value 0 ∙ ap (λ (n : ℤ). n +ℤ taper.start.value) (c.along-3.ensures.value 0 ∙ ap (form_at taper.slope) c.of_point-sight.ensures) in
    rw m (taper_inner taper.widest.value (taper_radius taper u) taper.height.value (own_of taper.axes u) c.requires.inside taper.widest.high).2

pub returns-then-face-ne0 : goal.returns-then-face-ne0
returns-then-face-ne0 c =
    let axes = c.args.self.now.axes in
    let u : V3 = seen_from axes.anchor (position_of c.args.p.now) in
    c.unit_out_of_ends.ensures ∙ ap unit_towards (side_end (difference (out_of_pipe (own_of axes u) (form_row axes.first) (form_row axes.second)) (multiple (taper_radius c.args.self.now u) (form_row c.args.self.now.slope))) (form_row axes.third) c.args.face (omega (arith, c.if-face-ne0.true)))

pub returns : goal.returns
returns c =
    let taper = c.args.self.now in
    let axes = taper.axes in
    let u : V3 = seen_from axes.anchor (position_of c.args.p.now) in
    let seen = c.of_point-sight.ensures in
    let o = c.of_taper.ensures in
    taper_unit c.unit.result c.of_taper.result.x.value c.of_taper.result.y.value c.of_taper.result.z.value c.measure-x.result.value c.measure-y.result.value c.measure-radius.result.value (taper_radius taper u)
    (own_of axes u) (form_row axes.first) (form_row axes.second) (form_row taper.slope) (form_row axes.third) c.args.face (omega (arith, c.if-face-ne0.false)) c.unit.ensures
    (c.measure-x.ensures ∙ c.along.ensures.value 0 ∙ ap (form_at axes.first) seen)
    (c.measure-y.ensures ∙ c.along-2.ensures.value 0 ∙ ap (form_at axes.second) seen)
    (c.measure-radius.ensures ∙ c.more.ensures.value 0 ∙ ap (λ (n : ℤ). n +ℤ taper.start.value) (c.along-3.ensures.value 0 ∙ ap (form_at taper.slope) seen))
    o.x o.y o.z
