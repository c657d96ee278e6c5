use Rattle.std.proofs.Common.{arith, ◌≡◌, ◌∙◌, ap, Bool}
use Rattle.fix_math.specs.declared.fix.V3.{V3}
use Rattle.shapes.specs.Faces.{seen_from, in_pipe}
use Rattle.shapes.specs.Rays.{point_at}
use Rattle.shapes.specs.Lines.{wide_at, sight_at}
use Rattle.shapes.specs.Bodies.{form_at, own_of}
use Rattle.shapes.proofs.Leaving.{capped_none, no_numbers}
use Rattle.shapes.proofs.Told.{capped_told}
use Rattle.shapes.proofs.tube.Tube.stretches.Goals as goal

pub shell-requires : goal.shell-requires
shell-requires c = λ t w. let a = (c.between_ends-capped.ensures t).0 w in omega (arith, a.0.high, c.args.path.now.near)

pub returns : goal.returns
returns c = λ t.
    let tube = c.args.self.now in
    let axes = tube.axes in
    let u : V3 = seen_from axes.anchor (point_at c.args.path.now.ray t) in
    let seen = c.of_path-sight.ensures t in
    let face : V3 → Bool = λ v. in_pipe tube.radius.value (own_of axes v) in
    let z : wide_at c.along-z.result t ≡ form_at axes.third u = c.along-z.ensures.value t ∙ ap (form_at axes.third) seen in
    capped_told c.shell.result t c.args.path.now.end (face (sight_at c.of_path-sight.result t)) (face u) tube.height.value (wide_at c.along-z.result t) (form_at axes.third u) _ (ap face seen) z
    (c.between_ends-capped.ensures t) (c.shell.ensures t)

pub returns-then-capped : goal.returns-then-capped
returns-then-capped c = λ t.
    let tube = c.args.self.now in
    let axes = tube.axes in
    let u : V3 = seen_from axes.anchor (point_at c.args.path.now.ray t) in
    let z : wide_at c.along-z.result t ≡ form_at axes.third u = c.along-z.ensures.value t ∙ ap (form_at axes.third) (c.of_path-sight.ensures t) in
    capped_none c.alone.result t c.args.path.now.end (in_pipe tube.radius.value (own_of axes u)) tube.height.value (wide_at c.along-z.result t) (form_at axes.third u) _ z
    (c.between_ends-capped.ensures t) (c.alone.ensures t) (no_numbers c.between_ends-capped.result t c.if-capped.true)
