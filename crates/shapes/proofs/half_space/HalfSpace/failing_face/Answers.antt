use Rattle.std.proofs.Common.{rules, ◌≡◌, ◌∙◌, ap, ◌≤ℤ◌, ◌<ℤ◌, FitsSigned}
use Rattle.std.proofs.lemmas.Int.{to_z-of_z}
use mir.Syntax.{w128}
use Rattle.fix_math.specs.declared.fix.V3.{V3}
use Rattle.shapes.specs.Faces.{seen_from}
use Rattle.shapes.specs.Rays.{position_of}
use Rattle.shapes.specs.Bodies.{wide_form_at}
use Rattle.shapes.proofs.Bent.{le_true, true_le, false_le}
use Rattle.shapes.proofs.Failing.{le_false, none_of_1, failing_of_1}
use Rattle.shapes.proofs.half_space.HalfSpace.failing_face.Goals as goal

pub returns-then-above-self : goal.returns-then-above-self
returns-then-above-self c =
    let half = c.args.self.now in
    let u : V3 = seen_from half.anchor (position_of c.args.p.now) in
    let seen = c.of_point-sight.ensures in
    let f : FitsSigned w128 c.value-above.result = record { sfits = c.value-above.type_inv } in
    let g : FitsSigned w128 half.limit.value = search rules in
    let e : c.value-above.result ≡ wide_form_at half.row u = c.value-above.ensures.value ∙ c.along.ensures.value 0 ∙ ap (wide_form_at half.row) seen in
    let le : c.value-above.result ≤ℤ half.limit.value = true_le _ _ (simp to_z-of_z at c.if-above-self.true) in
    let to : wide_form_at half.row u ≤ℤ half.limit.value = rw (← e) le in
    none_of_1 _ (le_true (wide_form_at half.row u) half.limit.value to)

pub returns-else-above-self : goal.returns-else-above-self
returns-else-above-self c =
    let half = c.args.self.now in
    let u : V3 = seen_from half.anchor (position_of c.args.p.now) in
    let seen = c.of_point-sight.ensures in
    let f : FitsSigned w128 c.value-above.result = record { sfits = c.value-above.type_inv } in
    let g : FitsSigned w128 half.limit.value = search rules in
    let e : c.value-above.result ≡ wide_form_at half.row u = c.value-above.ensures.value ∙ c.along.ensures.value 0 ∙ ap (wide_form_at half.row) seen in
    let lt : half.limit.value <ℤ c.value-above.result = false_le _ _ (simp to_z-of_z at c.if-above-self.false) in
    let over : half.limit.value <ℤ wide_form_at half.row u = rw (← e) lt in
    failing_of_1 _ (le_false (wide_form_at half.row u) half.limit.value over)
