use Rattle.std.proofs.Common.{arith, ◌≡◌, ◌∙◌, ap, sym, pos, ◌≤ℤ◌, ◌<ℤ◌, true, Bool, FitsSigned, w64}
use Rattle.std.proofs.lemmas.Int.{to_z-of_z, fits_signed_from_abs}
use mir.Syntax.{w128}
use Rattle.fix_math.specs.declared.fix.V3.{V3}
use Rattle.shapes.specs.Faces.{seen_from, in_pipe}
use Rattle.shapes.specs.Rays.{position_of}
use Rattle.shapes.specs.Bodies.{form_at, own_of}
use Rattle.shapes.proofs.Bent.{le_true, true_lt, false_lt}
use Rattle.shapes.proofs.Failing.{le_false, failing_1_of_3, failing_2_of_3, none_of_3}
use Rattle.shapes.proofs.tube.Tube.failing_face.Goals as goal

pub returns-then-z-lt0 : goal.returns-then-z-lt0
returns-then-z-lt0 c =
    let tube = c.args.self.now in
    let axes = tube.axes in
    let u : V3 = seen_from axes.anchor (position_of c.args.p.now) in
    let seen = c.of_point-sight.ensures in
    let face : V3 → Bool = λ v. in_pipe tube.radius.value (own_of axes v) in
    let side : face u ≡ true = sym (ap face seen) ∙ sym c.is_in_shell.ensures ∙ c.if-not-is_in_shell.false in
    let f : FitsSigned w128 c.value-z.result = record { sfits = c.value-z.type_inv } in
    let z : c.value-z.result ≡ form_at axes.third u = c.value-z.ensures.value ∙ c.along.ensures.value 0 ∙ ap (form_at axes.third) seen in
    let h : FitsSigned w64 tube.height.value = fits_signed_from_abs w64 _ (omega (arith, tube.height.high)) in
    let h1 : FitsSigned w128 tube.height.value = fits_signed_from_abs w128 _ (omega (arith, tube.height.high)) in
    let lt : c.value-z.result <ℤ pos 0 = true_lt _ _ (simp to_z-of_z at c.if-z-lt0.true) in
    let over : form_at axes.third u <ℤ pos 0 = rw (← z) lt in
    failing_1_of_3 _ _ _ side (le_false (pos 0) (form_at axes.third u) over)

pub returns-then-z-self : goal.returns-then-z-self
returns-then-z-self c =
    let tube = c.args.self.now in
    let axes = tube.axes in
    let u : V3 = seen_from axes.anchor (position_of c.args.p.now) in
    let seen = c.of_point-sight.ensures in
    let face : V3 → Bool = λ v. in_pipe tube.radius.value (own_of axes v) in
    let side : face u ≡ true = sym (ap face seen) ∙ sym c.is_in_shell.ensures ∙ c.if-not-is_in_shell.false in
    let f : FitsSigned w128 c.value-z.result = record { sfits = c.value-z.type_inv } in
    let z : c.value-z.result ≡ form_at axes.third u = c.value-z.ensures.value ∙ c.along.ensures.value 0 ∙ ap (form_at axes.third) seen in
    let h : FitsSigned w64 tube.height.value = fits_signed_from_abs w64 _ (omega (arith, tube.height.high)) in
    let h1 : FitsSigned w128 tube.height.value = fits_signed_from_abs w128 _ (omega (arith, tube.height.high)) in
    let low : pos 0 ≤ℤ c.value-z.result = false_lt _ _ (simp to_z-of_z at c.if-z-lt0.false) in
    let lt : tube.height.value <ℤ c.value-z.result = true_lt _ _ (simp to_z-of_z at c.if-z-self.true) in
    let from : pos 0 ≤ℤ form_at axes.third u = rw (← z) low in
    let over : tube.height.value <ℤ form_at axes.third u = rw (← z) lt in
    failing_2_of_3 _ _ _ side (le_true (pos 0) (form_at axes.third u) from) (le_false (form_at axes.third u) tube.height.value over)

pub returns-else-z-self : goal.returns-else-z-self
returns-else-z-self c =
    let tube = c.args.self.now in
    let axes = tube.axes in
    let u : V3 = seen_from axes.anchor (position_of c.args.p.now) in
    let seen = c.of_point-sight.ensures in
    let face : V3 → Bool = λ v. in_pipe tube.radius.value (own_of axes v) in
    let side : face u ≡ true = sym (ap face seen) ∙ sym c.is_in_shell.ensures ∙ c.if-not-is_in_shell.false in
    let f : FitsSigned w128 c.value-z.result = record { sfits = c.value-z.type_inv } in
    let z : c.value-z.result ≡ form_at axes.third u = c.value-z.ensures.value ∙ c.along.ensures.value 0 ∙ ap (form_at axes.third) seen in
    let h : FitsSigned w64 tube.height.value = fits_signed_from_abs w64 _ (omega (arith, tube.height.high)) in
    let h1 : FitsSigned w128 tube.height.value = fits_signed_from_abs w128 _ (omega (arith, tube.height.high)) in
    let low : pos 0 ≤ℤ c.value-z.result = false_lt _ _ (simp to_z-of_z at c.if-z-lt0.false) in
    let high : c.value-z.result ≤ℤ tube.height.value = false_lt _ _ (simp to_z-of_z at c.if-z-self.false) in
    let from : pos 0 ≤ℤ form_at axes.third u = rw (← z) low in
    let to : form_at axes.third u ≤ℤ tube.height.value = rw (← z) high in
    none_of_3 _ _ _ side (le_true (pos 0) (form_at axes.third u) from) (le_true (form_at axes.third u) tube.height.value to)
