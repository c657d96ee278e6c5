use Rattle.std.proofs.Common.{rules, arith, ◌≡◌, ◌∙◌, sym, w64, FitsSigned, unsigned_abs}
use Rattle.std.proofs.lemmas.Int.{to_z-of_z, to_z_pos}
use mir.Syntax.{w128}
use Rattle.shapes.proofs.UprightLemmas.{plain_ball}
use Rattle.shapes.proofs.sphere.Sphere.along_axes.Goals as goal

pub returns : goal.returns
returns c =
    let f : FitsSigned w64 c.args.radius.value = search rules in
    let u : c.unsigned_abs.result ≡ unsigned_abs c.args.radius.value = simp to_z-of_z at c.unsigned_abs.ensures.value in
    plain_ball c.args.axes.now c.args.radius.value c.in_ok-sphere.sphere _ _ _ c.in_ok-long.long c.in_ok-raw.raw c.in_ok-scales.ensures
    (omega (arith, c.if-scales-scale.false)) (omega (arith, c.if-scales-scale-2.false)) c.args.radius.low
    (sym u ∙ c.in_ok-long.ensures) c.in_ok-raw.ensures c.in_ok-sphere.ensures.same.0 (c.in_ok-sphere.ensures.same.1 ∙ c.from_known.ensures ∙ to_z_pos w128 c.in_ok-raw.raw (omega (arith, c.if-raw.false)))
