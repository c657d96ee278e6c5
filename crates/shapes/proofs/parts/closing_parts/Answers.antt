use Rattle.std.proofs.Common.{arith}
use Rattle.std.proofs.lemmas.Int.{ints}
use Rattle.shapes.specs.Bends.{convex_from_bend, HasBend-neg}
use Rattle.shapes.proofs.PartsLemmas.{turned_iff}
use Rattle.shapes.proofs.parts.closing_parts.Goals as goal

pub valley_near-above-requires-clause-opens : goal.valley_near-above-requires-clause-opens
valley_near-above-requires-clause-opens g c =
    let v = g.C.Curve.value c.args.curve.now in let k = g.C.Curve.bend c.args.curve.now in
    convex_from_bend _ _ (HasBend-neg v k (g.met.C.Curve.bends c.args.curve.now)) (omega (arith, ints))

pub without-requires : goal.without-requires
without-requires g c = λ t w. ((c.valley_near-above.ensures t).0 w).0

pub returns : goal.returns
returns g c = λ t. turned_iff (g.C.Curve.value c.args.curve.now t) _ _ _ (c.without.ensures t) (c.valley_near-above.ensures t)
