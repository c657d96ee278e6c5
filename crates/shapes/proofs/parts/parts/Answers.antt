use Rattle.std.proofs.Common.{arith, ◌-◌, ◌/◌, ◌-ℤ◌, ◌≤ℤ◌, FitsSigned}
use Rattle.std.proofs.lemmas.Int.{to_z-of_z, by_lt_z}
use mir.Syntax.{w128}
use Rattle.shapes.proofs.PartsLemmas.{opens_from, closes_from}
use Rattle.shapes.proofs.parts.parts.Goals as goal

pub returns-then-span : goal.returns-then-span
returns-then-span g c = λ t. let a = c.alone.ensures t in (
  λ w. let k = a.0 w in absurd (omega (arith, k.low, k.high)),
  λ h. absurd (omega (arith, h.0.low, h.0.high)),
)

pub opening_parts-requires-clause-opens : goal.opening_parts-requires-clause-opens
opening_parts-requires-clause-opens g c =
    let v = g.C.Curve.value c.args.curve.now in
    let h = (c.args.span.end - 1 - c.args.span.from) / 2 in
    let f1 : FitsSigned w128 c.at.result = record { sfits = c.at.type_inv } in
    let f2 : FitsSigned w128 c.at-2.result = record { sfits = c.at-2.type_inv } in
    let f3 : FitsSigned w128 c.at-3.result = record { sfits = c.at-3.type_inv } in
    let k : (c.at-2.result -ℤ c.at.result) ≤ℤ (c.at-3.result -ℤ c.at-2.result) = simp to_z-of_z at (c.opens.ensures.0 c.if-opens.true) in
    opens_from v _ (g.met.C.Curve.bends c.args.curve.now) c.args.span.from h (omega arith) (rw (← c.at.ensures.value, ← c.at-2.ensures.value, ← c.at-3.ensures.value) k)

pub closing_parts-requires-clause-closes : goal.closing_parts-requires-clause-closes
closing_parts-requires-clause-closes g c =
    let v = g.C.Curve.value c.args.curve.now in
    let h = (c.args.span.end - 1 - c.args.span.from) / 2 in
    let f1 : FitsSigned w128 c.at.result = record { sfits = c.at.type_inv } in
    let f2 : FitsSigned w128 c.at-2.result = record { sfits = c.at-2.type_inv } in
    let f3 : FitsSigned w128 c.at-3.result = record { sfits = c.at-3.type_inv } in
    by_lt_z (c.at-3.result -ℤ c.at-2.result) (c.at-2.result -ℤ c.at.result)
    (λ lt. closes_from v _ (g.met.C.Curve.bends c.args.curve.now) c.args.span.from h (rw (← c.at.ensures.value, ← c.at-2.ensures.value, ← c.at-3.ensures.value) lt))
    (λ le. let m = simp to_z-of_z at c.opens.ensures in let n = m.1 le in cc)
