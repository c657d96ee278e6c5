use Rattle.std.proofs.Common.{arith, ◌+◌, ◌≤◌}
use Rattle.shapes.proofs.PartsLemmas.{few_iff}
use Rattle.shapes.proofs.parts.few_parts.Goals as goal

pub returns-then-span : goal.returns-then-span
returns-then-span g c = few_iff (g.C.Curve.value c.args.curve.now) c.args.span c.single-one.result c.single-two.result c.requires.some c.requires.few c.single-one.ensures (λ s. let k = c.single-two.ensures s in (
  λ w. let h = k.0 w in (h.0, c.if-span.true, h.1),
  λ h. k.1 (h.0, h.2),
))

pub returns-else-span : goal.returns-else-span
returns-else-span g c = few_iff (g.C.Curve.value c.args.curve.now) c.args.span c.single-one.result (record { from = 0; end = 0 }) c.requires.some c.requires.few c.single-one.ensures (λ s. (
  λ w. absurd (omega (arith, w.low, w.high)),
  λ h. let k : c.args.span.end ≤ c.args.span.from + 1 = c.if-span.false in absurd (omega (arith, h.1)),
))
