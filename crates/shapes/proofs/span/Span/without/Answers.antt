use Rattle.std.proofs.Common.{arith}
use Rattle.shapes.proofs.span.Span.without.Goals as goal

pub returns-then-part : goal.returns-then-part
returns-then-part c = λ t. let a = c.alone.ensures t in (
  λ w. (a.0 w, λ p. absurd (omega (arith, p.low, p.high))),
  λ h. a.1 h.0,
)
