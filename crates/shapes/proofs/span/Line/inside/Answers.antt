use Rattle.shapes.proofs.span.Line.inside.Goals as goal

pub returns : goal.returns
returns c = λ t. let a = c.inside.ensures t in let b = c.rising.ensures t in (
  λ w. let k = a.0 w in (k.0, b.0 k.1),
  λ h. a.1 (h.0, b.1 h.1),
)
