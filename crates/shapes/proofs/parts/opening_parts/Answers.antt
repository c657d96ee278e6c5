use Rattle.shapes.proofs.parts.opening_parts.Goals as goal

pub returns : goal.returns
returns g c = λ t. let a = c.alone.ensures t in let k = c.valley_near.ensures t in (λ h. k.0 (a.0 h), λ h. a.1 (k.1 h))
