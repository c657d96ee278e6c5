use Rattle.shapes.proofs.upright.Rise.inside.Goals as goal

pub returns : goal.returns
returns c = λ t.
    let a = c.between.ensures t in
    let b = c.start.ensures t in
    let d = c.end.ensures t in (
      λ w. let k = a.0 w in (k.0, record { low = b.0 k.1; high = d.0 k.2 }),
      λ h. a.1 (h.0, b.1 h.1.low, d.1 h.1.high),
    )
