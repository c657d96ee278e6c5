use Rattle.shade_rows.proofs.stages.painted.Goals as goal

pub returns-clause-leaf : goal.returns-clause-leaf
returns-clause-leaf c =
    let p = c.requires.placing in
    record {
      prim = c.requires.prim;
      xform = c.requires.xform;
      spot = c.requires.spot;
      placing = (p.0, p.1, record { axes = p.2.axes; place = p.2.place });
      ior = c.index.ensures;
    }
