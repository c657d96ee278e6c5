use Rattle.fix_math.specs.Matrices.{entry}
use Rattle.shapes.proofs.MakingLemmas.{columns}
use Rattle.shapes.proofs.making.plane_row.Goals as goal

pub returns-clause-value : goal.returns-clause-value
returns-clause-value c = λ u.
    let n = c.args.spot.now.n in let v = c.args.normal.now in
    rw (c.mixed-x.ensures.value, c.mixed-y.ensures.value, c.mixed-z.ensures.value, c.of-first.ensures.x, c.of-first.ensures.y, c.of-first.ensures.z, c.of-second.ensures.x, c.of-second.ensures.y, c.of-second.ensures.z, c.of-third.ensures.x, c.of-third.ensures.y, c.of-third.ensures.z)
    (columns v.x v.y v.z (entry n 0 0) (entry n 0 1) (entry n 0 2) (entry n 1 0) (entry n 1 1) (entry n 1 2) (entry n 2 0) (entry n 2 1) (entry n 2 2) u.x u.y u.z)
