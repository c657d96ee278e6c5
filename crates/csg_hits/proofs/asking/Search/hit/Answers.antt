use Rattle.csg_hits.proofs.Nearest.{all_nearest, all_none, struck_best}
use Rattle.csg_hits.proofs.asking.Search.hit.Goals as goal

pub returns-in-Some-clause-nearest : goal.returns-in-Some-clause-nearest
returns-in-Some-clause-nearest c = λ ray after shadow done.
    let struck = struck_best c.args.built.now ray after shadow c.args.self.now done c.in-Some.best c.in-Some.is in
    all_nearest c.args.built.now ray after shadow c.args.self.now done c.in-Some.best c.hit.result c.in-Some.is
    c.hit.ensures.t c.hit.ensures.object c.hit.ensures.leaf (c.hit.ensures.face shadow struck) (c.hit.ensures.entering shadow struck)

pub returns-in-None-clause-none : goal.returns-in-None-clause-none
returns-in-None-clause-none c = λ ray after shadow done. all_none c.args.built.now ray after shadow c.args.self.now done c.in-None.is
