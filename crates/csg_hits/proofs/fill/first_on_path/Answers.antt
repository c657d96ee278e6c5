use Rattle.std.proofs.Common.{ap}
use Rattle.csg_hits.specs.Sides.{Sides}
use Rattle.csg_hits.proofs.Firsts.{same_first, same_quiet}
use Rattle.csg_hits.proofs.Right.{row_is, absent}
use Rattle.csg_hits.proofs.fill.first_on_path.Goals as goal

pub returns-in-Some-clause-found : goal.returns-in-Some-clause-found
returns-in-Some-clause-found c = same_first _ _ c.args.from c.args.path.now.end
    (λ s a below n. ap (λ (v : Sides). v.strikes n) (row_is c.args.leaves.now c.args.path.now.ray c.args.shape.now c.in-Leaf.number c.args.path.now.end s c.in-Some.leaf.now c.row.result c.in-Leaf.is c.in-Some.ensures.lookup.3.0 c.in-Some.ensures.lookup.1 c.row.ensures below))
    c.first_of_leaf.result c.first_of_leaf.ensures.found

pub returns-in-Some-clause-none : goal.returns-in-Some-clause-none
returns-in-Some-clause-none c = same_quiet _ _ c.args.from c.args.path.now.end
    (λ s a below n. ap (λ (v : Sides). v.strikes n) (row_is c.args.leaves.now c.args.path.now.ray c.args.shape.now c.in-Leaf.number c.args.path.now.end s c.in-Some.leaf.now c.row.result c.in-Leaf.is c.in-Some.ensures.lookup.3.0 c.in-Some.ensures.lookup.1 c.row.ensures below))
    c.first_of_leaf.result c.first_of_leaf.ensures.none

pub returns-in-None-clause-none : goal.returns-in-None-clause-none
returns-in-None-clause-none c = λ s a b n. ap (λ (v : Sides). v.strikes n) (absent c.args.leaves.now c.args.path.now.ray c.args.shape.now c.in-Leaf.number s c.in-Leaf.is c.in-None.ensures.lookup.3)
