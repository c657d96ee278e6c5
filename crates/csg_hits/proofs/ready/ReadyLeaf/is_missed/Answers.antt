use Rattle.shapes.specs.Rays.{point_at}
use Rattle.csg_hits.specs.Surfaces.{leaf_holds}
use Rattle.csg_hits.proofs.Rowed.{fails, turned}
use Rattle.csg_hits.proofs.ready.ReadyLeaf.is_missed.Goals as goal

pub returns-then-not-self : goal.returns-then-not-self
returns-then-not-self c = λ e t lt.
    let p = point_at c.args.path.now.ray t in
    fails (leaf_holds c.args.self.now.leaf.value p) (λ h. c.meets_before.ensures (turned c.meets_before.result e) c.args.path.now.ray t c.requires lt (c.args.self.now.within p (c.args.path.now.inside t lt) h))
