use Rattle.csg_hits.proofs.Extents.{object_boxed}
use Rattle.csg_hits.proofs.ready.ReadyObject.of.Goals as goal

pub returns-clause-boxed : goal.returns-clause-boxed
returns-clause-boxed c = object_boxed c.args.leaves.now c.args.object.now _ c.of.ensures c.shape_box.ensures.value c.shape_box.ensures.inside
