use Rattle.csg_hits.specs.Kept.{leaves_of}
use Rattle.csg_hits.proofs.Copies.{AreKept}
use Rattle.csg_hits.proofs.making.ready_objects.Given as goal

abbrev pub invariant-loop-object : goal.invariant-loop-object
invariant-loop-object l = AreKept (leaves_of l.leaves) l.objects l.object-index l.ready.items
