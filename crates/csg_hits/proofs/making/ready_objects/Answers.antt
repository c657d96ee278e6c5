use Rattle.std.proofs.Common.{List, ◌+◌, sym, subst}
use Rattle.csg_hits.specs.declared.ready.ReadyObject.{ReadyObject}
use Rattle.csg_hits.specs.Kept.{leaves_of}
use Rattle.csg_hits.proofs.Copies.{AreKept, one_kept_more}
use Rattle.csg_hits.proofs.making.ready_objects.Goals as goal

pub loop-object-preserved : goal.loop-object-preserved
loop-object-preserved c =
    let P : List ReadyObject → Type 0 = AreKept (leaves_of c.args.leaves.now) c.args.objects.now (c.loop-object.object-index + 1) in
    subst P (sym c.in_ok-push.ensures.items) (one_kept_more (leaves_of c.args.leaves.now) c.args.objects.now c.loop-object.object-index c.loop-object.ready.items c.object-item.result c.of.result c.loop-object-test.true c.object-item.is c.loop-object.invariant c.of.ensures.object c.of.ensures.boxed)
