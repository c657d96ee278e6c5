use Rattle.std.proofs.Common.{arith, List, map}
use Rattle.leaf_boxes.specs.declared.bounds.Box3.{Box3}
use Rattle.leaf_boxes.proofs.Grouping.{IsBoxOf, begun, grouped, joined_more}
use Rattle.leaf_boxes.proofs.groups.+shape_box.Goals as goal
use Rattle.leaf_boxes.proofs.groups.+shape_box.Goals.{then-index-eq0, else-index-eq0}

pub loop-index-preserved : goal.loop-index-preserved
loop-index-preserved g t c =
    let boxes : List Box3 = map g.L.Boxed.extent c.args.leaves.now in
    let found : IsBoxOf boxes c.part-item.result c.shape_box-found.result = record { value = c.shape_box-found.ensures.value; inside = c.shape_box-found.ensures.inside } in
    elim c.if-index-eq0.branch [
      | then-index-eq0 w ↦ rw w.all-is (begun c.in-Group.op boxes c.deref-part-items.result.now c.loop-index.index c.part-item.result c.shape_box-found.result (omega arith) c.loop-index-test.true c.part-item.is found)
      | else-index-eq0 w ↦ rw w.all-is (joined_more c.in-Group.op boxes c.deref-part-items.result.now c.loop-index.index c.part-item.result c.loop-index.all c.shape_box-found.result _ (omega arith) c.loop-index-test.true c.part-item.is c.loop-index.invariant found w.with-all.ensures)
    ]

pub returns-after-loop-index-clause-inside : goal.returns-after-loop-index-clause-inside
returns-after-loop-index-clause-inside g t c =
    (grouped (map g.L.Boxed.extent c.args.leaves.now) c.args.shape.now c.in-Group.op c.in-Group.parts c.deref-part-items.result.now c.in-Group.inverse c.loop-index.index c.loop-index.all
    c.in-Group.is c.deref-part-items.ensures.value c.if-inverse.false c.loop-index-test.false c.loop-index.invariant).inside
