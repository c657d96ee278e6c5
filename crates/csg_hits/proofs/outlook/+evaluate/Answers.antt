use Rattle.std.proofs.Common.{arith}
use Rattle.csg_hits.specs.Rows.{leaf_in}
use Rattle.csg_hits.proofs.Alone.{leaf_outcome}
use Rattle.csg_hits.proofs.Looking.{begun, joined_more, grouped}
use Rattle.csg_hits.proofs.outlook.+evaluate.Goals as goal
use Rattle.csg_hits.proofs.outlook.+evaluate.Goals.{then-index-eq0, else-index-eq0}

pub loop-index-init : goal.loop-index-init
loop-index-init t c = λ end. c.never-all.ensures c.args.t end

pub loop-index-preserved : goal.loop-index-preserved
loop-index-preserved t c =
    elim c.if-index-eq0.branch [
      | then-index-eq0 w ↦ rw w.all-is (λ end. begun (leaf_in c.args.rows.now) c.in-Group.op c.deref-part-items.result.now c.loop-index.index c.args.t end c.part-item.result c.evaluate-found.result (omega arith) c.loop-index-test.true c.part-item.is (c.evaluate-found.ensures end))
      | else-index-eq0 w ↦ rw w.all-is (λ end. joined_more (leaf_in c.args.rows.now) c.in-Group.op c.deref-part-items.result.now c.loop-index.index c.args.t end c.part-item.result c.loop-index.all c.evaluate-found.result _ (omega arith) c.loop-index-test.true c.part-item.is (c.loop-index.invariant end) (c.evaluate-found.ensures end) w.with-all.ensures)
    ]

pub returns-in-Leaf : goal.returns-in-Leaf
returns-in-Leaf t c = λ end. leaf_outcome (leaf_in c.args.rows.now) c.args.shape.now c.in-Leaf.leaf c.args.t end c.of_leaf.result c.in-Leaf.is (c.of_leaf.ensures end)

pub returns-after-loop-index : goal.returns-after-loop-index
returns-after-loop-index t c = λ end. grouped (leaf_in c.args.rows.now) c.args.shape.now c.in-Group.op c.in-Group.parts c.deref-part-items.result.now c.in-Group.inverse c.loop-index.index c.args.t end c.loop-index.all c.as_group.result
    c.in-Group.is c.deref-part-items.ensures.value c.loop-index-test.false (c.loop-index.invariant end) c.as_group.ensures
