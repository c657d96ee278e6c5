use Rattle.std.proofs.Common.{refl, arith, ◌+◌}
use Rattle.csg_hits.specs.Ready.{leaves_of}
use Rattle.csg_hits.specs.Surfaces.{leaf_on}
use Rattle.csg_hits.proofs.Looking.{next_outlook, settled_outlook, whole_outlook, same_outlook}
use Rattle.csg_hits.proofs.Right.{written, kept, right_past, leaf_filled, row_outlook, absent, more_filled, whole_filled, settled_filled}
use Rattle.csg_hits.proofs.fill.+fill.Goals as goal

pub loop-index-init : goal.loop-index-init
loop-index-init t c = record {
  kept = λ n r. r;
  filled = λ other more s l below. refl;
  outlook = c.never-all.ensures c.args.t c.args.path.now.end;
  len = c.requires.room;
}

pub loop-index-preserved : goal.loop-index-preserved
loop-index-preserved t c = record {
  kept = λ n r. c.fill-found.ensures.kept n (c.loop-index.invariant.kept n r);
  filled = more_filled (leaves_of c.args.leaves.now) c.args.path.now.ray c.args.t c.args.path.now.end _ _ c.deref-part-items.result.now c.loop-index.index c.part-item.result c.loop-index-test.true c.part-item.is
      c.fill-found.ensures.kept c.loop-index.invariant.filled c.fill-found.ensures.filled;
  outlook = next_outlook (leaf_on (leaves_of c.args.leaves.now) c.args.path.now.ray) c.in-Group.op c.deref-part-items.result.now c.loop-index.index c.args.t c.args.path.now.end c.part-item.result c.loop-index.all c.fill-found.result c.with_part-all.result
      c.loop-index-test.true c.part-item.is c.loop-index.invariant.outlook c.fill-found.ensures.outlook c.with_part-all.ensures.first c.with_part-all.ensures.more;
  len = c.fill-found.ensures.len;
}

pub returns-then-is_settled-clause-kept : goal.returns-then-is_settled-clause-kept
returns-then-is_settled-clause-kept t c = λ n r. c.fill-found.ensures.kept n (c.loop-index.invariant.kept n r)

pub returns-then-is_settled-clause-filled : goal.returns-then-is_settled-clause-filled
returns-then-is_settled-clause-filled t c =
    let first = more_filled (leaves_of c.args.leaves.now) c.args.path.now.ray c.args.t c.args.path.now.end _ c.fill-found.new.rows c.deref-part-items.result.now c.loop-index.index c.part-item.result c.loop-index-test.true c.part-item.is
    c.fill-found.ensures.kept c.loop-index.invariant.filled c.fill-found.ensures.filled in
    let look = next_outlook (leaf_on (leaves_of c.args.leaves.now) c.args.path.now.ray) c.in-Group.op c.deref-part-items.result.now c.loop-index.index c.args.t c.args.path.now.end c.part-item.result c.loop-index.all c.fill-found.result c.with_part-all.result
    c.loop-index-test.true c.part-item.is c.loop-index.invariant.outlook c.fill-found.ensures.outlook c.with_part-all.ensures.first c.with_part-all.ensures.more in
    let settled = c.is_settled.ensures c.if-is_settled.true in
    settled_filled (leaves_of c.args.leaves.now) c.args.path.now.ray c.args.t c.args.path.now.end c.fill-found.new.rows c.args.shape.now c.in-Group.op c.in-Group.parts c.deref-part-items.result.now c.in-Group.inverse (c.loop-index.index + 1) c.with_part-all.result
    c.in-Group.is c.deref-part-items.ensures.value (omega arith) (omega (arith, c.loop-index-test.true)) settled.kind look settled.fails settled.far first

pub returns-then-is_settled-clause-outlook : goal.returns-then-is_settled-clause-outlook
returns-then-is_settled-clause-outlook t c =
    let look = next_outlook (leaf_on (leaves_of c.args.leaves.now) c.args.path.now.ray) c.in-Group.op c.deref-part-items.result.now c.loop-index.index c.args.t c.args.path.now.end c.part-item.result c.loop-index.all c.fill-found.result c.with_part-all.result
    c.loop-index-test.true c.part-item.is c.loop-index.invariant.outlook c.fill-found.ensures.outlook c.with_part-all.ensures.first c.with_part-all.ensures.more in
    let settled = c.is_settled.ensures c.if-is_settled.true in
    settled_outlook (leaf_on (leaves_of c.args.leaves.now) c.args.path.now.ray) c.args.shape.now c.in-Group.op c.in-Group.parts c.deref-part-items.result.now c.in-Group.inverse (c.loop-index.index + 1) c.args.t c.args.path.now.end c.with_part-all.result c.as_group.result
    c.in-Group.is c.deref-part-items.ensures.value (omega arith) (omega (arith, c.loop-index-test.true)) settled.kind look settled.fails settled.far c.as_group.ensures

pub returns-in-Some-clause-kept : goal.returns-in-Some-clause-kept
returns-in-Some-clause-kept t c = λ n r. kept c.args.leaves.now c.args.path.now.ray c.args.path.now.end c.args.rows.now c.in-Leaf.number c.in-Some.leaf.now c.row-row.result
    c.requires.room c.in-Some.ensures.lookup.3.0 c.in-Some.ensures.lookup.1 c.row-row.ensures n r

pub returns-in-Some-clause-filled : goal.returns-in-Some-clause-filled
returns-in-Some-clause-filled t c = leaf_filled (leaves_of c.args.leaves.now) c.args.path.now.ray c.args.t c.args.path.now.end _ c.args.shape.now c.in-Leaf.number c.in-Leaf.is
    (written c.args.leaves.now c.args.path.now.ray c.args.path.now.end c.args.rows.now c.in-Leaf.number c.in-Some.leaf.now c.row-row.result
    c.requires.room c.in-Some.ensures.lookup.3.0 c.in-Some.ensures.lookup.1 c.row-row.ensures)

pub returns-in-Some-clause-outlook : goal.returns-in-Some-clause-outlook
returns-in-Some-clause-outlook t c = row_outlook c.args.leaves.now c.args.path.now.ray c.args.shape.now c.in-Leaf.number c.args.t c.args.path.now.end c.in-Some.leaf.now c.row-row.result c.of_row.result
    c.requires.begun c.in-Leaf.is c.in-Some.ensures.lookup.3.0 c.in-Some.ensures.lookup.1 c.row-row.ensures (c.of_row.ensures c.args.path.now.end)

pub returns-in-None-clause-filled : goal.returns-in-None-clause-filled
returns-in-None-clause-filled t c = leaf_filled (leaves_of c.args.leaves.now) c.args.path.now.ray c.args.t c.args.path.now.end _ c.args.shape.now c.in-Leaf.number c.in-Leaf.is
    (right_past c.args.leaves.now c.args.path.now.ray c.args.path.now.end c.args.rows.now c.in-Leaf.number c.requires.room c.in-None.ensures.lookup.3)

pub returns-in-None-clause-outlook : goal.returns-in-None-clause-outlook
returns-in-None-clause-outlook t c = same_outlook _ _ c.args.t c.args.path.now.end c.never.result
    (λ s. absent c.args.leaves.now c.args.path.now.ray c.args.shape.now c.in-Leaf.number s c.in-Leaf.is c.in-None.ensures.lookup.3) (c.never.ensures c.args.t c.args.path.now.end)

pub returns-after-loop-index-clause-filled : goal.returns-after-loop-index-clause-filled
returns-after-loop-index-clause-filled t c = whole_filled (leaves_of c.args.leaves.now) c.args.path.now.ray c.args.t c.args.path.now.end _ c.args.shape.now c.in-Group.op c.in-Group.parts c.deref-part-items.result.now c.in-Group.inverse c.loop-index.index
    c.in-Group.is c.deref-part-items.ensures.value c.loop-index-test.false c.loop-index.invariant.filled

pub returns-after-loop-index-clause-outlook : goal.returns-after-loop-index-clause-outlook
returns-after-loop-index-clause-outlook t c = whole_outlook (leaf_on (leaves_of c.args.leaves.now) c.args.path.now.ray) c.args.shape.now c.in-Group.op c.in-Group.parts c.deref-part-items.result.now c.in-Group.inverse c.loop-index.index c.args.t c.args.path.now.end c.loop-index.all c.as_group-in-Group.result
    c.in-Group.is c.deref-part-items.ensures.value c.loop-index-test.false c.loop-index.invariant.outlook c.as_group-in-Group.ensures
