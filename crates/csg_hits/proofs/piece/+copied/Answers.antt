use Rattle.std.proofs.Common.{sym, subst, List, ◌+◌}
use Rattle.scene_model.specs.declared.shape.Shape.{Shape}
use Rattle.csg_hits.proofs.Copies.{AreCopies, no_copies, one_copy_more, group_copied}
use Rattle.csg_hits.proofs.piece.+copied.Goals as goal

pub loop-part-init : goal.loop-part-init
loop-part-init t c = let e = c.in_ok-copies-in-Group.ensures.items in rw e (no_copies c.deref-part-items.result.now)

pub loop-part-preserved : goal.loop-part-preserved
loop-part-preserved t c =
    let P : List Shape → Type 0 = λ xs. AreCopies xs c.deref-part-items.result.now (c.loop-part.part-index + 1) in
    subst P (sym c.in_ok-push-in-Group.ensures.items) (one_copy_more c.loop-part.copies.items c.deref-part-items.result.now c.loop-part.part-index c.part-item.result c.in_ok-copy-in-Group.copy c.loop-part-test.true c.part-item.is c.loop-part.invariant c.in_ok-copy-in-Group.ensures)

pub returns-after-loop-part : goal.returns-after-loop-part
returns-after-loop-part t c = group_copied c.args.shape.now c.in-Group.op c.in-Group.parts c.loop-part.copies c.deref-part-items.result.now c.in-Group.inverse c.loop-part.part-index c.in-Group.is c.deref-part-items.ensures.value c.loop-part-test.false c.loop-part.invariant
