use Rattle.csg_hits.proofs.Unions.{added_all, added_more, added_none}
use Rattle.csg_hits.proofs.piece.+add_pieces.Goals as goal

pub loop-part-init : goal.loop-part-init
loop-part-init t c = added_none c.deref-part-items.result.now c.args.object c.args.no_shadow c.args.pieces.now.items

pub loop-part-preserved : goal.loop-part-preserved
loop-part-preserved t c = added_more c.deref-part-items.result.now c.loop-part.part-index c.args.object c.args.no_shadow _ _ _ c.part-item.result c.loop-part-test.true c.part-item.is c.loop-part.invariant c.in_ok-add_pieces-in-Group.ensures

pub returns-after-loop-part : goal.returns-after-loop-part
returns-after-loop-part t c = added_all c.args.shape.now c.in-Group.op c.in-Group.parts c.deref-part-items.result.now _ c.loop-part.part-index c.args.object c.args.no_shadow _ _ c.in-Group.is (c.takes_all.ensures c.if-takes_all.true) c.deref-part-items.ensures.value c.loop-part-test.false c.loop-part.invariant
