use Rattle.std.proofs.Common.{sym, subst, arith}
use Rattle.std.proofs.lemmas.List.{with_items_is}
use Rattle.shelf.specs.Disk.{name_at}
use Rattle.state_file.specs.Blocks.{AreTrue}
use Rattle.state_file.specs.Frames.{layout}
use Rattle.state_file.specs.Order.{KeepsOrder}
use Rattle.state_file.proofs.save.save_in.Goals as goal

pub returns-in_err-save-clause-order : goal.returns-in_err-save-clause-order
returns-in_err-save-clause-order g c =
    let l = layout c.args.frame.now in
    subst (λ m. KeepsOrder g.S.Shelf.moment g.S.Shelf.images (name_at (g.S.Shelf.slots c.args.shelf.now c.args.slot)) l
    (AreTrue l c.args.blocks.now) c.args.marks.now.items m c.args.shelf.now c.save.new.shelf)
    (sym (with_items_is c.args.marks.now c.save.new.marks (omega arith)))
    (subst (λ m. KeepsOrder g.S.Shelf.moment g.S.Shelf.images (name_at (g.S.Shelf.slots c.args.shelf.now c.args.slot)) l
    (AreTrue l c.args.blocks.now) m c.save.new.marks c.args.shelf.now c.save.new.shelf) c.deref_mut.ensures.value c.save.ensures.order)

pub returns-clause-order : goal.returns-clause-order
returns-clause-order g c =
    let l = layout c.args.frame.now in
    subst (λ m. KeepsOrder g.S.Shelf.moment g.S.Shelf.images (name_at (g.S.Shelf.slots c.args.shelf.now c.args.slot)) l
    (AreTrue l c.args.blocks.now) c.args.marks.now.items m c.args.shelf.now c.save.new.shelf)
    (sym (with_items_is c.args.marks.now c.save.new.marks (omega arith)))
    (subst (λ m. KeepsOrder g.S.Shelf.moment g.S.Shelf.images (name_at (g.S.Shelf.slots c.args.shelf.now c.args.slot)) l
    (AreTrue l c.args.blocks.now) m c.save.new.marks c.args.shelf.now c.save.new.shelf) c.deref_mut.ensures.value c.save.ensures.order)
