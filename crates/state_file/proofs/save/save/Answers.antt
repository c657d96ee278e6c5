use Rattle.std.proofs.Common.{None, ap, subst}
use Rattle.shelf.specs.Disk.{name_at}
use Rattle.state_file.specs.Blocks.{AreTrue}
use Rattle.state_file.specs.Frames.{layout}
use Rattle.state_file.proofs.Calls.{fits_then, keeps_then}
use Rattle.state_file.proofs.Given.{none_true}
use Rattle.state_file.proofs.save.save.Goals as goal

pub open_gates-requires-clause-fits : goal.open_gates-requires-clause-fits
open_gates-requires-clause-fits g c = λ d i.
    let name = name_at (g.S.Shelf.slots c.args.shelf.now c.args.slot) in
    let l = layout c.args.frame.now in
    let e = ap name_at (c.save_pixels.ensures.slots c.args.slot) in
    fits_then g.S.Shelf.moment g.S.Shelf.images name l (AreTrue l c.args.blocks.now) c.args.marks.now c.save_pixels.new.marks
    c.args.shelf.now c.save_pixels.new.shelf None (none_true l c.args.blocks.now) c.requires.fits c.save_pixels.ensures.order d
    (subst (λ n. g.S.Shelf.images c.save_pixels.new.shelf (g.S.Shelf.moment c.save_pixels.new.shelf) n d) e i)

pub returns-in_err-open_gates-clause-order : goal.returns-in_err-open_gates-clause-order
returns-in_err-open_gates-clause-order g c =
    let l = layout c.args.frame.now in
    keeps_then g.S.Shelf.moment g.S.Shelf.images (name_at (g.S.Shelf.slots c.args.shelf.now c.args.slot))
    (name_at (g.S.Shelf.slots c.save_pixels.new.shelf c.args.slot)) l (AreTrue l c.args.blocks.now) (λ _. Unit {0}) (AreTrue l c.args.blocks.now)
    c.args.marks.now c.save_pixels.new.marks c.open_gates.new.marks
    c.args.shelf.now c.save_pixels.new.shelf c.open_gates.new.shelf (ap name_at (c.save_pixels.ensures.slots c.args.slot)) (λ t r. (r, tt))
    c.save_pixels.ensures.order c.open_gates.ensures.order

pub returns-clause-order : goal.returns-clause-order
returns-clause-order g c =
    let l = layout c.args.frame.now in
    keeps_then g.S.Shelf.moment g.S.Shelf.images (name_at (g.S.Shelf.slots c.args.shelf.now c.args.slot))
    (name_at (g.S.Shelf.slots c.save_pixels.new.shelf c.args.slot)) l (AreTrue l c.args.blocks.now) (λ _. Unit {0}) (AreTrue l c.args.blocks.now)
    c.args.marks.now c.save_pixels.new.marks c.open_gates.new.marks
    c.args.shelf.now c.save_pixels.new.shelf c.open_gates.new.shelf (ap name_at (c.save_pixels.ensures.slots c.args.slot)) (λ t r. (r, tt))
    c.save_pixels.ensures.order c.open_gates.ensures.order
