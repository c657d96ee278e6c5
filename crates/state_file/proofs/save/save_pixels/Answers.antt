use Rattle.std.proofs.Common.{ap}
use Rattle.shelf.specs.Disk.{name_at}
use Rattle.state_file.specs.Blocks.{AreTrue}
use Rattle.state_file.specs.Frames.{layout}
use Rattle.state_file.proofs.Calls.{keeps_then}
use Rattle.state_file.proofs.save.save_pixels.Goals as goal

pub returns-in_err-write_pixels-clause-order : goal.returns-in_err-write_pixels-clause-order
returns-in_err-write_pixels-clause-order g c = λ truth first start t s. c.write_pixels.ensures.order truth first start tt s

pub returns-in_err-settle-clause-order : goal.returns-in_err-settle-clause-order
returns-in_err-settle-clause-order g c =
    let l = layout c.args.frame.now in
    keeps_then g.S.Shelf.moment g.S.Shelf.images (name_at (g.S.Shelf.slots c.args.shelf.now c.args.slot))
    (name_at (g.S.Shelf.slots c.write_pixels.new.shelf c.args.slot)) l (λ _. Unit {0}) (AreTrue l c.args.blocks.now) (AreTrue l c.args.blocks.now)
    c.args.marks.now c.args.marks.now c.settle.new.marks
    c.args.shelf.now c.write_pixels.new.shelf c.settle.new.shelf (ap name_at (c.write_pixels.ensures.slots c.args.slot)) (λ t r. (tt, r))
    c.write_pixels.ensures.order c.settle.ensures.order

pub returns-clause-order : goal.returns-clause-order
returns-clause-order g c =
    let l = layout c.args.frame.now in
    keeps_then g.S.Shelf.moment g.S.Shelf.images (name_at (g.S.Shelf.slots c.args.shelf.now c.args.slot))
    (name_at (g.S.Shelf.slots c.write_pixels.new.shelf c.args.slot)) l (λ _. Unit {0}) (AreTrue l c.args.blocks.now) (AreTrue l c.args.blocks.now)
    c.args.marks.now c.args.marks.now c.settle.new.marks
    c.args.shelf.now c.write_pixels.new.shelf c.settle.new.shelf (ap name_at (c.write_pixels.ensures.slots c.args.slot)) (λ t r. (tt, r))
    c.write_pixels.ensures.order c.settle.ensures.order
