use Rattle.shelf.specs.Disk.{name_at}
use Rattle.state_file.specs.Blocks.{AreTrue}
use Rattle.state_file.specs.Frames.{layout}
use Rattle.state_file.proofs.Calls.{quiet_call}
use Rattle.state_file.proofs.Marking.{sync_call, settled, ready_rises}
use Rattle.state_file.proofs.write.settle.Goals as goal

pub returns-clause-order : goal.returns-clause-order
returns-clause-order g c =
    let name = name_at (g.S.Shelf.slots c.args.shelf.now c.args.slot) in
    let l = layout c.args.frame.now in
    sync_call g.S.Shelf.moment g.S.Shelf.images name l (AreTrue l c.args.blocks.now) c.args.marks.now c.mark_all.new.marks
    c.args.shelf.now c.sync.new.self (g.S.Shelf.holds c.args.shelf.now name) (g.S.Shelf.holds c.sync.new.self name)
    c.sync.ensures.time c.sync.ensures.crash c.in_ok-sync.ensures.durable (c.sync.ensures.contents name)
    (ready_rises c.args.blocks.now c.args.marks.now c.mark_all.new.marks c.requires.closed c.mark_all.ensures.marks)
    (λ truth d t h f. settled l truth c.args.blocks.now c.args.marks.now c.mark_all.new.marks d c.mark_all.ensures.marks
    (c.requires.there d h) t f)

pub returns-in_err-sync-clause-order : goal.returns-in_err-sync-clause-order
returns-in_err-sync-clause-order g c = λ truth first start t s.
    quiet_call g.S.Shelf.moment g.S.Shelf.images (name_at (g.S.Shelf.slots c.args.shelf.now c.args.slot)) (layout c.args.frame.now)
    c.args.marks.now c.args.shelf.now c.sync.new.self c.sync.ensures.time c.sync.ensures.crash truth first start tt s
