use Rattle.std.proofs.Common.{ap}
use Rattle.shelf.specs.Disk.{name_at}
use Rattle.state_file.specs.Frames.{layout}
use Rattle.state_file.proofs.Calls.{keeps_then}
use Rattle.state_file.proofs.save.open_gates.Goals as goal

pub returns-in_err-finish-clause-order : goal.returns-in_err-finish-clause-order
returns-in_err-finish-clause-order g c =
    let l = layout c.args.frame.now in
    keeps_then g.S.Shelf.moment g.S.Shelf.images (name_at (g.S.Shelf.slots c.args.shelf.now c.args.slot))
    (name_at (g.S.Shelf.slots c.write_gates.new.shelf c.args.slot)) l (λ _. Unit {0}) (λ _. Unit {0}) (λ _. Unit {0})
    c.args.marks.now c.args.marks.now c.finish.new.marks
    c.args.shelf.now c.write_gates.new.shelf c.finish.new.shelf (ap name_at (c.write_gates.ensures.slots c.args.slot)) (λ t r. (r, r))
    c.write_gates.ensures.order c.finish.ensures.order

pub returns-clause-order : goal.returns-clause-order
returns-clause-order g c =
    let l = layout c.args.frame.now in
    keeps_then g.S.Shelf.moment g.S.Shelf.images (name_at (g.S.Shelf.slots c.args.shelf.now c.args.slot))
    (name_at (g.S.Shelf.slots c.write_gates.new.shelf c.args.slot)) l (λ _. Unit {0}) (λ _. Unit {0}) (λ _. Unit {0})
    c.args.marks.now c.args.marks.now c.finish.new.marks
    c.args.shelf.now c.write_gates.new.shelf c.finish.new.shelf (ap name_at (c.write_gates.ensures.slots c.args.slot)) (λ t r. (r, r))
    c.write_gates.ensures.order c.finish.ensures.order
