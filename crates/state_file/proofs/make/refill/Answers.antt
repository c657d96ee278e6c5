use Rattle.std.proofs.Common.{ap}
use Rattle.shelf.specs.Disk.{name_at}
use Rattle.state_file.specs.Frames.{layout}
use Rattle.state_file.specs.Opening.{IsBlank}
use Rattle.state_file.proofs.Making.{ran_then}
use Rattle.state_file.proofs.make.refill.Goals as goal

pub returns-in_err-fill-clause-ran : goal.returns-in_err-fill-clause-ran
returns-in_err-fill-clause-ran g c =
    ran_then g.S.Shelf.moment g.S.Shelf.images (name_at (g.S.Shelf.slots c.args.shelf.now c.args.slot)) (name_at (g.S.Shelf.slots c.trim.new.shelf c.args.slot)) (IsBlank (layout c.args.frame.now)) (IsBlank (layout c.args.frame.now)) c.args.shelf.now c.trim.new.shelf c.fill.new.shelf
    (ap name_at (c.trim.ensures.slots c.args.slot)) (λ d p. p) c.trim.ensures.ran c.fill.ensures.ran

pub returns-clause-ran : goal.returns-clause-ran
returns-clause-ran g c =
    ran_then g.S.Shelf.moment g.S.Shelf.images (name_at (g.S.Shelf.slots c.args.shelf.now c.args.slot)) (name_at (g.S.Shelf.slots c.trim.new.shelf c.args.slot)) (IsBlank (layout c.args.frame.now)) (IsBlank (layout c.args.frame.now)) c.args.shelf.now c.trim.new.shelf c.fill.new.shelf
    (ap name_at (c.trim.ensures.slots c.args.slot)) (λ d p. p) c.trim.ensures.ran c.fill.ensures.ran
