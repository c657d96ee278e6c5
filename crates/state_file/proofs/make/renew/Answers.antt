use Rattle.std.proofs.Common.{ap}
use Rattle.shelf.specs.Disk.{name_at}
use Rattle.state_file.specs.Frames.{layout}
use Rattle.state_file.specs.Opening.{IsBlank}
use Rattle.state_file.proofs.Making.{ran_then}
use Rattle.state_file.proofs.make.renew.Goals as goal

pub returns-in_err-raise-clause-ran : goal.returns-in_err-raise-clause-ran
returns-in_err-raise-clause-ran g c =
    ran_then g.S.Shelf.moment g.S.Shelf.images (name_at (g.S.Shelf.slots c.args.shelf.now c.args.slot)) (name_at (g.S.Shelf.slots c.refill.new.shelf c.args.slot)) (IsBlank (layout c.args.frame.now)) (IsBlank (layout c.args.frame.now)) c.args.shelf.now c.refill.new.shelf c.raise.new.shelf
    (ap name_at (c.refill.ensures.slots c.args.slot)) (λ d p. p) c.refill.ensures.ran c.raise.ensures.ran

pub returns-clause-ran : goal.returns-clause-ran
returns-clause-ran g c =
    ran_then g.S.Shelf.moment g.S.Shelf.images (name_at (g.S.Shelf.slots c.args.shelf.now c.args.slot)) (name_at (g.S.Shelf.slots c.refill.new.shelf c.args.slot)) (IsBlank (layout c.args.frame.now)) (IsBlank (layout c.args.frame.now)) c.args.shelf.now c.refill.new.shelf c.raise.new.shelf
    (ap name_at (c.refill.ensures.slots c.args.slot)) (λ d p. p) c.refill.ensures.ran c.raise.ensures.ran
