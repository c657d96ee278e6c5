use Rattle.std.proofs.Common.{ap, inl, inr}
use Rattle.shelf.specs.Disk.{name_at}
use Rattle.state_file.specs.Frames.{layout}
use Rattle.state_file.specs.Opening.{IsBlank, IsMade}
use Rattle.state_file.proofs.Making.{ran_then}
use Rattle.state_file.proofs.make.make.Goals as goal

pub returns-in_err-renew-clause-ran : goal.returns-in_err-renew-clause-ran
returns-in_err-renew-clause-ran g c =
    ran_then g.S.Shelf.moment g.S.Shelf.images (name_at (g.S.Shelf.slots c.args.shelf.now c.args.slot)) (name_at (g.S.Shelf.slots c.shut.new.shelf c.args.slot)) (IsMade (layout c.args.frame.now) (g.S.Shelf.images c.args.shelf.now (g.S.Shelf.moment c.args.shelf.now) (name_at (g.S.Shelf.slots c.args.shelf.now c.args.slot)))) (IsBlank (layout c.args.frame.now)) c.args.shelf.now c.shut.new.shelf c.renew.new.shelf
    (ap name_at (c.shut.ensures.slots c.args.slot)) (λ d p. inr (inl p)) c.shut.ensures.ran c.renew.ensures.ran

pub returns-clause-ran : goal.returns-clause-ran
returns-clause-ran g c =
    ran_then g.S.Shelf.moment g.S.Shelf.images (name_at (g.S.Shelf.slots c.args.shelf.now c.args.slot)) (name_at (g.S.Shelf.slots c.shut.new.shelf c.args.slot)) (IsMade (layout c.args.frame.now) (g.S.Shelf.images c.args.shelf.now (g.S.Shelf.moment c.args.shelf.now) (name_at (g.S.Shelf.slots c.args.shelf.now c.args.slot)))) (IsBlank (layout c.args.frame.now)) c.args.shelf.now c.shut.new.shelf c.renew.new.shelf
    (ap name_at (c.shut.ensures.slots c.args.slot)) (λ d p. inr (inl p)) c.shut.ensures.ran c.renew.ensures.ran
