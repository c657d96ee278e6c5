use Rattle.std.proofs.Common.{◌≡◌, ap, arith, ◌∙◌, Some, false, true}
use Rattle.shelf.specs.Disk.{name_at}
use Rattle.state_file.specs.Blocks.{AreTrue}
use Rattle.state_file.specs.Frames.{layout}
use Rattle.state_file.specs.Marks.{believed}
use Rattle.state_file.proofs.Penned.{ok_fits, err_fits, ok_calm, err_blank, ok_shows, err_known, stays_safe, steady_on, rose_on, rose_from}
use Rattle.state_file.proofs.pen.Pen.commit.Goals as goal

pub invariant_of-pen-clause-fits : goal.invariant_of-pen-clause-fits
invariant_of-pen-clause-fits g c =
    ok_fits g.S.Shelf.moment g.S.Shelf.images (name_at (g.S.Shelf.slots c.args.self.shelf c.args.self.slot))
    (name_at (g.S.Shelf.slots c.save_in-result.new.shelf c.args.self.slot)) (layout c.args.self.frame) c.args.blocks.now
    c.args.self.marks.items c.save_in-result.new.marks.items c.args.self.shelf c.save_in-result.new.shelf c.args.self.failed
    c.args.self.picture.items c.lay_in.new.picture.items (ap name_at (c.save_in-result.ensures.slots c.args.self.slot))
    c.args.self.calm c.requires.closed c.lay_in.ensures.others c.lay_in.ensures.here c.args.self.fits c.save_in-result.ensures.order

pub invariant_of-pen-clause-calm : goal.invariant_of-pen-clause-calm
invariant_of-pen-clause-calm g c = λ f.
    ok_calm c.args.blocks.now c.args.self.marks.items c.save_in-result.new.marks.items c.in-Ok.ensures.marks (c.args.self.calm f)

pub invariant_of-pen-in-Err-clause-fits : goal.invariant_of-pen-in-Err-clause-fits
invariant_of-pen-in-Err-clause-fits g c =
    err_fits g.S.Shelf.moment g.S.Shelf.images (name_at (g.S.Shelf.slots c.args.self.shelf c.args.self.slot))
    (name_at (g.S.Shelf.slots c.save_in-result.new.shelf c.args.self.slot)) (layout c.args.self.frame) c.args.blocks.now
    c.args.self.marks.items c.save_in-result.new.marks.items c.args.self.shelf c.save_in-result.new.shelf
    (believed c.args.self.failed c.args.self.picture.items) (ap name_at (c.save_in-result.ensures.slots c.args.self.slot))
    c.args.self.fits c.save_in-result.ensures.order

pub invariant_of-pen-in-Err-clause-calm : goal.invariant_of-pen-in-Err-clause-calm
invariant_of-pen-in-Err-clause-calm g c = λ f. let bad : true ≡ false = f in cc

pub invariant_of-pen-in-Err-clause-blank : goal.invariant_of-pen-in-Err-clause-blank
invariant_of-pen-in-Err-clause-blank g c =
    err_blank (layout c.args.self.frame) c.args.blocks.now c.args.self.marks.items c.save_in-result.new.marks.items
    c.args.self.picture.items c.requires.closed c.in-Err.ensures.tried c.args.self.blank

pub returns-in-Ok-clause-moments : goal.returns-in-Ok-clause-moments
returns-in-Ok-clause-moments g c =
    stays_safe g.S.Shelf.moment g.S.Shelf.images (name_at (g.S.Shelf.slots c.args.self.shelf c.args.self.slot))
    (layout c.args.self.frame) c.args.blocks.now c.args.self.marks.items c.save_in-result.new.marks.items
    c.args.self.shelf c.save_in-result.new.shelf (believed c.args.self.failed c.args.self.picture.items)
    c.args.self.fits c.save_in-result.ensures.order

pub returns-in-Err-clause-moments : goal.returns-in-Err-clause-moments
returns-in-Err-clause-moments g c =
    stays_safe g.S.Shelf.moment g.S.Shelf.images (name_at (g.S.Shelf.slots c.args.self.shelf c.args.self.slot))
    (layout c.args.self.frame) c.args.blocks.now c.args.self.marks.items c.save_in-result.new.marks.items
    c.args.self.shelf c.save_in-result.new.shelf (believed c.args.self.failed c.args.self.picture.items)
    c.args.self.fits c.save_in-result.ensures.order

pub returns-in-Ok-clause-order : goal.returns-in-Ok-clause-order
returns-in-Ok-clause-order g c = λ truth start t o. record {
  frame = o.frame;
  slot = o.slot;
  name = ap name_at (c.save_in-result.ensures.slots c.args.self.slot) ∙ o.name;
  steady = steady_on g.S.Shelf.moment g.S.Shelf.images (name_at (g.S.Shelf.slots start.shelf start.slot))
      (name_at (g.S.Shelf.slots c.args.self.shelf c.args.self.slot)) (layout start.frame) (layout c.args.self.frame)
      (AreTrue (layout c.args.self.frame) c.args.blocks.now) (Some truth) start.marks.items c.args.self.marks.items
      c.save_in-result.new.marks.items start.shelf c.args.self.shelf c.save_in-result.new.shelf o.name (ap layout o.frame) t
      c.save_in-result.ensures.order o.steady;
  shows = ok_shows (layout c.args.self.frame) c.args.blocks.now c.args.self.marks.items c.save_in-result.new.marks.items
      c.args.self.picture.items c.lay_in.new.picture.items truth c.in-Ok.ensures.marks c.requires.closed t
      c.lay_in.ensures.here c.lay_in.ensures.others o.shows;
  later = omega (arith, o.later, c.save_in-result.ensures.cause.later);
  rose = λ f. rose_on _ _ _ (o.rose f) c.save_in-result.ensures.cause.later;
}

pub returns-in-Err-clause-order : goal.returns-in-Err-clause-order
returns-in-Err-clause-order g c = λ truth start t o. record {
  frame = o.frame;
  slot = o.slot;
  name = ap name_at (c.save_in-result.ensures.slots c.args.self.slot) ∙ o.name;
  steady = steady_on g.S.Shelf.moment g.S.Shelf.images (name_at (g.S.Shelf.slots start.shelf start.slot))
      (name_at (g.S.Shelf.slots c.args.self.shelf c.args.self.slot)) (layout start.frame) (layout c.args.self.frame)
      (AreTrue (layout c.args.self.frame) c.args.blocks.now) (Some truth) start.marks.items c.args.self.marks.items
      c.save_in-result.new.marks.items start.shelf c.args.self.shelf c.save_in-result.new.shelf o.name (ap layout o.frame) t
      c.save_in-result.ensures.order o.steady;
  shows = λ b k hb w hk. o.shows b k hb
      ((err_known c.args.blocks.now c.args.self.marks.items c.save_in-result.new.marks.items c.requires.closed c.in-Err.ensures.tried b).0 w) hk;
  later = omega (arith, o.later, c.save_in-result.ensures.cause.later);
  rose = λ f. rose_from _ _ _ o.later (c.in-Err.ensures.cause.rose f);
}
