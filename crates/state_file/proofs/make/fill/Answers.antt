use Rattle.std.proofs.Common.{refl, sym, subst, ap}
use Rattle.shelf.specs.Disk.{name_at}
use Rattle.state_file.specs.Frames.{layout}
use Rattle.state_file.specs.Opening.{IsBlank}
use Rattle.state_file.proofs.Making.{ran_call, ran_quiet, ran_then, closed_blank, torn_closed, body_written}
use Rattle.state_file.proofs.Shapes.{laid_out}
use Rattle.state_file.proofs.make.fill.Goals as goal

pub returns-in_err-write_at-clause-ran : goal.returns-in_err-write_at-clause-ran
returns-in_err-write_at-clause-ran g c =
    (ran_call g.S.Shelf.moment g.S.Shelf.images (name_at (g.S.Shelf.slots c.args.shelf.now c.args.slot)) (IsBlank (layout c.args.frame.now)) c.args.shelf.now c.write_at.new.self c.write_at.ensures.time c.write_at.ensures.crash_others
    (λ d i. closed_blank (layout c.args.frame.now) d (c.requires.closed d i).1)
    (λ e i. let f = c.write_at.ensures.crash e i in closed_blank (layout c.args.frame.now) e (torn_closed _ f.0 e f.2 (c.requires.closed f.0 f.1).0 (c.requires.closed f.0 f.1).1)))

pub returns-in_err-sync-clause-ran : goal.returns-in_err-sync-clause-ran
returns-in_err-sync-clause-ran g c =
    ran_then g.S.Shelf.moment g.S.Shelf.images (name_at (g.S.Shelf.slots c.args.shelf.now c.args.slot)) (name_at (g.S.Shelf.slots c.args.shelf.now c.args.slot)) (IsBlank (layout c.args.frame.now)) (IsBlank (layout c.args.frame.now)) c.args.shelf.now c.write_at.new.self c.sync.new.self refl (λ d p. p)
    (ran_call g.S.Shelf.moment g.S.Shelf.images (name_at (g.S.Shelf.slots c.args.shelf.now c.args.slot)) (IsBlank (layout c.args.frame.now)) c.args.shelf.now c.write_at.new.self c.write_at.ensures.time c.write_at.ensures.crash_others
    (λ d i. closed_blank (layout c.args.frame.now) d (c.requires.closed d i).1)
    (λ e i. let f = c.write_at.ensures.crash e i in closed_blank (layout c.args.frame.now) e (torn_closed _ f.0 e f.2 (c.requires.closed f.0 f.1).0 (c.requires.closed f.0 f.1).1)))
    (ran_quiet g.S.Shelf.moment g.S.Shelf.images (name_at (g.S.Shelf.slots c.args.shelf.now c.args.slot)) (IsBlank (layout c.args.frame.now)) c.write_at.new.self c.sync.new.self c.sync.ensures.time
    c.sync.ensures.crash
    (λ e i. let f = c.write_at.ensures.crash e i in closed_blank (layout c.args.frame.now) e (torn_closed _ f.0 e f.2 (c.requires.closed f.0 f.1).0 (c.requires.closed f.0 f.1).1)))

pub returns-clause-ran : goal.returns-clause-ran
returns-clause-ran g c =
    ran_then g.S.Shelf.moment g.S.Shelf.images (name_at (g.S.Shelf.slots c.args.shelf.now c.args.slot)) (name_at (g.S.Shelf.slots c.args.shelf.now c.args.slot)) (IsBlank (layout c.args.frame.now)) (IsBlank (layout c.args.frame.now)) c.args.shelf.now c.write_at.new.self c.sync.new.self refl (λ d p. p)
    (ran_call g.S.Shelf.moment g.S.Shelf.images (name_at (g.S.Shelf.slots c.args.shelf.now c.args.slot)) (IsBlank (layout c.args.frame.now)) c.args.shelf.now c.write_at.new.self c.write_at.ensures.time c.write_at.ensures.crash_others
    (λ d i. closed_blank (layout c.args.frame.now) d (c.requires.closed d i).1)
    (λ e i. let f = c.write_at.ensures.crash e i in closed_blank (layout c.args.frame.now) e (torn_closed _ f.0 e f.2 (c.requires.closed f.0 f.1).0 (c.requires.closed f.0 f.1).1)))
    (ran_quiet g.S.Shelf.moment g.S.Shelf.images (name_at (g.S.Shelf.slots c.args.shelf.now c.args.slot)) (IsBlank (layout c.args.frame.now)) c.write_at.new.self c.sync.new.self c.sync.ensures.time
    c.sync.ensures.crash
    (λ e i. let f = c.write_at.ensures.crash e i in closed_blank (layout c.args.frame.now) e (torn_closed _ f.0 e f.2 (c.requires.closed f.0 f.1).0 (c.requires.closed f.0 f.1).1)))

pub returns-clause-filled : goal.returns-clause-filled
returns-clause-filled g c = λ e i.
    let same = ap name_at (c.write_at.ensures.slots c.args.slot) in
    let there = c.in_ok-sync.ensures.durable e (subst (λ n. g.S.Shelf.images c.sync.new.self (g.S.Shelf.moment c.sync.new.self) n e) (sym same) i) in
    let held = subst (λ n. g.S.Shelf.holds c.write_at.new.self n e) same (c.sync.ensures.contents _ e there) in
    let w = c.in_ok-write_at.ensures.written e held in
    body_written (layout c.args.frame.now) (laid_out c.args.frame.now) c.args.body.now w.0 e c.requires.long c.requires.head c.requires.blank
    (c.requires.short w.0 w.1) (c.requires.closed w.0 (g.S.Shelf.reads_an_image c.args.shelf.now _ w.0 w.1)).1 w.2
