use Rattle.std.proofs.Common.{refl, sym, subst, ap, arith}
use Rattle.shelf.specs.Disk.{name_at}
use Rattle.state_file.specs.Frames.{layout}
use Rattle.state_file.specs.Opening.{IsBlank}
use Rattle.state_file.proofs.Making.{ran_call, ran_quiet, ran_then, closed_blank, raise_torn, raise_written}
use Rattle.state_file.proofs.Shapes.{laid_out}
use Rattle.state_file.proofs.make.raise.Goals as goal

pub returns-in_err-write_at-clause-ran : goal.returns-in_err-write_at-clause-ran
returns-in_err-write_at-clause-ran g c =
    (ran_call g.S.Shelf.moment g.S.Shelf.images (name_at (g.S.Shelf.slots c.args.shelf.now c.args.slot)) (IsBlank (layout c.args.frame.now)) c.args.shelf.now c.write_at.new.self c.write_at.ensures.time c.write_at.ensures.crash_others
    (λ d i. closed_blank (layout c.args.frame.now) d (c.requires.filled d i).gate)
    (λ e i. let f = c.write_at.ensures.crash e i in raise_torn (layout c.args.frame.now) (laid_out c.args.frame.now) f.0 e (c.requires.filled f.0 f.1) f.2))

pub returns-in_err-sync-clause-ran : goal.returns-in_err-sync-clause-ran
returns-in_err-sync-clause-ran g c =
    ran_then g.S.Shelf.moment g.S.Shelf.images (name_at (g.S.Shelf.slots c.args.shelf.now c.args.slot)) (name_at (g.S.Shelf.slots c.args.shelf.now c.args.slot)) (IsBlank (layout c.args.frame.now)) (IsBlank (layout c.args.frame.now)) c.args.shelf.now c.write_at.new.self c.sync.new.self refl (λ d p. p)
    (ran_call g.S.Shelf.moment g.S.Shelf.images (name_at (g.S.Shelf.slots c.args.shelf.now c.args.slot)) (IsBlank (layout c.args.frame.now)) c.args.shelf.now c.write_at.new.self c.write_at.ensures.time c.write_at.ensures.crash_others
    (λ d i. closed_blank (layout c.args.frame.now) d (c.requires.filled d i).gate)
    (λ e i. let f = c.write_at.ensures.crash e i in raise_torn (layout c.args.frame.now) (laid_out c.args.frame.now) f.0 e (c.requires.filled f.0 f.1) f.2))
    (ran_quiet g.S.Shelf.moment g.S.Shelf.images (name_at (g.S.Shelf.slots c.args.shelf.now c.args.slot)) (IsBlank (layout c.args.frame.now)) c.write_at.new.self c.sync.new.self c.sync.ensures.time
    c.sync.ensures.crash
    (λ e i. let f = c.write_at.ensures.crash e i in raise_torn (layout c.args.frame.now) (laid_out c.args.frame.now) f.0 e (c.requires.filled f.0 f.1) f.2))

pub returns-clause-ran : goal.returns-clause-ran
returns-clause-ran g c =
    ran_then g.S.Shelf.moment g.S.Shelf.images (name_at (g.S.Shelf.slots c.args.shelf.now c.args.slot)) (name_at (g.S.Shelf.slots c.args.shelf.now c.args.slot)) (IsBlank (layout c.args.frame.now)) (IsBlank (layout c.args.frame.now)) c.args.shelf.now c.write_at.new.self c.sync.new.self refl (λ d p. p)
    (ran_call g.S.Shelf.moment g.S.Shelf.images (name_at (g.S.Shelf.slots c.args.shelf.now c.args.slot)) (IsBlank (layout c.args.frame.now)) c.args.shelf.now c.write_at.new.self c.write_at.ensures.time c.write_at.ensures.crash_others
    (λ d i. closed_blank (layout c.args.frame.now) d (c.requires.filled d i).gate)
    (λ e i. let f = c.write_at.ensures.crash e i in raise_torn (layout c.args.frame.now) (laid_out c.args.frame.now) f.0 e (c.requires.filled f.0 f.1) f.2))
    (ran_quiet g.S.Shelf.moment g.S.Shelf.images (name_at (g.S.Shelf.slots c.args.shelf.now c.args.slot)) (IsBlank (layout c.args.frame.now)) c.write_at.new.self c.sync.new.self c.sync.ensures.time
    c.sync.ensures.crash
    (λ e i. let f = c.write_at.ensures.crash e i in raise_torn (layout c.args.frame.now) (laid_out c.args.frame.now) f.0 e (c.requires.filled f.0 f.1) f.2))

pub write_at-requires-clause-fits : goal.write_at-requires-clause-fits
write_at-requires-clause-fits g c =
    let ok = laid_out c.args.frame.now in
    omega (arith, ok.gates, ok.some, c.requires.room.room)

pub returns-clause-fresh : goal.returns-clause-fresh
returns-clause-fresh g c = λ e i.
    let same = ap name_at (c.write_at.ensures.slots c.args.slot) in
    let there = c.in_ok-sync.ensures.durable e (subst (λ n. g.S.Shelf.images c.sync.new.self (g.S.Shelf.moment c.sync.new.self) n e) (sym same) i) in
    let held = subst (λ n. g.S.Shelf.holds c.write_at.new.self n e) same (c.sync.ensures.contents _ e there) in
    let w = c.in_ok-write_at.ensures.written e held in
    raise_written (layout c.args.frame.now) (laid_out c.args.frame.now) w.0 e
    (c.requires.filled w.0 (g.S.Shelf.reads_an_image c.args.shelf.now _ w.0 w.1)) w.2
