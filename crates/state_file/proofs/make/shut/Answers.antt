use Rattle.std.proofs.Common.{refl, sym, subst, ap, arith, inl}
use Rattle.shelf.specs.Disk.{name_at}
use Rattle.state_file.specs.Frames.{layout}
use Rattle.state_file.specs.Opening.{IsMade}
use Rattle.state_file.proofs.Making.{ran_call, ran_quiet, ran_then, shut_torn, shut_written}
use Rattle.state_file.proofs.Shapes.{laid_out}
use Rattle.state_file.proofs.make.shut.Goals as goal

pub returns-in_err-write_at-clause-ran : goal.returns-in_err-write_at-clause-ran
returns-in_err-write_at-clause-ran g c =
    (ran_call g.S.Shelf.moment g.S.Shelf.images (name_at (g.S.Shelf.slots c.args.shelf.now c.args.slot)) (IsMade (layout c.args.frame.now) (g.S.Shelf.images c.args.shelf.now (g.S.Shelf.moment c.args.shelf.now) (name_at (g.S.Shelf.slots c.args.shelf.now c.args.slot)))) c.args.shelf.now c.write_at.new.self c.write_at.ensures.time c.write_at.ensures.crash_others
    (λ d i. inl i)
    (λ e i. let f = c.write_at.ensures.crash e i in let r = c.requires.reads f.0 (c.requires.synced f.0 f.1) in shut_torn (layout c.args.frame.now) (g.S.Shelf.images c.args.shelf.now (g.S.Shelf.moment c.args.shelf.now) (name_at (g.S.Shelf.slots c.args.shelf.now c.args.slot))) f.0 e c.args.size c.args.gate f.1 r.0 r.1 (c.if-is_closed.ensures.other refl) f.2))

pub returns-in_err-sync-clause-ran : goal.returns-in_err-sync-clause-ran
returns-in_err-sync-clause-ran g c =
    ran_then g.S.Shelf.moment g.S.Shelf.images (name_at (g.S.Shelf.slots c.args.shelf.now c.args.slot)) (name_at (g.S.Shelf.slots c.args.shelf.now c.args.slot)) (IsMade (layout c.args.frame.now) (g.S.Shelf.images c.args.shelf.now (g.S.Shelf.moment c.args.shelf.now) (name_at (g.S.Shelf.slots c.args.shelf.now c.args.slot)))) (IsMade (layout c.args.frame.now) (g.S.Shelf.images c.args.shelf.now (g.S.Shelf.moment c.args.shelf.now) (name_at (g.S.Shelf.slots c.args.shelf.now c.args.slot)))) c.args.shelf.now c.write_at.new.self c.sync.new.self refl (λ d p. p)
    (ran_call g.S.Shelf.moment g.S.Shelf.images (name_at (g.S.Shelf.slots c.args.shelf.now c.args.slot)) (IsMade (layout c.args.frame.now) (g.S.Shelf.images c.args.shelf.now (g.S.Shelf.moment c.args.shelf.now) (name_at (g.S.Shelf.slots c.args.shelf.now c.args.slot)))) c.args.shelf.now c.write_at.new.self c.write_at.ensures.time c.write_at.ensures.crash_others
    (λ d i. inl i)
    (λ e i. let f = c.write_at.ensures.crash e i in let r = c.requires.reads f.0 (c.requires.synced f.0 f.1) in shut_torn (layout c.args.frame.now) (g.S.Shelf.images c.args.shelf.now (g.S.Shelf.moment c.args.shelf.now) (name_at (g.S.Shelf.slots c.args.shelf.now c.args.slot))) f.0 e c.args.size c.args.gate f.1 r.0 r.1 (c.if-is_closed.ensures.other refl) f.2))
    (ran_quiet g.S.Shelf.moment g.S.Shelf.images (name_at (g.S.Shelf.slots c.args.shelf.now c.args.slot)) (IsMade (layout c.args.frame.now) (g.S.Shelf.images c.args.shelf.now (g.S.Shelf.moment c.args.shelf.now) (name_at (g.S.Shelf.slots c.args.shelf.now c.args.slot)))) c.write_at.new.self c.sync.new.self c.sync.ensures.time
    c.sync.ensures.crash
    (λ e i. let f = c.write_at.ensures.crash e i in let r = c.requires.reads f.0 (c.requires.synced f.0 f.1) in shut_torn (layout c.args.frame.now) (g.S.Shelf.images c.args.shelf.now (g.S.Shelf.moment c.args.shelf.now) (name_at (g.S.Shelf.slots c.args.shelf.now c.args.slot))) f.0 e c.args.size c.args.gate f.1 r.0 r.1 (c.if-is_closed.ensures.other refl) f.2))

pub returns-clause-ran : goal.returns-clause-ran
returns-clause-ran g c =
    ran_then g.S.Shelf.moment g.S.Shelf.images (name_at (g.S.Shelf.slots c.args.shelf.now c.args.slot)) (name_at (g.S.Shelf.slots c.args.shelf.now c.args.slot)) (IsMade (layout c.args.frame.now) (g.S.Shelf.images c.args.shelf.now (g.S.Shelf.moment c.args.shelf.now) (name_at (g.S.Shelf.slots c.args.shelf.now c.args.slot)))) (IsMade (layout c.args.frame.now) (g.S.Shelf.images c.args.shelf.now (g.S.Shelf.moment c.args.shelf.now) (name_at (g.S.Shelf.slots c.args.shelf.now c.args.slot)))) c.args.shelf.now c.write_at.new.self c.sync.new.self refl (λ d p. p)
    (ran_call g.S.Shelf.moment g.S.Shelf.images (name_at (g.S.Shelf.slots c.args.shelf.now c.args.slot)) (IsMade (layout c.args.frame.now) (g.S.Shelf.images c.args.shelf.now (g.S.Shelf.moment c.args.shelf.now) (name_at (g.S.Shelf.slots c.args.shelf.now c.args.slot)))) c.args.shelf.now c.write_at.new.self c.write_at.ensures.time c.write_at.ensures.crash_others
    (λ d i. inl i)
    (λ e i. let f = c.write_at.ensures.crash e i in let r = c.requires.reads f.0 (c.requires.synced f.0 f.1) in shut_torn (layout c.args.frame.now) (g.S.Shelf.images c.args.shelf.now (g.S.Shelf.moment c.args.shelf.now) (name_at (g.S.Shelf.slots c.args.shelf.now c.args.slot))) f.0 e c.args.size c.args.gate f.1 r.0 r.1 (c.if-is_closed.ensures.other refl) f.2))
    (ran_quiet g.S.Shelf.moment g.S.Shelf.images (name_at (g.S.Shelf.slots c.args.shelf.now c.args.slot)) (IsMade (layout c.args.frame.now) (g.S.Shelf.images c.args.shelf.now (g.S.Shelf.moment c.args.shelf.now) (name_at (g.S.Shelf.slots c.args.shelf.now c.args.slot)))) c.write_at.new.self c.sync.new.self c.sync.ensures.time
    c.sync.ensures.crash
    (λ e i. let f = c.write_at.ensures.crash e i in let r = c.requires.reads f.0 (c.requires.synced f.0 f.1) in shut_torn (layout c.args.frame.now) (g.S.Shelf.images c.args.shelf.now (g.S.Shelf.moment c.args.shelf.now) (name_at (g.S.Shelf.slots c.args.shelf.now c.args.slot))) f.0 e c.args.size c.args.gate f.1 r.0 r.1 (c.if-is_closed.ensures.other refl) f.2))

pub write_at-requires-clause-fits : goal.write_at-requires-clause-fits
write_at-requires-clause-fits g c =
    let ok = laid_out c.args.frame.now in
    omega (arith, ok.gates, ok.some, c.requires.room.room)

pub returns-clause-closed : goal.returns-clause-closed
returns-clause-closed g c = λ e i.
    let same = ap name_at (c.write_at.ensures.slots c.args.slot) in
    let there = c.in_ok-sync.ensures.durable e (subst (λ n. g.S.Shelf.images c.sync.new.self (g.S.Shelf.moment c.sync.new.self) n e) (sym same) i) in
    let held = subst (λ n. g.S.Shelf.holds c.write_at.new.self n e) same (c.sync.ensures.contents _ e there) in
    let w = c.in_ok-write_at.ensures.written e held in
    shut_written w.0 e c.args.size (c.requires.reads w.0 w.1).0 w.2
