use Rattle.std.proofs.Common.{refl}
use Rattle.shelf.specs.Disk.{name_at}
use Rattle.state_file.proofs.Making.{ran_quiet, ran_then}
use Rattle.state_file.proofs.look.synced_length.Goals as goal

pub returns-in_err-sync-clause-ran : goal.returns-in_err-sync-clause-ran
returns-in_err-sync-clause-ran g c =
    let name = name_at (g.S.Shelf.slots c.args.shelf.now c.args.slot) in
    ran_quiet g.S.Shelf.moment g.S.Shelf.images name (g.S.Shelf.images c.args.shelf.now (g.S.Shelf.moment c.args.shelf.now) name)
    c.args.shelf.now c.sync.new.self c.sync.ensures.time c.sync.ensures.crash (λ d i. i)

pub returns-in_err-size-clause-ran : goal.returns-in_err-size-clause-ran
returns-in_err-size-clause-ran g c =
    let name = name_at (g.S.Shelf.slots c.args.shelf.now c.args.slot) in
    let before = g.S.Shelf.images c.args.shelf.now (g.S.Shelf.moment c.args.shelf.now) name in
    ran_then g.S.Shelf.moment g.S.Shelf.images name name before before c.args.shelf.now c.sync.new.self c.length.new.self refl (λ d i. i)
    (ran_quiet g.S.Shelf.moment g.S.Shelf.images name before c.args.shelf.now c.sync.new.self c.sync.ensures.time c.sync.ensures.crash (λ d i. i))
    (ran_quiet g.S.Shelf.moment g.S.Shelf.images name before c.sync.new.self c.length.new.self c.length.ensures.time c.length.ensures.crash
    (λ d i. c.sync.ensures.crash name d i))

pub returns-clause-ran : goal.returns-clause-ran
returns-clause-ran g c =
    let name = name_at (g.S.Shelf.slots c.args.shelf.now c.args.slot) in
    let before = g.S.Shelf.images c.args.shelf.now (g.S.Shelf.moment c.args.shelf.now) name in
    ran_then g.S.Shelf.moment g.S.Shelf.images name name before before c.args.shelf.now c.sync.new.self c.length.new.self refl (λ d i. i)
    (ran_quiet g.S.Shelf.moment g.S.Shelf.images name before c.args.shelf.now c.sync.new.self c.sync.ensures.time c.sync.ensures.crash (λ d i. i))
    (ran_quiet g.S.Shelf.moment g.S.Shelf.images name before c.sync.new.self c.length.new.self c.length.ensures.time c.length.ensures.crash
    (λ d i. c.sync.ensures.crash name d i))
