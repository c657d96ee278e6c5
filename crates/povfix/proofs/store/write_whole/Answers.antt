use Rattle.std.proofs.lemmas.Result.{on_ok_weaker}
use Rattle.povfix.proofs.Stays.{cut_stays, sync_stays, write_stays}
use Rattle.povfix.proofs.Storing.{whole_durable, whole_stored}
use Rattle.povfix.proofs.store.write_whole.Goals as goal

pub returns-clause-stored : goal.returns-clause-stored
returns-clause-stored g c = on_ok_weaker c.sync.result (λ made_sure. whole_stored c.args.file.now (g.S.Shelf.slots c.args.shelf.now) (g.S.Shelf.slots c.write_at.new.self) (g.S.Shelf.slots c.cut.new.self) c.args.slot (g.S.Shelf.holds c.args.shelf.now) (g.S.Shelf.holds c.write_at.new.self) (g.S.Shelf.holds c.cut.new.self) (g.S.Shelf.holds c.sync.new.self) c.write_at.ensures.slots c.cut.ensures.slots c.in_ok-write_at.ensures.written c.in_ok-cut.ensures.shortened c.sync.ensures.contents) c.sync.ensures.durable

pub returns-clause-durable : goal.returns-clause-durable
returns-clause-durable g c = on_ok_weaker c.sync.result (whole_durable c.args.file.now (g.S.Shelf.slots c.args.shelf.now) (g.S.Shelf.slots c.write_at.new.self) (g.S.Shelf.slots c.cut.new.self) c.args.slot (g.S.Shelf.holds c.args.shelf.now) (g.S.Shelf.holds c.write_at.new.self) (g.S.Shelf.holds c.cut.new.self) (g.S.Shelf.holds c.sync.new.self) (g.S.Shelf.images c.sync.new.self (g.S.Shelf.moment c.sync.new.self)) c.write_at.ensures.slots c.cut.ensures.slots c.in_ok-write_at.ensures.written c.in_ok-cut.ensures.shortened c.sync.ensures.contents) c.sync.ensures.durable

-- ---- at every moment

pub returns-in_err-write_at-clause-crash_others : goal.returns-in_err-write_at-clause-crash_others
returns-in_err-write_at-clause-crash_others g c = write_stays (g.S.Shelf.slots c.args.shelf.now) c.args.slot _ _ _ _ c.write_at.ensures.time c.write_at.ensures.crash_others

pub returns-in_err-cut-clause-crash_others : goal.returns-in_err-cut-clause-crash_others
returns-in_err-cut-clause-crash_others g c =
    cut_stays (g.S.Shelf.slots c.args.shelf.now) c.args.slot _ _ _ _ (g.S.Shelf.slots c.write_at.new.self) _ _ c.write_at.ensures.slots
    (write_stays (g.S.Shelf.slots c.args.shelf.now) c.args.slot _ _ _ _ c.write_at.ensures.time c.write_at.ensures.crash_others)
    c.cut.ensures.time c.cut.ensures.crash_others

pub returns-clause-crash_others : goal.returns-clause-crash_others
returns-clause-crash_others g c =
    sync_stays (g.S.Shelf.slots c.args.shelf.now) c.args.slot _ _ _ _ _ _
    (cut_stays (g.S.Shelf.slots c.args.shelf.now) c.args.slot _ _ _ _ (g.S.Shelf.slots c.write_at.new.self) _ _ c.write_at.ensures.slots
    (write_stays (g.S.Shelf.slots c.args.shelf.now) c.args.slot _ _ _ _ c.write_at.ensures.time c.write_at.ensures.crash_others)
    c.cut.ensures.time c.cut.ensures.crash_others)
    c.sync.ensures.time c.sync.ensures.crash
