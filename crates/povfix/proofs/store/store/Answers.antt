use Rattle.povfix.proofs.Stays.{held_stays, others_of, stored_stays}
use Rattle.povfix.proofs.Storing.{three_tell}
use Rattle.povfix.proofs.store.store.Goals as goal

pub returns-in-Ok-write_whole-clause-tells : goal.returns-in-Ok-write_whole-clause-tells
returns-in-Ok-write_whole-clause-tells g c = three_tell (g.S.Shelf.holds c.args.shelf.now) (g.S.Shelf.holds c.let_go.new.self) (g.S.Shelf.holds c.hold.new.self) (g.S.Shelf.holds c.write_whole.new.shelf) c.let_go.ensures.tells c.in-Ok.ensures.tells c.write_whole.ensures.tells

pub returns-in-Err-write_whole-clause-tells : goal.returns-in-Err-write_whole-clause-tells
returns-in-Err-write_whole-clause-tells g c = three_tell (g.S.Shelf.holds c.args.shelf.now) (g.S.Shelf.holds c.let_go.new.self) (g.S.Shelf.holds c.hold.new.self) (g.S.Shelf.holds c.write_whole.new.shelf) c.let_go.ensures.tells c.in-Ok.ensures.tells c.write_whole.ensures.tells

pub returns-in-Err-clause-crash_memory : goal.returns-in-Err-clause-crash_memory
returns-in-Err-clause-crash_memory g c = λ _. held_stays _ _ _ _ _ _ c.let_go.ensures.time c.let_go.ensures.crash c.hold.ensures.time c.hold.ensures.crash

pub returns-in-Err-clause-crash_others : goal.returns-in-Err-clause-crash_others
returns-in-Err-clause-crash_others g c = others_of _ _ _ _ _ (held_stays _ _ _ _ _ _ c.let_go.ensures.time c.let_go.ensures.crash c.hold.ensures.time c.hold.ensures.crash)

pub returns-in-Ok-write_whole-clause-crash_others : goal.returns-in-Ok-write_whole-clause-crash_others
returns-in-Ok-write_whole-clause-crash_others g c =
    stored_stays _ (g.S.Shelf.slots c.hold.new.self) c.in-Ok.slot c.args.name.now _ _ _ _ _ _ _ c.in-Ok.ensures.held
    (held_stays _ _ _ _ _ _ c.let_go.ensures.time c.let_go.ensures.crash c.hold.ensures.time c.hold.ensures.crash) c.write_whole.ensures.crash_others

pub returns-in-Err-write_whole-clause-crash_others : goal.returns-in-Err-write_whole-clause-crash_others
returns-in-Err-write_whole-clause-crash_others g c =
    stored_stays _ (g.S.Shelf.slots c.hold.new.self) c.in-Ok.slot c.args.name.now _ _ _ _ _ _ _ c.in-Ok.ensures.held
    (held_stays _ _ _ _ _ _ c.let_go.ensures.time c.let_go.ensures.crash c.hold.ensures.time c.hold.ensures.crash) c.write_whole.ensures.crash_others
