use Rattle.shelf.specs.Past.{past_of}
use Rattle.shelf.proofs.PastLemmas.{sound_now}
use Rattle.shelf.proofs.PickLemmas.{left_of, told_of, settled_of, free_of}
use Rattle.shelf.proofs.mem_shelf.MemShelf.crash.Goals as goal

pub crash_all-requires-clause-sound : goal.crash_all-requires-clause-sound
crash_all-requires-clause-sound c = sound_now c.args.self.files.items (past_of c.args.self.past) c.args.self.sound

pub returns-clause-left : goal.returns-clause-left
returns-clause-left c = left_of c.args.self.files.items c.args.picks.now c.crash_all.new.files.items (sound_now c.args.self.files.items (past_of c.args.self.past) c.args.self.sound) c.crash_all.ensures.picked

pub returns-clause-told : goal.returns-clause-told
returns-clause-told c = told_of c.crash_all.new.files.items

pub returns-clause-settled : goal.returns-clause-settled
returns-clause-settled c = settled_of c.args.self.files.items c.args.picks.now c.crash_all.new.files.items c.crash_all.ensures.picked

pub returns-clause-free : goal.returns-clause-free
returns-clause-free c = free_of c.args.self.files.items c.args.picks.now c.crash_all.new.files.items c.crash_all.ensures.picked
