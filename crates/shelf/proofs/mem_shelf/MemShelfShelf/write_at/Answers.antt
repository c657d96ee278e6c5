use Rattle.std.proofs.Common.{length, Some}
use Rattle.shelf.specs.Disk.{Torn, name_at}
use Rattle.shelf.specs.Past.{past_of}
use Rattle.shelf.specs.Stored.{slots_in}
use Rattle.shelf.proofs.FileLemmas.{torn_not_at_all, torn_by_write}
use Rattle.shelf.proofs.PastLemmas.{others_now, follows_now, passes, sound_now}
use Rattle.shelf.proofs.mem_shelf.MemShelfShelf.write_at.Goals as goal

pub returns-then-take-clause-torn : goal.returns-then-take-clause-torn
returns-then-take-clause-torn c =
    let files = c.args.self.now.files.items in
    let name = name_at (slots_in files c.args.slot) in
    let new = c.tear_in.new.files.items in
    let before = past_of c.args.self.now.past in
    let past = past_of (Some c.after.result) in
    λ t held. (t, c.tear_in.ensures.contents name t held, torn_not_at_all c.args.at (length c.args.bytes.now) t)

pub returns-then-take-clause-others : goal.returns-then-take-clause-others
returns-then-take-clause-others c =
    let files = c.args.self.now.files.items in
    let name = name_at (slots_in files c.args.slot) in
    let new = c.tear_in.new.files.items in
    let before = past_of c.args.self.now.past in
    let past = past_of (Some c.after.result) in
    c.tear_in.ensures.changed.others

pub returns-then-take-clause-tells : goal.returns-then-take-clause-tells
returns-then-take-clause-tells c =
    let files = c.args.self.now.files.items in
    let name = name_at (slots_in files c.args.slot) in
    let new = c.tear_in.new.files.items in
    let before = past_of c.args.self.now.past in
    let past = past_of (Some c.after.result) in
    c.tear_in.ensures.changed.tells

pub returns-then-take-clause-slots : goal.returns-then-take-clause-slots
returns-then-take-clause-slots c =
    let files = c.args.self.now.files.items in
    let name = name_at (slots_in files c.args.slot) in
    let new = c.tear_in.new.files.items in
    let before = past_of c.args.self.now.past in
    let past = past_of (Some c.after.result) in
    c.tear_in.ensures.changed.slots

pub returns-then-take-clause-crash : goal.returns-then-take-clause-crash
returns-then-take-clause-crash c =
    let files = c.args.self.now.files.items in
    let name = name_at (slots_in files c.args.slot) in
    let new = c.tear_in.new.files.items in
    let before = past_of c.args.self.now.past in
    let past = past_of (Some c.after.result) in
    follows_now (Torn c.args.at (length c.args.bytes.now)) name files new before past c.tear_in.ensures.changed.left.back

pub returns-then-take-clause-crash_others : goal.returns-then-take-clause-crash_others
returns-then-take-clause-crash_others c =
    let files = c.args.self.now.files.items in
    let name = name_at (slots_in files c.args.slot) in
    let new = c.tear_in.new.files.items in
    let before = past_of c.args.self.now.past in
    let past = past_of (Some c.after.result) in
    others_now name files new before past c.tear_in.ensures.changed.left.others_back

pub returns-then-take-clause-time : goal.returns-then-take-clause-time
returns-then-take-clause-time c =
    let files = c.args.self.now.files.items in
    let name = name_at (slots_in files c.args.slot) in
    let new = c.tear_in.new.files.items in
    let before = past_of c.args.self.now.past in
    let past = past_of (Some c.after.result) in
    passes files new before past c.after.ensures

pub returns-then-take-clause-untouched : goal.returns-then-take-clause-untouched
returns-then-take-clause-untouched c =
    let files = c.args.self.now.files.items in
    let name = name_at (slots_in files c.args.slot) in
    let new = c.tear_in.new.files.items in
    let before = past_of c.args.self.now.past in
    let past = past_of (Some c.after.result) in
    c.tear_in.ensures.contents

pub returns-then-take-clause-exact : goal.returns-then-take-clause-exact
returns-then-take-clause-exact c =
    let files = c.args.self.now.files.items in
    let name = name_at (slots_in files c.args.slot) in
    let new = c.tear_in.new.files.items in
    let before = past_of c.args.self.now.past in
    let past = past_of (Some c.after.result) in
    c.tear_in.ensures.changed.left

pub returns-clause-written : goal.returns-clause-written
returns-clause-written c =
    let files = c.args.self.now.files.items in
    let name = name_at (slots_in files c.args.slot) in
    let new = c.write_in.new.files.items in
    let before = past_of c.args.self.now.past in
    let past = past_of (Some c.after.result) in
    c.write_in.ensures.written

pub returns-clause-torn : goal.returns-clause-torn
returns-clause-torn c =
    let files = c.args.self.now.files.items in
    let name = name_at (slots_in files c.args.slot) in
    let new = c.write_in.new.files.items in
    let before = past_of c.args.self.now.past in
    let past = past_of (Some c.after.result) in
    λ t held. let d = c.write_in.ensures.written t held in (d.0, d.1, torn_by_write c.args.at c.args.bytes.now d.0 t (c.requires.begins d.0 d.1) d.2)

pub returns-clause-others : goal.returns-clause-others
returns-clause-others c =
    let files = c.args.self.now.files.items in
    let name = name_at (slots_in files c.args.slot) in
    let new = c.write_in.new.files.items in
    let before = past_of c.args.self.now.past in
    let past = past_of (Some c.after.result) in
    c.write_in.ensures.changed.others

pub returns-clause-tells : goal.returns-clause-tells
returns-clause-tells c =
    let files = c.args.self.now.files.items in
    let name = name_at (slots_in files c.args.slot) in
    let new = c.write_in.new.files.items in
    let before = past_of c.args.self.now.past in
    let past = past_of (Some c.after.result) in
    c.write_in.ensures.changed.tells

pub returns-clause-slots : goal.returns-clause-slots
returns-clause-slots c =
    let files = c.args.self.now.files.items in
    let name = name_at (slots_in files c.args.slot) in
    let new = c.write_in.new.files.items in
    let before = past_of c.args.self.now.past in
    let past = past_of (Some c.after.result) in
    c.write_in.ensures.changed.slots

pub returns-clause-crash : goal.returns-clause-crash
returns-clause-crash c =
    let files = c.args.self.now.files.items in
    let name = name_at (slots_in files c.args.slot) in
    let new = c.write_in.new.files.items in
    let before = past_of c.args.self.now.past in
    let past = past_of (Some c.after.result) in
    follows_now (Torn c.args.at (length c.args.bytes.now)) name files new before past c.write_in.ensures.changed.left.back

pub returns-clause-crash_others : goal.returns-clause-crash_others
returns-clause-crash_others c =
    let files = c.args.self.now.files.items in
    let name = name_at (slots_in files c.args.slot) in
    let new = c.write_in.new.files.items in
    let before = past_of c.args.self.now.past in
    let past = past_of (Some c.after.result) in
    others_now name files new before past c.write_in.ensures.changed.left.others_back

pub returns-clause-time : goal.returns-clause-time
returns-clause-time c =
    let files = c.args.self.now.files.items in
    let name = name_at (slots_in files c.args.slot) in
    let new = c.write_in.new.files.items in
    let before = past_of c.args.self.now.past in
    let past = past_of (Some c.after.result) in
    passes files new before past c.after.ensures

pub returns-clause-exact : goal.returns-clause-exact
returns-clause-exact c =
    let files = c.args.self.now.files.items in
    let name = name_at (slots_in files c.args.slot) in
    let new = c.write_in.new.files.items in
    let before = past_of c.args.self.now.past in
    let past = past_of (Some c.after.result) in
    c.write_in.ensures.changed.left

pub tear_in-requires-clause-sound : goal.tear_in-requires-clause-sound
tear_in-requires-clause-sound c = sound_now c.args.self.now.files.items (past_of c.args.self.now.past) c.args.self.now.sound

pub write_in-requires-clause-sound : goal.write_in-requires-clause-sound
write_in-requires-clause-sound c = sound_now c.args.self.now.files.items (past_of c.args.self.now.past) c.args.self.now.sound
