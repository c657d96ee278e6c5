use Rattle.std.proofs.Common.{Some}
use Rattle.shelf.specs.Disk.{name_at}
use Rattle.shelf.specs.Past.{past_of}
use Rattle.shelf.specs.Stored.{slots_in, texts_in}
use Rattle.shelf.proofs.PastLemmas.{same_now, within_now, passes, sound_now, sound_passes, synced_back}
use Rattle.shelf.proofs.mem_shelf.MemShelfShelf.sync.Goals as goal

pub returns-then-take-clause-crash : goal.returns-then-take-clause-crash
returns-then-take-clause-crash c =
    let files = c.args.self.now.files.items in
    let name = name_at (slots_in files c.args.slot) in
    let new = files in
    let before = past_of c.args.self.now.past in
    let past = past_of (Some c.after.result) in
    same_now files new before past (λ n t left. left)

pub returns-then-take-clause-time : goal.returns-then-take-clause-time
returns-then-take-clause-time c =
    let files = c.args.self.now.files.items in
    let name = name_at (slots_in files c.args.slot) in
    let new = files in
    let before = past_of c.args.self.now.past in
    let past = past_of (Some c.after.result) in
    passes files new before past c.after.ensures

pub returns-clause-durable : goal.returns-clause-durable
returns-clause-durable c =
    let files = c.args.self.now.files.items in
    let name = name_at (slots_in files c.args.slot) in
    let new = c.sync_in.new.files.items in
    let before = past_of c.args.self.now.past in
    let past = past_of (Some c.after.result) in
    within_now name (texts_in new name) new past (λ t left. c.sync_in.ensures.contents_before name t (c.sync_in.ensures.changed.left.back t left).2)

pub returns-clause-contents : goal.returns-clause-contents
returns-clause-contents c =
    let files = c.args.self.now.files.items in
    let name = name_at (slots_in files c.args.slot) in
    let new = c.sync_in.new.files.items in
    let before = past_of c.args.self.now.past in
    let past = past_of (Some c.after.result) in
    c.sync_in.ensures.contents

pub returns-clause-tells : goal.returns-clause-tells
returns-clause-tells c =
    let files = c.args.self.now.files.items in
    let name = name_at (slots_in files c.args.slot) in
    let new = c.sync_in.new.files.items in
    let before = past_of c.args.self.now.past in
    let past = past_of (Some c.after.result) in
    c.sync_in.ensures.changed.tells

pub returns-clause-slots : goal.returns-clause-slots
returns-clause-slots c =
    let files = c.args.self.now.files.items in
    let name = name_at (slots_in files c.args.slot) in
    let new = c.sync_in.new.files.items in
    let before = past_of c.args.self.now.past in
    let past = past_of (Some c.after.result) in
    c.sync_in.ensures.changed.slots

pub returns-clause-time : goal.returns-clause-time
returns-clause-time c =
    let files = c.args.self.now.files.items in
    let name = name_at (slots_in files c.args.slot) in
    let new = c.sync_in.new.files.items in
    let before = past_of c.args.self.now.past in
    let past = past_of (Some c.after.result) in
    passes files new before past c.after.ensures

pub returns-clause-exact : goal.returns-clause-exact
returns-clause-exact c =
    let files = c.args.self.now.files.items in
    let name = name_at (slots_in files c.args.slot) in
    let new = c.sync_in.new.files.items in
    let before = past_of c.args.self.now.past in
    let past = past_of (Some c.after.result) in
    c.sync_in.ensures.changed.left.others_forth

pub returns-clause-crash : goal.returns-clause-crash
returns-clause-crash c =
    let files = c.args.self.now.files.items in
    let name = name_at (slots_in files c.args.slot) in
    let new = c.sync_in.new.files.items in
    let before = past_of c.args.self.now.past in
    let past = past_of (Some c.after.result) in
    same_now files new before past (synced_back name files new (sound_now files before c.args.self.now.sound) c.sync_in.ensures.changed.left)

pub sync_in-requires-clause-sound : goal.sync_in-requires-clause-sound
sync_in-requires-clause-sound c = sound_now c.args.self.now.files.items (past_of c.args.self.now.past) c.args.self.now.sound

pub invariant_of-self : goal.invariant_of-self
invariant_of-self c =
    let files = c.args.self.now.files.items in
    let before = past_of c.args.self.now.past in
    record {
      one_each = c.args.self.now.one_each;
      sound = sound_passes files files before (past_of (Some c.after.result)) c.after.ensures c.args.self.now.sound (sound_now files before c.args.self.now.sound);
    }
