use Rattle.std.proofs.Common.{Some}
use Rattle.shelf.specs.Disk.{Cut, Trimmed, name_at}
use Rattle.shelf.specs.Past.{past_of}
use Rattle.shelf.specs.Stored.{slots_in}
use Rattle.shelf.proofs.FileLemmas.{trimmed_not_at_all, trimmed_by_cut}
use Rattle.shelf.proofs.ImageLemmas.{trimmed_of_cut}
use Rattle.shelf.proofs.PastLemmas.{others_now, follows_now, passes, sound_now}
use Rattle.shelf.proofs.mem_shelf.MemShelfShelf.cut.Goals as goal

pub returns-then-take-clause-trimmed : goal.returns-then-take-clause-trimmed
returns-then-take-clause-trimmed c =
    let files = c.args.self.now.files.items in
    let name = name_at (slots_in files c.args.slot) in
    let new = c.fray_in.new.files.items in
    let before = past_of c.args.self.now.past in
    let past = past_of (Some c.after.result) in
    λ t held. (t, c.fray_in.ensures.contents name t held, trimmed_not_at_all c.args.size t)

pub returns-then-take-clause-others : goal.returns-then-take-clause-others
returns-then-take-clause-others c =
    let files = c.args.self.now.files.items in
    let name = name_at (slots_in files c.args.slot) in
    let new = c.fray_in.new.files.items in
    let before = past_of c.args.self.now.past in
    let past = past_of (Some c.after.result) in
    c.fray_in.ensures.changed.others

pub returns-then-take-clause-tells : goal.returns-then-take-clause-tells
returns-then-take-clause-tells c =
    let files = c.args.self.now.files.items in
    let name = name_at (slots_in files c.args.slot) in
    let new = c.fray_in.new.files.items in
    let before = past_of c.args.self.now.past in
    let past = past_of (Some c.after.result) in
    c.fray_in.ensures.changed.tells

pub returns-then-take-clause-slots : goal.returns-then-take-clause-slots
returns-then-take-clause-slots c =
    let files = c.args.self.now.files.items in
    let name = name_at (slots_in files c.args.slot) in
    let new = c.fray_in.new.files.items in
    let before = past_of c.args.self.now.past in
    let past = past_of (Some c.after.result) in
    c.fray_in.ensures.changed.slots

pub returns-then-take-clause-crash : goal.returns-then-take-clause-crash
returns-then-take-clause-crash c =
    let files = c.args.self.now.files.items in
    let name = name_at (slots_in files c.args.slot) in
    let new = c.fray_in.new.files.items in
    let before = past_of c.args.self.now.past in
    let past = past_of (Some c.after.result) in
    follows_now (Trimmed c.args.size) name files new before past c.fray_in.ensures.changed.left.back

pub returns-then-take-clause-crash_others : goal.returns-then-take-clause-crash_others
returns-then-take-clause-crash_others c =
    let files = c.args.self.now.files.items in
    let name = name_at (slots_in files c.args.slot) in
    let new = c.fray_in.new.files.items in
    let before = past_of c.args.self.now.past in
    let past = past_of (Some c.after.result) in
    others_now name files new before past c.fray_in.ensures.changed.left.others_back

pub returns-then-take-clause-time : goal.returns-then-take-clause-time
returns-then-take-clause-time c =
    let files = c.args.self.now.files.items in
    let name = name_at (slots_in files c.args.slot) in
    let new = c.fray_in.new.files.items in
    let before = past_of c.args.self.now.past in
    let past = past_of (Some c.after.result) in
    passes files new before past c.after.ensures

pub returns-then-take-clause-untouched : goal.returns-then-take-clause-untouched
returns-then-take-clause-untouched c =
    let files = c.args.self.now.files.items in
    let name = name_at (slots_in files c.args.slot) in
    let new = c.fray_in.new.files.items in
    let before = past_of c.args.self.now.past in
    let past = past_of (Some c.after.result) in
    c.fray_in.ensures.contents

pub returns-then-take-clause-exact_begun : goal.returns-then-take-clause-exact_begun
returns-then-take-clause-exact_begun c =
    let files = c.args.self.now.files.items in
    let name = name_at (slots_in files c.args.slot) in
    let new = c.fray_in.new.files.items in
    let before = past_of c.args.self.now.past in
    let past = past_of (Some c.after.result) in
    c.fray_in.ensures.changed.left

pub returns-clause-shortened : goal.returns-clause-shortened
returns-clause-shortened c =
    let files = c.args.self.now.files.items in
    let name = name_at (slots_in files c.args.slot) in
    let new = c.cut_in.new.files.items in
    let before = past_of c.args.self.now.past in
    let past = past_of (Some c.after.result) in
    c.cut_in.ensures.shortened

pub returns-clause-trimmed : goal.returns-clause-trimmed
returns-clause-trimmed c =
    let files = c.args.self.now.files.items in
    let name = name_at (slots_in files c.args.slot) in
    let new = c.cut_in.new.files.items in
    let before = past_of c.args.self.now.past in
    let past = past_of (Some c.after.result) in
    λ t held. let d = c.cut_in.ensures.shortened t held in (d.0, d.1, trimmed_by_cut c.args.size d.0 t d.2)

pub returns-clause-others : goal.returns-clause-others
returns-clause-others c =
    let files = c.args.self.now.files.items in
    let name = name_at (slots_in files c.args.slot) in
    let new = c.cut_in.new.files.items in
    let before = past_of c.args.self.now.past in
    let past = past_of (Some c.after.result) in
    c.cut_in.ensures.changed.others

pub returns-clause-tells : goal.returns-clause-tells
returns-clause-tells c =
    let files = c.args.self.now.files.items in
    let name = name_at (slots_in files c.args.slot) in
    let new = c.cut_in.new.files.items in
    let before = past_of c.args.self.now.past in
    let past = past_of (Some c.after.result) in
    c.cut_in.ensures.changed.tells

pub returns-clause-slots : goal.returns-clause-slots
returns-clause-slots c =
    let files = c.args.self.now.files.items in
    let name = name_at (slots_in files c.args.slot) in
    let new = c.cut_in.new.files.items in
    let before = past_of c.args.self.now.past in
    let past = past_of (Some c.after.result) in
    c.cut_in.ensures.changed.slots

pub returns-clause-crash_cut : goal.returns-clause-crash_cut
returns-clause-crash_cut c =
    let files = c.args.self.now.files.items in
    let name = name_at (slots_in files c.args.slot) in
    let new = c.cut_in.new.files.items in
    let before = past_of c.args.self.now.past in
    let past = past_of (Some c.after.result) in
    follows_now (Cut c.args.size) name files new before past c.cut_in.ensures.changed.left.back

pub returns-clause-crash : goal.returns-clause-crash
returns-clause-crash c =
    let files = c.args.self.now.files.items in
    let name = name_at (slots_in files c.args.slot) in
    let new = c.cut_in.new.files.items in
    let before = past_of c.args.self.now.past in
    let past = past_of (Some c.after.result) in
    follows_now (Trimmed c.args.size) name files new before past (λ t left. let d = c.cut_in.ensures.changed.left.back t left in (d.0, d.1, trimmed_of_cut c.args.size d.0 t d.2))

pub returns-clause-crash_others : goal.returns-clause-crash_others
returns-clause-crash_others c =
    let files = c.args.self.now.files.items in
    let name = name_at (slots_in files c.args.slot) in
    let new = c.cut_in.new.files.items in
    let before = past_of c.args.self.now.past in
    let past = past_of (Some c.after.result) in
    others_now name files new before past c.cut_in.ensures.changed.left.others_back

pub returns-clause-time : goal.returns-clause-time
returns-clause-time c =
    let files = c.args.self.now.files.items in
    let name = name_at (slots_in files c.args.slot) in
    let new = c.cut_in.new.files.items in
    let before = past_of c.args.self.now.past in
    let past = past_of (Some c.after.result) in
    passes files new before past c.after.ensures

pub returns-clause-exact : goal.returns-clause-exact
returns-clause-exact c =
    let files = c.args.self.now.files.items in
    let name = name_at (slots_in files c.args.slot) in
    let new = c.cut_in.new.files.items in
    let before = past_of c.args.self.now.past in
    let past = past_of (Some c.after.result) in
    c.cut_in.ensures.changed.left

pub fray_in-requires-clause-sound : goal.fray_in-requires-clause-sound
fray_in-requires-clause-sound c = sound_now c.args.self.now.files.items (past_of c.args.self.now.past) c.args.self.now.sound

pub cut_in-requires-clause-sound : goal.cut_in-requires-clause-sound
cut_in-requires-clause-sound c = sound_now c.args.self.now.files.items (past_of c.args.self.now.past) c.args.self.now.sound
