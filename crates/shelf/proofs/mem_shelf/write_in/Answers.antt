use Rattle.std.proofs.Common.{length}
use Rattle.shelf.specs.Disk.{Written, Torn}
use Rattle.shelf.proofs.ImageLemmas.{touched_back, touched_forth, sound_written}
use Rattle.shelf.proofs.ShelfLemmas.{Rewrites, changed, text_at, slot_reads, sound_of}
use Rattle.shelf.proofs.mem_shelf.write_in.Goals as goal

pub returns-clause-written : goal.returns-clause-written
returns-clause-written c =
    let files = c.args.files.now.items in
    let was = c.index_mut.result.now in
    let is = c.write.new.self in
    let r : Rewrites files c.args.slot was is = record { held = c.requires.held; read = c.index_mut.ensures.value; kept = c.write.ensures.others } in
    text_at (Written c.args.at c.args.bytes.now) files c.args.slot was is r c.requires.one_each c.write.ensures.written

pub returns-clause-changed : goal.returns-clause-changed
returns-clause-changed c =
    let files = c.args.files.now.items in
    let was = c.index_mut.result.now in
    let is = c.write.new.self in
    let r : Rewrites files c.args.slot was is = record { held = c.requires.held; read = c.index_mut.ensures.value; kept = c.write.ensures.others } in
    let begins = c.requires.begins was.text (slot_reads files c.args.slot was c.requires.held c.index_mut.ensures.value) in
    let sound = sound_of files c.args.slot was is r c.requires.sound in
    changed (Torn c.args.at (length c.args.bytes.now)) files c.args.slot was is r c.requires.one_each c.requires.sound
    (touched_back c.args.at (length c.args.bytes.now) was is sound begins c.write.ensures.touched)
    (touched_forth c.args.at (length c.args.bytes.now) was is sound begins c.write.ensures.touched)
    (sound_written c.args.at c.args.bytes.now was is sound begins c.write.ensures.written c.write.ensures.touched)
