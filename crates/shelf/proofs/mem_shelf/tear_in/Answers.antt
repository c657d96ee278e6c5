use Rattle.std.proofs.Common.{◌≡◌, sym, ap, ◌∙◌}
use Rattle.shelf.specs.Disk.{Torn}
use Rattle.shelf.specs.Stored.{Stored}
use Rattle.shelf.proofs.ImageLemmas.{touched_back, touched_forth, sound_torn}
use Rattle.shelf.proofs.ShelfLemmas.{Rewrites, changed, text_stays, slot_reads, sound_of}
use Rattle.shelf.proofs.mem_shelf.tear_in.Goals as goal

-- what is left alone changed
left_alone : (was is : Stored) → is ≡ record was { left = is.left } → is ≡ record was { text = is.text; left = is.left }
left_alone was is e = e ∙ ap (λ t. record was { text = t; left = is.left }) (sym (ap (λ x. x.text) e))

pub returns-clause-contents : goal.returns-clause-contents
returns-clause-contents c =
    let files = c.args.files.now.items in
    let was = c.index_mut.result.now in
    let is = c.tear.new.self in
    let r : Rewrites files c.args.slot was is = record { held = c.requires.held; read = c.index_mut.ensures.value; kept = left_alone was is c.tear.ensures.others } in
    text_stays files c.args.slot was is r (ap (λ x. x.text) c.tear.ensures.others)

pub returns-clause-changed : goal.returns-clause-changed
returns-clause-changed c =
    let files = c.args.files.now.items in
    let was = c.index_mut.result.now in
    let is = c.tear.new.self in
    let r : Rewrites files c.args.slot was is = record { held = c.requires.held; read = c.index_mut.ensures.value; kept = left_alone was is c.tear.ensures.others } in
    let begins = c.requires.begins was.text (slot_reads files c.args.slot was c.requires.held c.index_mut.ensures.value) in
    let sound = sound_of files c.args.slot was is r c.requires.sound in
    changed (Torn c.args.at c.args.count) files c.args.slot was is r c.requires.one_each c.requires.sound
    (touched_back c.args.at c.args.count was is sound begins c.tear.ensures.touched)
    (touched_forth c.args.at c.args.count was is sound begins c.tear.ensures.touched)
    (sound_torn c.args.at c.args.count was is sound begins (ap (λ x. x.text) c.tear.ensures.others) c.tear.ensures.touched)
