use Rattle.std.proofs.Common.{◌≡◌, sym, ap, ◌∙◌}
use Rattle.shelf.specs.Disk.{Trimmed}
use Rattle.shelf.specs.Stored.{Stored}
use Rattle.shelf.proofs.ImageLemmas.{opened_back, opened_forth, sound_frayed}
use Rattle.shelf.proofs.ShelfLemmas.{Rewrites, changed, text_stays, slot_reads, sound_of}
use Rattle.shelf.proofs.mem_shelf.fray_in.Goals as goal

-- what is left alone changed
left_alone : (was is : Stored) → is ≡ record was { left = is.left } → is ≡ record was { text = is.text; left = is.left }
left_alone was is e = e ∙ ap (λ t. record was { text = t; left = is.left }) (sym (ap (λ x. x.text) e))

pub returns-clause-contents : goal.returns-clause-contents
returns-clause-contents c =
    let files = c.args.files.now.items in
    let was = c.index_mut.result.now in
    let is = c.fray.new.self in
    let r : Rewrites files c.args.slot was is = record { held = c.requires.held; read = c.index_mut.ensures.value; kept = left_alone was is c.fray.ensures.others } in
    text_stays files c.args.slot was is r (ap (λ x. x.text) c.fray.ensures.others)

pub returns-clause-changed : goal.returns-clause-changed
returns-clause-changed c =
    let files = c.args.files.now.items in
    let was = c.index_mut.result.now in
    let is = c.fray.new.self in
    let r : Rewrites files c.args.slot was is = record { held = c.requires.held; read = c.index_mut.ensures.value; kept = left_alone was is c.fray.ensures.others } in
    let fits = c.requires.shortens was.text (slot_reads files c.args.slot was c.requires.held c.index_mut.ensures.value) in
    let sound = sound_of files c.args.slot was is r c.requires.sound in
    changed (Trimmed c.args.size) files c.args.slot was is r c.requires.one_each c.requires.sound
    (opened_back c.args.size was is sound c.fray.ensures.opened) (opened_forth c.args.size was is c.fray.ensures.opened)
    (sound_frayed c.args.size was is sound fits (ap (λ x. x.text) c.fray.ensures.others) c.fray.ensures.opened)
