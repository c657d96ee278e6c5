use Rattle.std.proofs.Common.{◌≡◌, sym, ap, ◌∙◌, subst}
use Rattle.shelf.specs.Disk.{name_at}
use Rattle.shelf.specs.Stored.{Stored, IsLeft, texts_in, slots_in}
use Rattle.shelf.proofs.ImageLemmas.{settled_alone, settled_left, sound_settled}
use Rattle.shelf.proofs.ShelfLemmas.{Rewrites, changed, text_stays, same_before, slot_reads, slot_reads_alone, sound_of}
use Rattle.shelf.proofs.mem_shelf.sync_in.Goals as goal

-- what is left alone changed
left_alone : (was is : Stored) → is ≡ record was { left = is.left } → is ≡ record was { text = is.text; left = is.left }
left_alone was is e = e ∙ ap (λ t. record was { text = t; left = is.left }) (sym (ap (λ x. x.text) e))

pub returns-clause-contents : goal.returns-clause-contents
returns-clause-contents c =
    let files = c.args.files.now.items in
    let was = c.index_mut.result.now in
    let is = c.sync.new.self in
    let r : Rewrites files c.args.slot was is = record { held = c.requires.held; read = c.index_mut.ensures.value; kept = left_alone was is c.sync.ensures.others } in
    text_stays files c.args.slot was is r (ap (λ x. x.text) c.sync.ensures.others)

pub returns-clause-contents_before : goal.returns-clause-contents_before
returns-clause-contents_before c =
    let files = c.args.files.now.items in
    let was = c.index_mut.result.now in
    let is = c.sync.new.self in
    let r : Rewrites files c.args.slot was is = record { held = c.requires.held; read = c.index_mut.ensures.value; kept = left_alone was is c.sync.ensures.others } in
    same_before (λ file t. file.text ≡ t) files c.args.slot was is r (λ t e. ap (λ x. x.text) c.sync.ensures.others ∙ e)

pub returns-clause-changed : goal.returns-clause-changed
returns-clause-changed c =
    let files = c.args.files.now.items in
    let was = c.index_mut.result.now in
    let is = c.sync.new.self in
    let r : Rewrites files c.args.slot was is = record { held = c.requires.held; read = c.index_mut.ensures.value; kept = left_alone was is c.sync.ensures.others } in
    let sound = sound_of files c.args.slot was is r c.requires.sound in
    let text : is.text ≡ was.text = ap (λ x. x.text) c.sync.ensures.others in
    let reads = slot_reads files c.args.slot was c.requires.held c.index_mut.ensures.value in
    changed (λ _ t. texts_in files (name_at (slots_in files c.args.slot)) t) files c.args.slot was is r c.requires.one_each c.requires.sound
    (λ t left. (was.text, sound.reads, subst (λ u. texts_in files (name_at (slots_in files c.args.slot)) u) (sym (settled_alone is.text is.left c.sync.ensures.settled t left ∙ text)) reads))
    (λ d t left held. subst (λ u. IsLeft is.left u) (text ∙ sym (slot_reads_alone files c.args.slot was c.requires.held c.index_mut.ensures.value c.requires.one_each t held)) (settled_left is.text is.left c.sync.ensures.settled))
    (sound_settled is c.sync.ensures.settled)
