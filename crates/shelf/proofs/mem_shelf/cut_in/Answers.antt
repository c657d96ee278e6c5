use Rattle.std.proofs.Common.{◌≡◌, ℕ, List, sym, ap, ◌∙◌}
use Rattle.shelf.specs.Disk.{Cut, Shortened}
use Rattle.shelf.specs.Stored.{Stored, Left}
use Rattle.shelf.proofs.ImageLemmas.{cut_back, cut_forth, sound_cut}
use Rattle.shelf.proofs.ShelfLemmas.{Rewrites, changed, text_at, slot_reads, sound_of}
use Rattle.shelf.proofs.mem_shelf.cut_in.Goals as goal

-- text and what is left alone changed
both_alone : (was is : Stored) (t : List ℕ) (l : Left) → is ≡ record was { text = t; left = l } → is ≡ record was { text = is.text; left = is.left }
both_alone was is t l e = e ∙ ap (λ u. record was { text = u; left = l }) (sym (ap (λ x. x.text) e)) ∙ ap (λ m. record was { text = is.text; left = m }) (sym (ap (λ x. x.left) e))

pub returns-clause-shortened : goal.returns-clause-shortened
returns-clause-shortened c =
    let files = c.args.files.now.items in
    let was = c.index_mut.result.now in
    let is = c.cut.new.self in
    let r : Rewrites files c.args.slot was is = record { held = c.requires.held; read = c.index_mut.ensures.value; kept = both_alone was is _ _ c.cut.ensures.cut } in
    text_at (Shortened c.args.size) files c.args.slot was is r c.requires.one_each (ap (λ x. x.text) c.cut.ensures.cut)

pub returns-clause-changed : goal.returns-clause-changed
returns-clause-changed c =
    let files = c.args.files.now.items in
    let was = c.index_mut.result.now in
    let is = c.cut.new.self in
    let r : Rewrites files c.args.slot was is = record { held = c.requires.held; read = c.index_mut.ensures.value; kept = both_alone was is _ _ c.cut.ensures.cut } in
    let fits = c.requires.shortens was.text (slot_reads files c.args.slot was c.requires.held c.index_mut.ensures.value) in
    let sound = sound_of files c.args.slot was is r c.requires.sound in
    let left = ap (λ x. x.left) c.cut.ensures.cut in
    changed (Cut c.args.size) files c.args.slot was is r c.requires.one_each c.requires.sound
    (cut_back c.args.size was is sound left) (cut_forth c.args.size was is left)
    (sound_cut c.args.size was is sound fits (ap (λ x. x.text) c.cut.ensures.cut) left)
