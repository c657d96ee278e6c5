use Rattle.std.proofs.Common.{◌≡◌, ◌∙◌, ℕ, None, ap, sym, subst, arith, set}
use Rattle.std.proofs.lemmas.List.Edits.{map_over_more}
use Rattle.shelf.specs.Disk.{SameContents, Tells}
use Rattle.shelf.specs.Stored.{slots_in, texts_in, images_in, OneEach, AreSound, IsLeft}
use Rattle.shelf.proofs.ShelfLemmas.{let_go, all_let_go, all_free, same_under_let_go, same_before_let_go, sound_let_go, still_tells_let_go, one_each_let_go}
use Rattle.shelf.proofs.mem_shelf.let_go_all.Goals as goal

pub loop-file-preserved : goal.loop-file-preserved
loop-file-preserved c =
    let files = c.loop-file.files in
    let i = c.loop-file.file-index in
    ap (λ y. set files i y) (c.let_go.ensures ∙ ap (λ x. let_go x) (sym c.file-item.is))
    ∙ map_over_more let_go c.args.files.now files i c.file-item.result (omega arith) c.loop-file.invariant c.file-item.is

pub returns-clause-free : goal.returns-clause-free
returns-clause-free c =
    let whole = all_let_go c.args.files.now c.loop-file.files c.loop-file.file-index (omega arith) c.loop-file.invariant in
    subst (λ l. (k : ℕ) → slots_in l k ≡ None) (sym whole) (all_free c.args.files.now)

pub returns-clause-contents : goal.returns-clause-contents
returns-clause-contents c =
    let whole = all_let_go c.args.files.now c.loop-file.files c.loop-file.file-index (omega arith) c.loop-file.invariant in
    subst (λ l. SameContents (texts_in c.args.files.now) (texts_in l)) (sym whole) (same_under_let_go (λ f t. f.text ≡ t) c.args.files.now (λ f t e. e))

pub returns-clause-tells : goal.returns-clause-tells
returns-clause-tells c =
    let whole = all_let_go c.args.files.now c.loop-file.files c.loop-file.file-index (omega arith) c.loop-file.invariant in
    subst (λ l. Tells (texts_in c.args.files.now) (texts_in l)) (sym whole) (still_tells_let_go c.args.files.now)

pub returns-clause-one_each : goal.returns-clause-one_each
returns-clause-one_each c =
    let whole = all_let_go c.args.files.now c.loop-file.files c.loop-file.file-index (omega arith) c.loop-file.invariant in
    subst (λ l. OneEach l) (sym whole) (one_each_let_go c.args.files.now c.requires)

pub returns-clause-left : goal.returns-clause-left
returns-clause-left c =
    let whole = all_let_go c.args.files.now c.loop-file.files c.loop-file.file-index (omega arith) c.loop-file.invariant in
    subst (λ l. SameContents (images_in c.args.files.now) (images_in l)) (sym whole) (same_under_let_go (λ f c. IsLeft f.left c) c.args.files.now (λ f t left. left))

pub returns-clause-left_before : goal.returns-clause-left_before
returns-clause-left_before c =
    let whole = all_let_go c.args.files.now c.loop-file.files c.loop-file.file-index (omega arith) c.loop-file.invariant in
    subst (λ l. SameContents (images_in l) (images_in c.args.files.now)) (sym whole) (same_before_let_go (λ f c. IsLeft f.left c) c.args.files.now (λ f t left. left))

pub returns-clause-sound : goal.returns-clause-sound
returns-clause-sound c = λ sound.
    let whole = all_let_go c.args.files.now c.loop-file.files c.loop-file.file-index (omega arith) c.loop-file.invariant in
    subst AreSound (sym whole) (sound_let_go c.args.files.now sound)
