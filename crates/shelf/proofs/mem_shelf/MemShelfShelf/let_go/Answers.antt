use Rattle.std.proofs.Common.{◌≡◌, ◌∷◌, length, sym, subst, arith}
use Rattle.std.proofs.lemmas.List.{with_items_is}
use Rattle.shelf.specs.Disk.{SameContents, Tells, Stay}
use Rattle.shelf.specs.Past.{past_of, images_at, AllSound}
use Rattle.shelf.specs.Stored.{texts_in, images_in, OneEach, AreSound}
use Rattle.shelf.proofs.PastLemmas.{same_now, still, sound_now, sound_still}
use Rattle.shelf.proofs.mem_shelf.MemShelfShelf.let_go.Goals as goal

pub returns-clause-contents : goal.returns-clause-contents
returns-clause-contents c =
    let vec = c.args.self.now.files in
    let new = c.let_go_all.new.files in
    let long : length new ≡ vec.len = omega (arith, c.deref_mut.ensures.len) in
    subst (λ l. SameContents (texts_in vec.items) (texts_in l)) (sym (with_items_is vec new long))
    (subst (λ l. SameContents (texts_in l) (texts_in new)) c.deref_mut.ensures.value c.let_go_all.ensures.contents)

pub returns-clause-tells : goal.returns-clause-tells
returns-clause-tells c =
    let vec = c.args.self.now.files in
    let new = c.let_go_all.new.files in
    let long : length new ≡ vec.len = omega (arith, c.deref_mut.ensures.len) in
    subst (λ l. Tells (texts_in vec.items) (texts_in l)) (sym (with_items_is vec new long))
    (subst (λ l. Tells (texts_in l) (texts_in new)) c.deref_mut.ensures.value c.let_go_all.ensures.tells)

pub returns-clause-crash : goal.returns-clause-crash
returns-clause-crash c =
    let vec = c.args.self.now.files in
    let new = c.let_go_all.new.files in
    let long : length new ≡ vec.len = omega (arith, c.deref_mut.ensures.len) in
    let back : SameContents (images_in vec.items) (images_in new) = subst (λ l. SameContents (images_in l) (images_in new)) c.deref_mut.ensures.value c.let_go_all.ensures.left in
    let past = past_of c.args.self.now.past in
    subst (λ l. SameContents (images_at (vec.items ∷ past) (length past)) (images_at (l ∷ past) (length past))) (sym (with_items_is vec new long))
    (same_now vec.items new past past back)

pub returns-clause-time : goal.returns-clause-time
returns-clause-time c =
    let past = past_of c.args.self.now.past in
    still c.args.self.now.files.items _ past

pub returns-clause-exact : goal.returns-clause-exact
returns-clause-exact c =
    let vec = c.args.self.now.files in
    let new = c.let_go_all.new.files in
    let long : length new ≡ vec.len = omega (arith, c.deref_mut.ensures.len) in
    let back : SameContents (images_in vec.items) (images_in new) = subst (λ l. SameContents (images_in l) (images_in new)) c.deref_mut.ensures.value c.let_go_all.ensures.left in
    let forth : SameContents (images_in new) (images_in vec.items) = subst (λ l. SameContents (images_in new) (images_in l)) c.deref_mut.ensures.value c.let_go_all.ensures.left_before in
    subst (λ l. Stay (images_in vec.items) (images_in l)) (sym (with_items_is vec new long)) (record { back = back; forth = forth })

pub invariant_of-self : goal.invariant_of-self
invariant_of-self c =
    let vec = c.args.self.now.files in
    let new = c.let_go_all.new.files in
    let long : length new ≡ vec.len = omega (arith, c.deref_mut.ensures.len) in
    let past = past_of c.args.self.now.past in
    let sound : AreSound new = c.let_go_all.ensures.sound (subst AreSound (sym c.deref_mut.ensures.value) (sound_now vec.items past c.args.self.now.sound)) in
    record {
      one_each = subst (λ l. OneEach l) (sym (with_items_is vec new long)) c.let_go_all.ensures.one_each;
      sound = subst (λ l. AllSound (l ∷ past)) (sym (with_items_is vec new long)) (sound_still vec.items new past c.args.self.now.sound sound);
    }
