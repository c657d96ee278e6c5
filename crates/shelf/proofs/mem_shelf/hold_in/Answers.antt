use Rattle.std.proofs.Common.{rules, ◌≡◌, ◌∙◌, ◌++◌, ◌∷◌, [], true, length, ap, sym, subst, set, slice_get}
use Rattle.std.specs.Option.{IsSomeAnd}
use Rattle.shelf.specs.Disk.{SameContents, Tells, Holds}
use Rattle.shelf.specs.Stored.{slots_in, texts_in, images_in, OneEach, IsAbsent, IsLeft, IsSound, AreSound, IsSettled}
use Rattle.shelf.proofs.ImageLemmas.{settled_alone, settled_left, sound_settled}
use Rattle.shelf.proofs.ShelfLemmas.{reheld, refused_file, found_file, still_tells, same_under, back, one_each, now_held, added, one_each_added, same_under_added, same_before_added, sound_change, sound_added, still_tells_added, held_added}
use Rattle.shelf.proofs.mem_shelf.hold_in.Goals as goal

pub returns-then-is_err-clause-tells : goal.returns-then-is_err-clause-tells
returns-then-is_err-clause-tells c =
    let files = c.args.files.now.items in
    let was = c.index_mut.result.now in
    let is = c.hold.new.self in
    let found : IsSomeAnd (slice_get files c.in-Some.place) (λ f. f.name ≡ c.args.name.now) =
    subst (λ l. IsSomeAnd (slice_get l c.in-Some.place) (λ f. f.name ≡ c.args.name.now)) c.deref.ensures.value c.in-Some.ensures.found in
    let e : is ≡ was = search rules in
    let ch = refused_file files c.in-Some.place was is c.args.name.now found c.index_mut.ensures.value e in
    still_tells files (set files c.in-Some.place is) c.in-Some.place was is ch

pub returns-else-is_err-clause-held : goal.returns-else-is_err-clause-held
returns-else-is_err-clause-held c =
    let files = c.args.files.now.items in
    let was = c.index_mut.result.now in
    let is = c.hold.new.self in
    let found : IsSomeAnd (slice_get files c.in-Some.place) (λ f. f.name ≡ c.args.name.now) =
    subst (λ l. IsSomeAnd (slice_get l c.in-Some.place) (λ f. f.name ≡ c.args.name.now)) c.deref.ensures.value c.in-Some.ensures.found in
    let e : is ≡ record was { is_held = true; most = c.args.most } = search rules in
    let ch = reheld files c.in-Some.place was is c.args.name.now c.args.most found c.index_mut.ensures.value e in
    let slot : c.in-Ok.slot ≡ c.in-Some.place = search rules in
    let both = found_file files c.in-Some.place was c.args.name.now found c.index_mut.ensures.value in
    subst (λ k. Holds (slots_in files) (slots_in (set files c.in-Some.place is)) k c.args.name.now c.args.most) (sym slot)
    (now_held files (set files c.in-Some.place is) c.in-Some.place was is c.args.name.now c.args.most ch c.requires.free both.1
    (ap (λ x. x.is_held) e) (ap (λ x. x.most) e))

pub returns-else-is_err-clause-contents : goal.returns-else-is_err-clause-contents
returns-else-is_err-clause-contents c =
    let files = c.args.files.now.items in
    let was = c.index_mut.result.now in
    let is = c.hold.new.self in
    let found : IsSomeAnd (slice_get files c.in-Some.place) (λ f. f.name ≡ c.args.name.now) =
    subst (λ l. IsSomeAnd (slice_get l c.in-Some.place) (λ f. f.name ≡ c.args.name.now)) c.deref.ensures.value c.in-Some.ensures.found in
    let e : is ≡ record was { is_held = true; most = c.args.most } = search rules in
    let ch = reheld files c.in-Some.place was is c.args.name.now c.args.most found c.index_mut.ensures.value e in
    same_under (λ f c. f.text ≡ c) files (set files c.in-Some.place is) c.in-Some.place was is ch (λ c t. sym (ap (λ x. x.text) e) ∙ t)

pub returns-else-is_err-clause-tells : goal.returns-else-is_err-clause-tells
returns-else-is_err-clause-tells c =
    let files = c.args.files.now.items in
    let was = c.index_mut.result.now in
    let is = c.hold.new.self in
    let found : IsSomeAnd (slice_get files c.in-Some.place) (λ f. f.name ≡ c.args.name.now) =
    subst (λ l. IsSomeAnd (slice_get l c.in-Some.place) (λ f. f.name ≡ c.args.name.now)) c.deref.ensures.value c.in-Some.ensures.found in
    let e : is ≡ record was { is_held = true; most = c.args.most } = search rules in
    let ch = reheld files c.in-Some.place was is c.args.name.now c.args.most found c.index_mut.ensures.value e in
    still_tells files (set files c.in-Some.place is) c.in-Some.place was is ch

pub returns-else-is_err-clause-one_each : goal.returns-else-is_err-clause-one_each
returns-else-is_err-clause-one_each c =
    let files = c.args.files.now.items in
    let was = c.index_mut.result.now in
    let is = c.hold.new.self in
    let found : IsSomeAnd (slice_get files c.in-Some.place) (λ f. f.name ≡ c.args.name.now) =
    subst (λ l. IsSomeAnd (slice_get l c.in-Some.place) (λ f. f.name ≡ c.args.name.now)) c.deref.ensures.value c.in-Some.ensures.found in
    let e : is ≡ record was { is_held = true; most = c.args.most } = search rules in
    let ch = reheld files c.in-Some.place was is c.args.name.now c.args.most found c.index_mut.ensures.value e in
    one_each files (set files c.in-Some.place is) c.in-Some.place was is ch c.requires.one_each

pub returns-else-is_err-2-clause-held : goal.returns-else-is_err-2-clause-held
returns-else-is_err-2-clause-held c =
    let files = c.args.files.now.items in
    let file = c.in-Ok-new.file in
    let e = c.in-Ok-new.ensures in
    let pushed : c.push.new.self.items ≡ files ++ file ∷ [] = search rules in
    let absent : IsAbsent files c.args.name.now = search rules in
    let ad = added files file (subst (λ n. IsAbsent files n) (sym e.named) absent) e.empty in
    let slot : c.in-Ok.slot ≡ length files = search rules in
    subst (λ k. Holds (slots_in files) (slots_in c.push.new.self.items) k c.args.name.now c.args.most) (sym slot)
    (subst (λ l. Holds (slots_in files) (slots_in l) (length files) c.args.name.now c.args.most) (sym pushed)
    (held_added files (files ++ file ∷ []) (length files) file c.args.name.now c.args.most ad
    e.named e.held e.most))

pub returns-else-is_err-2-clause-contents : goal.returns-else-is_err-2-clause-contents
returns-else-is_err-2-clause-contents c =
    let files = c.args.files.now.items in
    let file = c.in-Ok-new.file in
    let e = c.in-Ok-new.ensures in
    let pushed : c.push.new.self.items ≡ files ++ file ∷ [] = search rules in
    let absent : IsAbsent files c.args.name.now = search rules in
    let ad = added files file (subst (λ n. IsAbsent files n) (sym e.named) absent) e.empty in
    subst (λ l. SameContents (texts_in files) (texts_in l)) (sym pushed)
    (same_under_added (λ f c. f.text ≡ c) files (files ++ file ∷ []) (length files) file ad (λ c t. sym t ∙ e.empty))

pub returns-else-is_err-2-clause-tells : goal.returns-else-is_err-2-clause-tells
returns-else-is_err-2-clause-tells c =
    let files = c.args.files.now.items in
    let file = c.in-Ok-new.file in
    let e = c.in-Ok-new.ensures in
    let pushed : c.push.new.self.items ≡ files ++ file ∷ [] = search rules in
    let absent : IsAbsent files c.args.name.now = search rules in
    let ad = added files file (subst (λ n. IsAbsent files n) (sym e.named) absent) e.empty in
    subst (λ l. Tells (texts_in files) (texts_in l)) (sym pushed)
    (still_tells_added files (files ++ file ∷ []) (length files) file ad)

pub returns-else-is_err-2-clause-one_each : goal.returns-else-is_err-2-clause-one_each
returns-else-is_err-2-clause-one_each c =
    let files = c.args.files.now.items in
    let file = c.in-Ok-new.file in
    let e = c.in-Ok-new.ensures in
    let pushed : c.push.new.self.items ≡ files ++ file ∷ [] = search rules in
    let absent : IsAbsent files c.args.name.now = search rules in
    let ad = added files file (subst (λ n. IsAbsent files n) (sym e.named) absent) e.empty in
    subst (λ l. OneEach l) (sym pushed) (one_each_added files (files ++ file ∷ []) (length files) file ad c.requires.one_each)

pub returns-else-is_err-clause-left : goal.returns-else-is_err-clause-left
returns-else-is_err-clause-left c =
    let files = c.args.files.now.items in
    let was = c.index_mut.result.now in
    let is = c.hold.new.self in
    let found : IsSomeAnd (slice_get files c.in-Some.place) (λ f. f.name ≡ c.args.name.now) =
    subst (λ l. IsSomeAnd (slice_get l c.in-Some.place) (λ f. f.name ≡ c.args.name.now)) c.deref.ensures.value c.in-Some.ensures.found in
    let e : is ≡ record was { is_held = true; most = c.args.most } = search rules in
    let ch = reheld files c.in-Some.place was is c.args.name.now c.args.most found c.index_mut.ensures.value e in
    same_under (λ f c. IsLeft f.left c) files (set files c.in-Some.place is) c.in-Some.place was is ch (λ t left. subst (λ l. IsLeft l t) (ap (λ x. x.left) e) left)

pub returns-else-is_err-clause-left_before : goal.returns-else-is_err-clause-left_before
returns-else-is_err-clause-left_before c =
    let files = c.args.files.now.items in
    let was = c.index_mut.result.now in
    let is = c.hold.new.self in
    let found : IsSomeAnd (slice_get files c.in-Some.place) (λ f. f.name ≡ c.args.name.now) =
    subst (λ l. IsSomeAnd (slice_get l c.in-Some.place) (λ f. f.name ≡ c.args.name.now)) c.deref.ensures.value c.in-Some.ensures.found in
    let e : is ≡ record was { is_held = true; most = c.args.most } = search rules in
    let ch = reheld files c.in-Some.place was is c.args.name.now c.args.most found c.index_mut.ensures.value e in
    same_under (λ f c. IsLeft f.left c) (set files c.in-Some.place is) files c.in-Some.place is was (back files (set files c.in-Some.place is) c.in-Some.place was is ch)
    (λ t left. subst (λ l. IsLeft l t) (sym (ap (λ x. x.left) e)) left)

pub returns-else-is_err-clause-sound : goal.returns-else-is_err-clause-sound
returns-else-is_err-clause-sound c =
    let files = c.args.files.now.items in
    let was = c.index_mut.result.now in
    let is = c.hold.new.self in
    let found : IsSomeAnd (slice_get files c.in-Some.place) (λ f. f.name ≡ c.args.name.now) =
    subst (λ l. IsSomeAnd (slice_get l c.in-Some.place) (λ f. f.name ≡ c.args.name.now)) c.deref.ensures.value c.in-Some.ensures.found in
    let e : is ≡ record was { is_held = true; most = c.args.most } = search rules in
    let ch = reheld files c.in-Some.place was is c.args.name.now c.args.most found c.index_mut.ensures.value e in
    λ sound. sound_change files (set files c.in-Some.place is) c.in-Some.place was is ch sound (λ s. subst IsSound (sym e) (record { reads = s.reads; grown = s.grown }))

pub returns-else-is_err-2-clause-left : goal.returns-else-is_err-2-clause-left
returns-else-is_err-2-clause-left c =
    let files = c.args.files.now.items in
    let file = c.in-Ok-new.file in
    let e = c.in-Ok-new.ensures in
    let pushed : c.push.new.self.items ≡ files ++ file ∷ [] = search rules in
    let absent : IsAbsent files c.args.name.now = search rules in
    let ad = added files file (subst (λ n. IsAbsent files n) (sym e.named) absent) e.empty in
    subst (λ l. SameContents (images_in files) (images_in l)) (sym pushed)
    (same_under_added (λ f c. IsLeft f.left c) files (files ++ file ∷ []) (length files) file ad (λ t left. settled_alone [] file.left e.settled t left))

pub returns-else-is_err-2-clause-left_before : goal.returns-else-is_err-2-clause-left_before
returns-else-is_err-2-clause-left_before c =
    let files = c.args.files.now.items in
    let file = c.in-Ok-new.file in
    let e = c.in-Ok-new.ensures in
    let pushed : c.push.new.self.items ≡ files ++ file ∷ [] = search rules in
    let absent : IsAbsent files c.args.name.now = search rules in
    let ad = added files file (subst (λ n. IsAbsent files n) (sym e.named) absent) e.empty in
    subst (λ l. SameContents (images_in l) (images_in files)) (sym pushed)
    (same_before_added (λ f c. IsLeft f.left c) files (files ++ file ∷ []) (length files) file ad (settled_left [] file.left e.settled))

pub returns-else-is_err-2-clause-sound : goal.returns-else-is_err-2-clause-sound
returns-else-is_err-2-clause-sound c =
    let files = c.args.files.now.items in
    let file = c.in-Ok-new.file in
    let e = c.in-Ok-new.ensures in
    let pushed : c.push.new.self.items ≡ files ++ file ∷ [] = search rules in
    let absent : IsAbsent files c.args.name.now = search rules in
    let ad = added files file (subst (λ n. IsAbsent files n) (sym e.named) absent) e.empty in
    λ sound. subst AreSound (sym pushed) (sound_added files (files ++ file ∷ []) (length files) file ad sound
    (sound_settled file (subst (λ t. IsSettled t file.left) (sym e.empty) e.settled)))

pub returns-then-is_err-clause-left : goal.returns-then-is_err-clause-left
returns-then-is_err-clause-left c =
    let files = c.args.files.now.items in
    let was = c.index_mut.result.now in
    let is = c.hold.new.self in
    let found : IsSomeAnd (slice_get files c.in-Some.place) (λ f. f.name ≡ c.args.name.now) =
    subst (λ l. IsSomeAnd (slice_get l c.in-Some.place) (λ f. f.name ≡ c.args.name.now)) c.deref.ensures.value c.in-Some.ensures.found in
    let e : is ≡ was = search rules in
    let ch = refused_file files c.in-Some.place was is c.args.name.now found c.index_mut.ensures.value e in
    same_under (λ f c. IsLeft f.left c) files (set files c.in-Some.place is) c.in-Some.place was is ch (λ t left. subst (λ l. IsLeft l t) (ap (λ x. x.left) e) left)

pub returns-then-is_err-clause-left_before : goal.returns-then-is_err-clause-left_before
returns-then-is_err-clause-left_before c =
    let files = c.args.files.now.items in
    let was = c.index_mut.result.now in
    let is = c.hold.new.self in
    let found : IsSomeAnd (slice_get files c.in-Some.place) (λ f. f.name ≡ c.args.name.now) =
    subst (λ l. IsSomeAnd (slice_get l c.in-Some.place) (λ f. f.name ≡ c.args.name.now)) c.deref.ensures.value c.in-Some.ensures.found in
    let e : is ≡ was = search rules in
    let ch = refused_file files c.in-Some.place was is c.args.name.now found c.index_mut.ensures.value e in
    same_under (λ f c. IsLeft f.left c) (set files c.in-Some.place is) files c.in-Some.place is was (back files (set files c.in-Some.place is) c.in-Some.place was is ch)
    (λ t left. subst (λ l. IsLeft l t) (sym (ap (λ x. x.left) e)) left)

pub returns-then-is_err-clause-sound : goal.returns-then-is_err-clause-sound
returns-then-is_err-clause-sound c =
    let files = c.args.files.now.items in
    let was = c.index_mut.result.now in
    let is = c.hold.new.self in
    let found : IsSomeAnd (slice_get files c.in-Some.place) (λ f. f.name ≡ c.args.name.now) =
    subst (λ l. IsSomeAnd (slice_get l c.in-Some.place) (λ f. f.name ≡ c.args.name.now)) c.deref.ensures.value c.in-Some.ensures.found in
    let e : is ≡ was = search rules in
    let ch = refused_file files c.in-Some.place was is c.args.name.now found c.index_mut.ensures.value e in
    λ sound. sound_change files (set files c.in-Some.place is) c.in-Some.place was is ch sound (λ s. subst IsSound (sym e) s)
