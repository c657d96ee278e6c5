use Rattle.std.proofs.Common.{◌∙◌, ap, refl, sum, Err, None}
use Rattle.image_out.specs.Files.{file_of}
use Rattle.povfix.proofs.Endings.{drawn_meaning, drawn_said, drawn_verdict, exit, stored_cut, stored_kept, stored_meaning, unfilled_cut, unparsed_cut}
use Rattle.povfix.proofs.Stays.{all_kept, every_err, others_stay, stays_as}
use Rattle.povfix.proofs.render.rendered.Goals as goal

pub returns-in_err-scene-clause-cut : goal.returns-in_err-scene-clause-cut
returns-in_err-scene-clause-cut g c =
    exit _ _ _ c.from_residual-in_err-scene.ensures.1
    (unparsed_cut c.one_expansion.ensures _ _ _ _ _ _ _ _ _ c.in_ok-found.found _ c.in_ok-found.ensures.found c.in_err-scene.ensures.fault)

pub returns-in_err-picture-clause-cut : goal.returns-in_err-picture-clause-cut
returns-in_err-picture-clause-cut g c =
    exit _ _ _ c.from_residual-in_err-picture.ensures.1
    (unfilled_cut c.one_expansion.ensures _ _ _ _ _ _ _ _ _ c.in_ok-found.found c.in_ok-found.ensures.found None refl)

pub returns-in_err-file-clause-cut : goal.returns-in_err-file-clause-cut
returns-in_err-file-clause-cut g c =
    exit _ _ _ c.from_residual-in_err-file.ensures.1
    (unfilled_cut c.one_expansion.ensures _ _ _ _ _ _ _ _ _ c.in_ok-found.found c.in_ok-found.ensures.found None refl)

pub returns-in_err-name-clause-cut : goal.returns-in_err-name-clause-cut
returns-in_err-name-clause-cut g c =
    exit _ _ _ c.from_residual-in_err-name.ensures.1
    (unfilled_cut c.one_expansion.ensures _ _ _ _ _ _ _ _ _ c.in_ok-found.found c.in_ok-found.ensures.found None refl)

pub returns-in_err-store-clause-cut : goal.returns-in_err-store-clause-cut
returns-in_err-store-clause-cut g c =
    exit _ _ _ c.from_residual-in_err-store.ensures.1
    (stored_cut c.one_expansion.ensures _ _ _ _ _ _ _ _ _ _ c.in_err-store.field-0.0
    (λ h held. drawn_verdict _ h _ _ c.in_ok-found.found c.in_ok-scene.scene c.in_ok-picture.picture.items (c.in_ok-found.ensures.found h held) c.in_ok-scene.ensures.scene c.in_ok-picture.ensures.shown)
    (λ e. c.in_err-store.ensures.cause.rose (ap (λ fail. Err fail) e)))

pub returns-in_err-store-clause-kept : goal.returns-in_err-store-clause-kept
returns-in_err-store-clause-kept g c =
    exit _ _ _ c.from_residual-in_err-store.ensures.1
    (stored_kept _ c.in_err-store.field-0.0 (λ e. c.in_err-store.ensures.memory (ap (λ fail. Err fail) e)))

pub returns-in_err-store-clause-crash_kept : goal.returns-in_err-store-clause-crash_kept
returns-in_err-store-clause-crash_kept g c =
    exit _ _ _ c.from_residual-in_err-store.ensures.1
    (stored_kept _ c.in_err-store.field-0.0 (λ e. c.in_err-store.ensures.crash_memory (ap (λ fail. Err fail) e)))

pub returns-clause-stored : goal.returns-clause-stored
returns-clause-stored g c = λ h held.
    stored_meaning _ h (g.S.Shelf.holds c.store.new.shelf) _ _ c.in_ok-file.file.items _ (c.bytes.ensures ∙ c.in_ok-name.ensures) c.deref-2.ensures.value c.in_ok-store.ensures.stored
    (drawn_meaning _ h _ _ c.in_ok-found.found c.in_ok-scene.scene c.in_ok-picture.picture.items (c.in_ok-found.ensures.found h held) c.in_ok-scene.ensures.scene c.in_ok-picture.ensures.shown c.in_ok-file.file.items
    (c.in_ok-file.ensures ∙ ap (file_of c.args.plan.now.sort c.args.plan.now.width c.args.plan.now.height c.args.plan.now.bits) c.deref.ensures.value))

pub returns-clause-durable : goal.returns-clause-durable
returns-clause-durable g c = λ h held.
    stored_meaning _ h (g.S.Shelf.images c.store.new.shelf (g.S.Shelf.moment c.store.new.shelf)) _ _ c.in_ok-file.file.items _ (c.bytes.ensures ∙ c.in_ok-name.ensures) c.deref-2.ensures.value c.in_ok-store.ensures.durable
    (drawn_meaning _ h _ _ c.in_ok-found.found c.in_ok-scene.scene c.in_ok-picture.picture.items (c.in_ok-found.ensures.found h held) c.in_ok-scene.ensures.scene c.in_ok-picture.ensures.shown c.in_ok-file.file.items
    (c.in_ok-file.ensures ∙ ap (file_of c.args.plan.now.sort c.args.plan.now.width c.args.plan.now.height c.args.plan.now.bits) c.deref.ensures.value))

pub returns-clause-said : goal.returns-clause-said
returns-clause-said g c = record {
  said = λ h held. drawn_said _ h _ _ c.in_ok-found.found c.in_ok-scene.scene c.in_ok-picture.picture.items (c.in_ok-found.ensures.found h held) c.in_ok-scene.ensures.scene c.in_ok-picture.ensures.shown c.total.result (c.total.ensures.value ∙ ap sum c.deref-3.ensures.value);
}

-- ---- nothing is stored yet

pub returns-in_err-found-clause-crash_kept : goal.returns-in_err-found-clause-crash_kept
returns-in_err-found-clause-crash_kept g c = every_err _ _ (all_kept _ _)

pub returns-in_err-found-clause-crash_others : goal.returns-in_err-found-clause-crash_others
returns-in_err-found-clause-crash_others g c = others_stay _ _ _

pub returns-in_err-scene-clause-crash_kept : goal.returns-in_err-scene-clause-crash_kept
returns-in_err-scene-clause-crash_kept g c = every_err _ _ (all_kept _ _)

pub returns-in_err-scene-clause-crash_others : goal.returns-in_err-scene-clause-crash_others
returns-in_err-scene-clause-crash_others g c = others_stay _ _ _

pub returns-in_err-picture-clause-crash_kept : goal.returns-in_err-picture-clause-crash_kept
returns-in_err-picture-clause-crash_kept g c = every_err _ _ (all_kept _ _)

pub returns-in_err-picture-clause-crash_others : goal.returns-in_err-picture-clause-crash_others
returns-in_err-picture-clause-crash_others g c = others_stay _ _ _

pub returns-in_err-file-clause-crash_kept : goal.returns-in_err-file-clause-crash_kept
returns-in_err-file-clause-crash_kept g c = every_err _ _ (all_kept _ _)

pub returns-in_err-file-clause-crash_others : goal.returns-in_err-file-clause-crash_others
returns-in_err-file-clause-crash_others g c = others_stay _ _ _

pub returns-in_err-name-clause-crash_kept : goal.returns-in_err-name-clause-crash_kept
returns-in_err-name-clause-crash_kept g c = every_err _ _ (all_kept _ _)

pub returns-in_err-name-clause-crash_others : goal.returns-in_err-name-clause-crash_others
returns-in_err-name-clause-crash_others g c = others_stay _ _ _

-- ---- the file is stored, or not

pub returns-in_err-store-clause-crash_others : goal.returns-in_err-store-clause-crash_others
returns-in_err-store-clause-crash_others g c = stays_as _ _ _ _ _ _ (c.bytes.ensures ∙ c.in_ok-name.ensures) c.store.ensures.crash_others

pub returns-clause-crash_others : goal.returns-clause-crash_others
returns-clause-crash_others g c = stays_as _ _ _ _ _ _ (c.bytes.ensures ∙ c.in_ok-name.ensures) c.store.ensures.crash_others
