use Rattle.std.proofs.Common.{[], ap, refl, ◌∙◌, subst, Err}
use Rattle.shelf.specs.Stream.{with_bytes, GrewByLess}
use Rattle.povfix.proofs.Beginnings.{begins_at}
use Rattle.povfix.proofs.Endings.{exit, expanded_at, given_text, silent_cut, stopped_at, stopped_cut, unwritten_cut}
use Rattle.povfix.proofs.expansion.expanded.Goals as goal

pub returns-in_err-text-clause-cut : goal.returns-in_err-text-clause-cut
returns-in_err-text-clause-cut g c = exit _ _ _ c.from_residual.ensures.1 (λ shelf. silent_cut _ _ _ _ shelf _ _ _)

pub returns-in-Ok-write_if_any-clause-found : goal.returns-in-Ok-write_if_any-clause-found
returns-in-Ok-write_if_any-clause-found g c = λ h held. record {
  messages = c.expand-found.new.messages.items;
  expanded = expanded_at c.args.plan.now c.args.number _ _ _ _ h c.settings.ensures.value c.paths.ensures c.bytes.ensures (given_text _ _ _ _ (λ v y is. is.0) c.as_deref.ensures.cases ∙ c.in_ok-text.ensures) _ (c.in-Ok.ensures.found h held);
  written = c.in-Ok-write_if_any.ensures.all ∙ ap (with_bytes _) c.deref.ensures.value;
}

pub returns-in-Ok-clause-cut : goal.returns-in-Ok-clause-cut
returns-in-Ok-clause-cut g c = λ shelf.
    unwritten_cut _ _ _ _ shelf _ _ _ _ c.from.result c.from.ensures
    (λ h held. (
      _,
      expanded_at c.args.plan.now c.args.number _ _ _ _ h c.settings.ensures.value c.paths.ensures c.bytes.ensures (given_text _ _ _ _ (λ v y is. is.0) c.as_deref.ensures.cases ∙ c.in_ok-text.ensures) _ (c.in-Ok.ensures.found h held),
      subst (GrewByLess _ _) c.deref.ensures.value c.in-Err-write_if_any.ensures.part,
    ))
    (c.in-Err-write_if_any.ensures.cause.rose refl)

pub returns-clause-cut : goal.returns-clause-cut
returns-clause-cut g c = λ shelf.
    stopped_cut _ _ _ _ shelf _ _ _ c.expand-found.new.names.items (record { messages = c.expand-found.new.messages; name = []; text = [] })
    (λ h held. begins_at c.args.plan.now c.args.number _ _ _ _ h c.settings.ensures.value c.paths.ensures c.bytes.ensures (given_text _ _ _ _ (λ v y is. is.0) c.as_deref.ensures.cases ∙ c.in_ok-text.ensures) _ (c.in-Err.ensures.said h held))
    c.in-Err.stop _ _ _
    c.of_stop-fault.ensures.fault c.of_stop-fault.ensures.text c.in_scene.ensures
    (λ memory read h held. stopped_at c.args.plan.now c.args.number _ _ _ _ h c.settings.ensures.value c.paths.ensures c.bytes.ensures (given_text _ _ _ _ (λ v y is. is.0) c.as_deref.ensures.cases ∙ c.in_ok-text.ensures) _ (c.in-Err.ensures.fault memory read h held))
    (λ e. c.in-Err.ensures.cause.rose (ap (λ stop. Err stop) e))
