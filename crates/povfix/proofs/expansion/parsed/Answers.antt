use Rattle.std.proofs.Common.{refl, ◌∙◌}
use Rattle.povfix.proofs.Endings.{unread}
use Rattle.povfix.proofs.expansion.parsed.Goals as goal

pub returns-in-Err-clause-fault : goal.returns-in-Err-clause-fault
returns-in-Err-clause-fault c =
    unread _ _ _ c.args.found c.in-Err.fault c.in_scene.result _ c.deref.ensures.value c.settings.ensures.value c.in_scene.ensures
    c.new.ensures.items refl (c.new-in-Err-2.ensures ∙ c.new-in-Err.ensures.items) c.in-Err.ensures.fault
