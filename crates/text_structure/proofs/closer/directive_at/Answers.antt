use Rattle.std.proofs.Common.{ap, ◌∙◌}
use Rattle.text_structure.specs.Turns.{directive_in}
use Rattle.text_structure.proofs.Entries.{at_sign}
use Rattle.text_structure.proofs.closer.directive_at.Goals as goal

pub returns-then-sign_at-eq35-clause-value : goal.returns-then-sign_at-eq35-clause-value
returns-then-sign_at-eq35-clause-value c =
    c.directive_in.ensures ∙ ap directive_in c.mark_at.ensures ∙ at_sign c.args.marks.now c.args.at _ c.sign_at.ensures.value c.if-sign_at-eq35.true
