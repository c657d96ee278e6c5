use Rattle.std.proofs.Common.{◌≡◌, sym, subst, ◌∙◌}
use Rattle.state_file.specs.declared.mark.Mark.TheVariants.{Shut, Open}
use Rattle.state_file.specs.Attaching.{IsAttached}
use Rattle.state_file.specs.Frames.{layout}
use Rattle.state_file.proofs.Looked.{open_file}
use Rattle.state_file.proofs.Shapes.{laid_out}
use Rattle.state_file.proofs.opening.enter.Goals as goal

pub returns-in-Ok-Fresh-clause-read : goal.returns-in-Ok-Fresh-clause-read
returns-in-Ok-Fresh-clause-read g c = λ d h.
    let w = c.in-Ok-Fresh.ensures.read d h in
    let f = subst (λ a. IsAttached (layout c.args.frame) c.args.resume c.attach.new.image w.0 a) c.in-Ok-Fresh.field-0-is w.2 in (
      w.0,
      w.1,
      record {
        known = λ b hb. (
          (λ o. let bad : Shut ≡ Open = sym (c.requires.shut b) ∙ o in absurd cc),
          (λ p. absurd (f p.0 (open_file (layout c.args.frame) (laid_out c.args.frame) b w.0 p.1))),
        );
        own = λ r o. absurd (f r o);
      },
    )
