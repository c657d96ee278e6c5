use Rattle.shapes.proofs.UprightLemmas.{turned_iff, same_iff}
use Rattle.shapes.proofs.span.Line.rising.Goals as goal

pub returns-then-self-lt0 : goal.returns-then-self-lt0
returns-then-self-lt0 c = λ t. turned_iff c.args.extent.length _ _ (c.rest.ensures t)

pub returns-else-self-lt0 : goal.returns-else-self-lt0
returns-else-self-lt0 c = λ t. same_iff c.args.extent.length _ _ (c.straight.ensures t)
