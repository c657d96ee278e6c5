use Rattle.shapes.proofs.UprightLemmas.{plain_box}
use Rattle.shapes.proofs.upright.Upright.along_axes.Goals as goal

pub returns : goal.returns
returns c = plain_box _ _ _ _ _ _ _ _ c.in_ok-scales.ensures c.in_ok-x.ensures c.in_ok-y.ensures c.in_ok-z.ensures
