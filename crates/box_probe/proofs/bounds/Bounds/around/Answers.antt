use Rattle.std.proofs.Common.{lit<}
use Rattle.box_probe.proofs.bounds.Bounds.around.Goals as goal

pub returns : goal.returns
returns c = λ p within inside. record {
  x = c.rounded.ensures p.x within.x (inside 0 (lit< tt));
  y = c.rounded-2.ensures p.y within.y (inside 1 (lit< tt));
  z = c.rounded-3.ensures p.z within.z (inside 2 (lit< tt));
}
