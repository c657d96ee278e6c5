use Rattle.fix_math.proofs.NearRootLemmas.{IsNearRoot-refined}
use Rattle.fix_math.proofs.roots.refined.Goals as goal

pub returns : goal.returns
returns c = IsNearRoot-refined c.args.m c.args.near c.args.half c.requires.some c.requires.coarse c.requires.near
