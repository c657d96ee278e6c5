use Rattle.std.proofs.Common.{arith}
use Rattle.fix_math.proofs.NearRootLemmas.{IsNearRoot-refined}
use Rattle.fix_math.proofs.roots.near_root_of_long.Goals as goal

pub returns-clause-near : goal.returns-clause-near
returns-clause-near c = IsNearRoot-refined c.args.n c.args.near 2147483648 (omega arith) c.requires.coarse c.requires.near
