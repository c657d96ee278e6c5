use Rattle.std.proofs.Common.{◌+◌, ◌/◌, arith}
use Rattle.fix_math.proofs.NearRootLemmas.{near_line}
use Rattle.fix_math.proofs.roots.near_root_of_byte.Goals as goal

pub returns : goal.returns
returns c = near_line c.args.m ((c.args.m + 147) / 24) c.requires.least c.requires.most (omega arith) (omega arith)
