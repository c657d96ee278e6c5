use Rattle.std.proofs.Common.{arith}
use Rattle.fix_math.proofs.NearRootLemmas.{next_square}
use Rattle.fix_math.proofs.roots.root_from_near.Goals as goal

pub returns-then-n-before-clause-least : goal.returns-then-n-before-clause-least
returns-then-n-before-clause-least c = next_square c.args.n c.args.near c.requires.some (omega arith)
