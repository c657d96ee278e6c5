use Rattle.std.proofs.Common.{sym}
use Rattle.fix_math.specs.RootLaws.{root-is}
use Rattle.fix_math.proofs.roots.root_with_reciprocal.Goals as goal

pub returns-then-is_root-clause-value : goal.returns-then-is_root-clause-value
returns-then-is_root-clause-value c =
    sym (root-is c.args.n c.root_guess-guess.result.root (c.is_root.ensures.least c.if-is_root.true) (c.is_root.ensures.most c.if-is_root.true))
