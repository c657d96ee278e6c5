use Rattle.std.proofs.Common.{◌*ℤ◌, pos, arith}
use Rattle.std.proofs.lemmas.Int.{ints, unsigned_abs-mul}
use Rattle.fix_math.specs.Floor.{rnd_at_least}
use Rattle.fix_math.proofs.shares.Length.share.Goals as goal

pub returns-then-is_rounded-clause-long : goal.returns-then-is_rounded-clause-long
returns-then-is_rounded-clause-long c long =
    rw (c.is_rounded.ensures c.if-is_rounded.true) (rnd_at_least (c.args.component *ℤ pos 4294967296) c.args.self.now.length 32768 c.args.self.now.whole (omega (arith, ints, unsigned_abs-mul c.args.component (pos 4294967296))))
