use Rattle.std.proofs.Common.{arith}
use Rattle.std.proofs.Math.Nat.{mod-eq_of_lt}
use Rattle.fix_math.proofs.NearRootLemmas.{normal}
use Rattle.fix_math.proofs.root_guess.root_guess.Goals as goal

pub reciprocal_root-share-requires : goal.reciprocal_root-share-requires
reciprocal_root-share-requires c =
    let long = normal c.args.n c.if-n-eq0.false c.ranges.n.fits in
    rw (mod-eq_of_lt long.1) (omega (arith, long.0))
