use Rattle.std.proofs.Common.{◌≤◌, ◌<◌, ◌+◌, ◌*◌, ◌/◌, ◌^◌, arith, sym}
use Rattle.std.proofs.Math.Nat.{mod-eq_of_lt}
use Rattle.std.specs.Int.Count.{count_leading_zeros}
use Rattle.fix_math.specs.RootLaws.{root-is}
use Rattle.fix_math.proofs.NearRootLemmas.{normal, whole}
use Rattle.fix_math.proofs.roots.root_by_steps.Goals as goal

pub returns-then-n-eq0-clause-value : goal.returns-then-n-eq0-clause-value
returns-then-n-eq0-clause-value c = sym (root-is c.args.n 0 (omega arith) (omega arith))

pub root_of_long-requires : goal.root_of_long-requires
root_of_long-requires c =
    let long = normal c.args.n c.if-n-eq0.false c.ranges.n.fits in
    rw (mod-eq_of_lt long.1) long.0

-- the root of n, by what the call says of n with its leading zeros taken away
root_of_n : (c : goal.After-root_of_long) → (c.root_of_long.result / 2 ^ (count_leading_zeros 128 c.args.n / 2) * (c.root_of_long.result / 2 ^ (count_leading_zeros 128 c.args.n / 2)) ≤ c.args.n) × (c.args.n < (c.root_of_long.result / 2 ^ (count_leading_zeros 128 c.args.n / 2) + 1) * (c.root_of_long.result / 2 ^ (count_leading_zeros 128 c.args.n / 2) + 1))
root_of_n c =
    let long = normal c.args.n c.if-n-eq0.false c.ranges.n.fits in
    whole c.args.n (count_leading_zeros 128 c.args.n / 2) c.root_of_long.result long.1 c.root_of_long.ensures.least c.root_of_long.ensures.most

pub returns-clause-value : goal.returns-clause-value
returns-clause-value c = sym (root-is c.args.n _ (root_of_n c).0 (root_of_n c).1)

pub returns-clause-least : goal.returns-clause-least
returns-clause-least c = (root_of_n c).0

pub returns-clause-most : goal.returns-clause-most
returns-clause-most c = (root_of_n c).1
