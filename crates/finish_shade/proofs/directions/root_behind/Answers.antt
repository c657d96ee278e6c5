use Rattle.std.proofs.Common.{◌≤◌, ◌^◌, arith}
use Rattle.std.proofs.lemmas.Int.{ints}
use Rattle.fix_math.specs.RootLaws.{root_order}
use Rattle.finish_shade.proofs.directions.root_behind.Goals as goal

pub returns-clause-small : goal.returns-clause-small
returns-clause-small c =
    let small : c.isqrt.result ≤ 2 ^ 31 = root_order c.isqrt.result (2 ^ 31) (omega (arith, c.isqrt.ensures.least, c.scaled.ensures.small)) in
    omega (arith, ints, small)
