use Rattle.std.proofs.Common.{arith}
use Rattle.std.proofs.lemmas.Int.{ints}
use Rattle.solid_items.proofs.Ways.{root_some, root_most}
use Rattle.solid_items.proofs.solids.height.Goals as goal

pub invariant_of-result : goal.invariant_of-result
invariant_of-result c =
    let most = root_most _ _ c.square.ensures.most c.isqrt.ensures.least in
    omega (arith, ints, most)

pub returns-clause-height : goal.returns-clause-height
returns-clause-height c =
    let least = root_some _ _ c.square.ensures.least c.isqrt.ensures.most in
    let most = root_most _ _ c.square.ensures.most c.isqrt.ensures.least in
    record { low = omega (arith, ints, least); high = omega (arith, ints, most) }
