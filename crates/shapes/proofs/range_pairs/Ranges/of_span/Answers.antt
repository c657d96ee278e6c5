use Rattle.std.proofs.Common.{arith}
use Rattle.shapes.proofs.range_pairs.Ranges.of_span.Goals as goal

pub returns-else-span-clause-numbers : goal.returns-else-span-clause-numbers
returns-else-span-clause-numbers c = λ t. (λ k. absurd (c.none.ensures.numbers t k), λ k. absurd (omega (arith, k.low, k.high)))
