use Rattle.shapes.proofs.Joined.{exchanged}
use Rattle.shapes.proofs.range_pairs.Ranges.of_stretches.Goals as goal

pub returns-else-one-two-clause-numbers : goal.returns-else-one-two-clause-numbers
returns-else-one-two-clause-numbers c = λ t. exchanged _ _ _ (c.of_two-else-one-two.ensures.numbers t)
