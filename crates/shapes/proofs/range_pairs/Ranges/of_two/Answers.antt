use Rattle.std.proofs.Common.{arith}
use Rattle.shapes.proofs.Joined.{both, only_first, only_second}
use Rattle.shapes.proofs.range_pairs.Ranges.of_two.Goals as goal

pub returns-then-low-clause-numbers : goal.returns-then-low-clause-numbers
returns-then-low-clause-numbers c = λ t. only_second c.args.low c.args.high _ t (omega arith) (c.of_span.ensures.numbers t)

pub returns-then-high-clause-numbers : goal.returns-then-high-clause-numbers
returns-then-high-clause-numbers c = λ t. only_first c.args.low c.args.high _ t (omega arith) (c.of_span-then-high.ensures.numbers t)

pub returns-then-high-low-clause-numbers : goal.returns-then-high-low-clause-numbers
returns-then-high-low-clause-numbers c = λ t.
    both c.args.low c.args.high c.up_to.result _ t c.requires (omega arith) c.up_to.ensures.from c.up_to.ensures.end (c.of_span-then-high-low.ensures.numbers t)
