use Rattle.std.proofs.Common.{arith, sym, ◌∙◌}
use Rattle.fix_math.proofs.ExcessLemmas.{excess-here, excess-next, next_small}
use Rattle.fix_math.specs.Matrices.{component}
use Rattle.fix_math.proofs.directions.excess.Goals as goal

pub returns-then-are_short-clause-value : goal.returns-then-are_short-clause-value
returns-then-are_short-clause-value c =
    let bits = c.bits_over-bits.ensures in
    excess-here c.args.v.now c.bits_over-bits.result bits.small (sym c.are_short.ensures ∙ c.if-are_short.true) (λ some. omega (arith, bits.needed some, c.widest.ensures))

pub returns-else-are_short-clause-value : goal.returns-else-are_short-clause-value
returns-else-are_short-clause-value c =
    let bits = c.bits_over-bits.ensures in
    excess-next c.args.v.now c.bits_over-bits.result bits.small (sym c.are_short.ensures ∙ c.if-are_short.false) (omega arith) (λ some. omega (arith, bits.needed some, c.widest.ensures))

pub returns-else-are_short-clause-x_raw : goal.returns-else-are_short-clause-x_raw
returns-else-are_short-clause-x_raw c = next_small (component c.args.v.now 0) c.bits_over-bits.result (omega arith)

pub returns-else-are_short-clause-y_raw : goal.returns-else-are_short-clause-y_raw
returns-else-are_short-clause-y_raw c = next_small (component c.args.v.now 1) c.bits_over-bits.result (omega arith)

pub returns-else-are_short-clause-z_raw : goal.returns-else-are_short-clause-z_raw
returns-else-are_short-clause-z_raw c = next_small (component c.args.v.now 2) c.bits_over-bits.result (omega arith)
