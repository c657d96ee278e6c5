use Rattle.fix_math.proofs.PowerLemmas.{power-none, power-square, power-times}
use Rattle.std.proofs.Common.{Ok}
use Rattle.fix_math.proofs.powers.+power_unit.Goals as goal

pub returns-then-n-eq0-clause-value : goal.returns-then-n-eq0-clause-value
returns-then-n-eq0-clause-value t c = power-none c.args.x c.args.n c.if-n-eq0.true

pub returns-then-n-eq0-2-clause-value : goal.returns-then-n-eq0-2-clause-value
returns-then-n-eq0-2-clause-value t c = power-square c.args.x c.args.n c.power_unit-half.result c.unit_product-square.result c.if-n-eq0.false c.power_unit-half.ensures.value c.unit_product-square.ensures.value c.if-n-eq0-2.true

pub returns-else-n-eq0-2-clause-value : goal.returns-else-n-eq0-2-clause-value
returns-else-n-eq0-2-clause-value t c = power-times c.args.x c.args.n c.power_unit-half.result c.unit_product-square.result (Ok c.unit_product.result) c.if-n-eq0.false c.power_unit-half.ensures.value c.unit_product-square.ensures.value c.if-n-eq0-2.false c.unit_product.ensures.value
