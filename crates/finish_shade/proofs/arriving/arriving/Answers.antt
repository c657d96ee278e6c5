use Rattle.finish_shade.specs.Arrivals.{Arrives}
use Rattle.finish_shade.proofs.arriving.arriving.Goals as goal

pub returns-then-lamp-clause-arrives : goal.returns-then-lamp-clause-arrives
returns-then-lamp-clause-arrives g c = Arrives.whole c.if-lamp.true

pub returns-else-lamp-clause-arrives : goal.returns-else-lamp-clause-arrives
returns-else-lamp-clause-arrives g c = Arrives.part c.light_between.result c.if-lamp.false c.light_between.ensures.passes
