use Rattle.solid_items.proofs.Ways.{made_some}
use Rattle.solid_items.proofs.solids.way.Goals as goal

pub returns-clause-some : goal.returns-clause-some
returns-clause-some c = made_some c.args.from.now c.args.to.now _ _ _ c.gap.ensures.value c.gap-2.ensures.value c.gap-3.ensures.value
