use Rattle.std.proofs.lemmas.Option.{slice_get_within}
use Rattle.slab_tree.proofs.walk.ask_leaf.Goals as goal

pub returns-else-end-order-clause-asked : goal.returns-else-end-order-clause-asked
returns-else-end-order-clause-asked g c = λ place piece low high at. c.ask_places-else-end-order.ensures.asked place piece low (slice_get_within c.args.order.now place piece at) at
