use Rattle.std.proofs.Common.{arith}
use Rattle.std.proofs.lemmas.Option.{slice_get_within}
use Rattle.csg_hits.specs.Ready.{pieces_in}
use Rattle.slab_tree.proofs.Walking.{everywhere}
use Rattle.slab_tree.proofs.world.SlabWorld.search.Goals as goal

pub returns-clause-asked : goal.returns-clause-asked
returns-clause-asked g c = everywhere (pieces_in c.args.self.now.built) c.args.self.now.apart.items c.args.self.now.order.items c.deref-2.result.now c.deref-4.result.now c.ask_places.new.search c.walk.new.search c.args.self.now.whole c.deref-2.ensures.value c.deref-4.ensures.value c.walk.ensures.further
    (λ k piece at. c.ask_places.ensures.asked k piece (omega arith) (let m = slice_get_within c.deref-2.result.now k piece at in omega (arith, c.deref-2.ensures.len, c.len.ensures)) at)
    c.walk.ensures.asked
