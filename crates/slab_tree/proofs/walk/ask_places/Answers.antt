use Rattle.std.proofs.Common.{arith}
use Rattle.csg_hits.specs.Ready.{pieces_in}
use Rattle.slab_tree.proofs.Asking.{further}
use Rattle.slab_tree.proofs.Walking.{one_more}
use Rattle.slab_tree.proofs.walk.ask_places.Goals as goal

pub loop-place-preserved : goal.loop-place-preserved
loop-place-preserved g c = record {
  fits = c.ask.ensures.fits;
  further = further (pieces_in c.args.built.now) c.args.search.now c.loop-place.search c.ask.new.search c.loop-place.invariant.further c.ask.ensures.further;
  asked = one_more (pieces_in c.args.built.now) c.args.pieces.now c.args.first c.loop-place.place c.loop-place.search c.ask.new.search c.ask.ensures.further c.loop-place.invariant.asked c.ask.ensures.asked;
}

pub returns-clause-asked : goal.returns-clause-asked
returns-clause-asked g c = λ place piece low high at. c.loop-place.invariant.asked place piece low (omega (arith, c.loop-place-test.false)) at
