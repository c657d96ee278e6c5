use Rattle.std.proofs.Common.{[], arith}
use Rattle.csg_hits.specs.Ready.{pieces_in}
use Rattle.slab_tree.specs.declared.node.Node.{Node}
use Rattle.slab_tree.proofs.Asking.{further}
use Rattle.slab_tree.proofs.Walking.{met, missed, onward, passed_all}
use Rattle.slab_tree.proofs.walk.walk.Goals as goal

blank : Node
blank = record { bounds = record { x = []; y = []; z = [] }; skip = 0; start = 0 }

pub loop-i-preserved-then-may_meet : goal.loop-i-preserved-then-may_meet
unfolding blank
loop-i-preserved-then-may_meet g c = record {
  fits = c.ask_leaf.ensures.fits;
  further = further (pieces_in c.args.built.now) c.args.search.now c.loop-i.search c.ask_leaf.new.search c.loop-i.invariant.further c.ask_leaf.ensures.further;
  asked = met (pieces_in c.args.built.now) c.args.order.now c.args.nodes.now c.loop-i.i blank c.loop-i.search c.ask_leaf.new.search c.loop-i-test.true c.ask_leaf.ensures.further c.loop-i.invariant.asked c.ask_leaf.ensures.asked;
}

pub loop-i-smaller : goal.loop-i-smaller
unfolding blank
loop-i-smaller g c = onward (pieces_in c.args.built.now) c.args.order.now c.args.nodes.now c.loop-i.i blank c.requires.track c.loop-i-test.true

pub loop-i-preserved : goal.loop-i-preserved
unfolding blank
loop-i-preserved g c = record {
  fits = c.loop-i.invariant.fits;
  further = c.loop-i.invariant.further;
  asked = missed (pieces_in c.args.built.now) c.args.order.now c.args.nodes.now c.loop-i.i blank c.loop-i.search c.requires.track c.loop-i-test.true (c.may_meet.ensures c.if-may_meet.false) c.loop-i.invariant.asked;
}

pub returns-clause-asked : goal.returns-clause-asked
returns-clause-asked g c = passed_all (pieces_in c.args.built.now) c.args.order.now c.args.nodes.now c.loop-i.i c.loop-i.search c.requires.track (omega (arith, c.loop-i-test.false)) c.loop-i.invariant.asked
