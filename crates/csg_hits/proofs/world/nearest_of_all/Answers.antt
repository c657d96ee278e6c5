use Rattle.std.proofs.Common.{arith}
use Rattle.csg_hits.specs.Ready.{pieces_in}
use Rattle.csg_hits.proofs.Further.{further, one_more_asked}
use Rattle.csg_hits.proofs.world.nearest_of_all.Goals as goal

pub loop-piece-preserved : goal.loop-piece-preserved
loop-piece-preserved c = record {
  fits = c.ask.ensures.fits;
  further = further (pieces_in c.args.built.now) c.in_ok-search.search c.loop-piece.search c.ask.new.self c.loop-piece.invariant.further c.ask.ensures.further;
  asked = one_more_asked (pieces_in c.args.built.now) c.loop-piece.search c.ask.new.self c.loop-piece.piece c.ask.ensures.further c.loop-piece.invariant.asked c.ask.ensures.asked;
}

pub returns-clause-nearest : goal.returns-clause-nearest
returns-clause-nearest c = c.hit.ensures.nearest c.args.ray.now c.args.after c.args.shadow (record {
  start = c.in_ok-search.search;
  begun = c.in_ok-search.ensures.start;
  further = c.loop-piece.invariant.further;
  asked = λ n lt. c.loop-piece.invariant.asked n (let e = c.len-piece-end.ensures in omega (arith, c.loop-piece-test.false));
})

pub returns-clause-none : goal.returns-clause-none
returns-clause-none c = c.hit.ensures.none c.args.ray.now c.args.after c.args.shadow (record {
  start = c.in_ok-search.search;
  begun = c.in_ok-search.ensures.start;
  further = c.loop-piece.invariant.further;
  asked = λ n lt. c.loop-piece.invariant.asked n (let e = c.len-piece-end.ensures in omega (arith, c.loop-piece-test.false));
})
