use Rattle.slab_tree.proofs.world.nearest_of_tree.Goals as goal

pub returns-clause-nearest : goal.returns-clause-nearest
returns-clause-nearest c = c.hit.ensures.nearest c.args.ray.now c.args.after c.args.shadow (record {
  start = c.in_ok-search.search;
  begun = c.in_ok-search.ensures.start;
  further = c.search.ensures.further;
  asked = c.search.ensures.asked;
})

pub returns-clause-none : goal.returns-clause-none
returns-clause-none c = c.hit.ensures.none c.args.ray.now c.args.after c.args.shadow (record {
  start = c.in_ok-search.search;
  begun = c.in_ok-search.ensures.start;
  further = c.search.ensures.further;
  asked = c.search.ensures.asked;
})
