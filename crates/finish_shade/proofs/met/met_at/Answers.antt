use Rattle.std.proofs.Common.{false, rules}
use Rattle.scene_model.specs.Solids.{IsLeaf}
use Rattle.shapes.specs.Rays.{position_of}
use Rattle.finish_shade.proofs.Crossed.{entered, leaf_crossed, leaf_is, leaf_there, looks_there, met_there, there}
use Rattle.finish_shade.proofs.Reach.{early}
use Rattle.finish_shade.proofs.met.met_at.Goals as goal

pub index-leaf-requires : goal.index-leaf-requires
index-leaf-requires c = let hit = c.args.hit.now in let lt = leaf_there c.args.scene.now c.args.ray.now false hit.t hit.object hit.leaf c.requires.hit.found.struck in search rules

pub point_of-at-requires-clause-early : goal.point_of-at-requires-clause-early
point_of-at-requires-clause-early c = early c.args.ray.now c.args.hit.now.t c.requires.direction c.requires.hit.found.origin c.requires.hit.found.place

pub outward-requires-clause-leaf : goal.outward-requires-clause-leaf
outward-requires-clause-leaf c =
    let hit = c.args.hit.now in
    let lt = leaf_there c.args.scene.now c.args.ray.now false hit.t hit.object hit.leaf c.requires.hit.found.struck in
    there IsLeaf c.args.scene.now.leaves.items hit.leaf c.index-leaf.result.now lt c.index-leaf.ensures c.requires.scene.leaves

pub outward-requires-clause-crossed : goal.outward-requires-clause-crossed
outward-requires-clause-crossed c =
    let hit = c.args.hit.now in
    let lt = leaf_there c.args.scene.now c.args.ray.now false hit.t hit.object hit.leaf c.requires.hit.found.struck in
    leaf_crossed c.args.scene.now c.args.ray.now false hit.t hit.object hit.leaf c.index-leaf.result.now c.requires.hit.found.struck
    (leaf_is c.args.scene.now hit.leaf c.index-leaf.result.now lt c.index-leaf.ensures)

pub outward-requires-clause-entering : goal.outward-requires-clause-entering
outward-requires-clause-entering c =
    let hit = c.args.hit.now in
    let lt = leaf_there c.args.scene.now c.args.ray.now false hit.t hit.object hit.leaf c.requires.hit.found.struck in
    entered c.args.scene.now c.args.ray.now hit.t hit.leaf c.index-leaf.result.now hit.entering
    (leaf_is c.args.scene.now hit.leaf c.index-leaf.result.now lt c.index-leaf.ensures) c.requires.hit.entering

pub returns-clause-value : goal.returns-clause-value
returns-clause-value c =
    let hit = c.args.hit.now in
    let lt = leaf_there c.args.scene.now c.args.ray.now false hit.t hit.object hit.leaf c.requires.hit.found.struck in
    met_there c.args.scene.now c.args.ray.now hit c.index-leaf.result.now (position_of c.point_of-at.result) c.raw_point.result c.turned_against.result c.outward.result c.args.look
    (leaf_is c.args.scene.now hit.leaf c.index-leaf.result.now lt c.index-leaf.ensures) c.point_of-at.ensures c.raw_point.ensures.value c.turned_against.ensures.value c.outward.ensures.value
    (looks_there c.args.scene.now c.args.ray.now hit c.index-leaf.result.now (position_of c.point_of-at.result) c.args.look (leaf_is c.args.scene.now hit.leaf c.index-leaf.result.now lt c.index-leaf.ensures) c.point_of-at.ensures c.requires.look)

pub returns-clause-valid : goal.returns-clause-valid
returns-clause-valid c =
    let hit = c.args.hit.now in
    let lt = leaf_there c.args.scene.now c.args.ray.now false hit.t hit.object hit.leaf c.requires.hit.found.struck in
    record {
      from = c.raw_point.ensures.small;
      normal = c.turned_against.ensures.small;
      look = c.requires.valid;
      ior = (there IsLeaf c.args.scene.now.leaves.items hit.leaf c.index-leaf.result.now lt c.index-leaf.ensures c.requires.scene.leaves).ior;
    }
