use Rattle.shapes.specs.Rays.{position_of}
use Rattle.finish_shade.proofs.Crossed.{leaf_is, look_there}
use Rattle.finish_shade.proofs.Reach.{early}
use Rattle.finish_shade.proofs.met.look_at.Goals as goal

pub point_of-requires-clause-early : goal.point_of-requires-clause-early
point_of-requires-clause-early c = early c.args.ray.now c.args.hit.now.t c.requires.direction c.requires.origin c.requires.place

pub returns-clause-value : goal.returns-clause-value
returns-clause-value c =
    let hit = c.args.hit.now in
    look_there c.args.scene.now c.args.ray.now hit c.index-leaf.result.now (position_of c.point_of.result) c.look_in.result
    (leaf_is c.args.scene.now hit.leaf c.index-leaf.result.now c.requires.leaf c.index-leaf.ensures) c.point_of.ensures c.look_in.ensures.value
