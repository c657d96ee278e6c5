use Rattle.std.proofs.Common.{rules}
use Rattle.shapes.specs.Rays.{IsInWorld, point_at}
use Rattle.shapes.proofs.World.{origin_near}
use Rattle.shapes.proofs.path.Path.new.Goals as goal

pub invariant_of-result : goal.invariant_of-result
invariant_of-result c =
    let w : IsInWorld (point_at c.args.ray.now 0) = record {
      x = origin_near c.args.ray.now.origin.x c.args.ray.now.dir.x (c.if-not-is_near.ensures.0 (search rules));
      y = origin_near c.args.ray.now.origin.y c.args.ray.now.dir.y (c.if-not-is_near-2.ensures.0 (search rules));
      z = origin_near c.args.ray.now.origin.z c.args.ray.now.dir.z (c.if-not-is_near-3.ensures.0 (search rules));
    } in
    record { direction = c.requires; origin = w; near = c.reach-end.ensures.near; inside = λ t lt. (c.reach-end.ensures.exact t).0 lt; aimed = c.of-aim.ensures }
