use Rattle.std.proofs.Common.{sym, subst, arith}
use Rattle.shapes.specs.Rays.{IsInWorld}
use Rattle.finish_shade.proofs.Reach.{before, early}
use Rattle.finish_shade.proofs.met.inner.Goals as goal

pub point_of-requires-clause-early : goal.point_of-requires-clause-early
point_of-requires-clause-early c = omega (arith, early c.args.ray.now c.args.hit.now.t c.requires.direction c.requires.origin c.requires.place)

pub returns-else-hit-leaf-clause-world : goal.returns-else-hit-leaf-clause-world
returns-else-hit-leaf-clause-world c = subst IsInWorld (sym c.point_of.ensures) (before c.args.ray.now c.args.hit.now.t c.requires.positive c.requires.origin c.requires.place)
