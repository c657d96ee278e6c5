-- What comes of the lamps that are left comes of all.
use Rattle.std.proofs.Common.{◌+◌, ◌*◌, ◌^◌}
use Rattle.scene_model.specs.Amounts.{AreAmounts}
use Rattle.csg_hits.specs.Hits.{Fits}
use Rattle.finish_shade.specs.Arrivals.{unlit}
use Rattle.finish_shade.proofs.Lighting.{LeftOf}
use Rattle.finish_shade.proofs.lit.lit_by_all.Given as goal

abbrev pub invariant-loop-lamp : goal.invariant-loop-lamp
invariant-loop-lamp g l = record {
  fits : Fits (g.W.World.surfaces l.w) l.s;
  left : LeftOf (g.W.World.surfaces l.w) l.scene l.dir l.met (unlit l.scene l.met) l.scene.lights.items l.lamp-index l.lit;
  own : AreAmounts (2 ^ 41 + l.lamp-index * 2 ^ 43) l.lit.own;
  highlights : AreAmounts (l.lamp-index * 2 ^ 34) l.lit.highlights;
}
