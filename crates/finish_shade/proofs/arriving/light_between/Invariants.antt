-- What comes of the surfaces that are left comes of all.
use Rattle.std.proofs.Common.{◌-◌}
use Rattle.scene_model.specs.Amounts.{AreAmounts}
use Rattle.csg_hits.specs.Hits.{Fits}
use Rattle.finish_shade.proofs.Between.{Leads}
use Rattle.finish_shade.proofs.arriving.light_between.Given as goal

abbrev pub invariant-loop-hit : goal.invariant-loop-hit
invariant-loop-hit g l = record {
  fits : Fits (g.W.World.surfaces l.w) l.s;
  leads : Leads (g.W.World.surfaces l.w) l.scene l.ray l.end l.after l.light;
  amounts : AreAmounts 65536 l.light;
}

abbrev pub decreases-loop-hit : goal.decreases-loop-hit
decreases-loop-hit g l = l.end - l.after
