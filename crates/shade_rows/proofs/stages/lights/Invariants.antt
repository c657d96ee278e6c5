use Rattle.std.specs.List.{All}
use Rattle.scene_model.specs.Looks.{IsLight}
use Rattle.shade_rows.proofs.stages.lights.Given as goal

abbrev pub invariant-loop-lamp : goal.invariant-loop-lamp
invariant-loop-lamp l = All IsLight l.lights.items
