use Rattle.std.specs.List.{All}
use Rattle.scene_model.specs.Looks.{IsTexture}
use Rattle.picture_rows.proofs.stages.textures.Given as goal

abbrev pub invariant-loop-flat : goal.invariant-loop-flat
invariant-loop-flat l = All IsTexture l.textures.items
