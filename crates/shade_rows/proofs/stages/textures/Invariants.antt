use Rattle.std.specs.List.{All}
use Rattle.scene_model.specs.Looks.{IsTexture}
use Rattle.shade_rows.proofs.stages.textures.Given as goal

abbrev pub invariant-loop-thing : goal.invariant-loop-thing
invariant-loop-thing l = All IsTexture l.textures.items
