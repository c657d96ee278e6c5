use Rattle.std.proofs.Common.{◌<◌}
use Rattle.std.specs.List.{All}
use Rattle.scene_model.specs.Solids.{IsLeaf}
use Rattle.shade_rows.proofs.stages.leaves.Given as goal

abbrev pub invariant-loop-thing : goal.invariant-loop-thing
invariant-loop-thing l = record {
  leaves : All IsLeaf l.leaves.items;
  textures : All (λ leaf. leaf.texture < l.textures) l.leaves.items;
}
