use Rattle.std.proofs.Common.{◌<◌}
use Rattle.std.specs.List.{All}
use Rattle.scene_model.specs.Solids.{IsLeaf}
use Rattle.picture_rows.proofs.stages.leaves.Given as goal

abbrev pub invariant-loop-flat : goal.invariant-loop-flat
invariant-loop-flat l = record {
  leaves : All IsLeaf l.leaves.items;
  textures : All (λ leaf. leaf.texture < l.textures) l.leaves.items;
}
