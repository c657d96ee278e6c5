use Rattle.std.specs.List.{All}
use Rattle.scene_model.specs.Solids.{IsLeaf}
use Rattle.csg_rows.proofs.scenes.scene.Given as goal

abbrev pub invariant-loop-piece : goal.invariant-loop-piece
invariant-loop-piece l = All IsLeaf l.leaves.items
