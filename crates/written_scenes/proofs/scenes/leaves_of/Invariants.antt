use Rattle.std.specs.List.{All}
use Rattle.scene_model.specs.Solids.{IsLeaf}
use Rattle.written_scenes.proofs.scenes.leaves_of.Given as goal

abbrev pub invariant-loop-solid : goal.invariant-loop-solid
invariant-loop-solid l = All IsLeaf l.leaves.items
