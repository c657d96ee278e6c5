-- Shapes as they are seen.
use Rattle.std.proofs.Common.{◌≡◌, ℕ, ap, sym, ◌∙◌}
use Rattle.scene_model.specs.declared.shape.Shape.{Leaf}
use Rattle.scene_model.specs.declared.shape.Shape.TheOpen.{Shape-F}
use Rattle.scene_model.specs.declared.shape.Shape.TheVariants.{rolls-Leaf}
use Rattle.scene_model.specs.declared.shape.Shape.TheFolds.{fold-roll-Shape}
use Rattle.object_items.specs.Trees.{Tree, tree_step, tree_of}

pub leaf_tree : (n : ℕ) → tree_of (Leaf n) ≡ Tree.leaf n
leaf_tree n = ap tree_of (sym (rolls-Leaf n)) ∙ fold-roll-Shape Tree tree_step (Shape-F.Leaf n)
