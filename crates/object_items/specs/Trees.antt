-- Shapes as they are seen: two are the same where they have the same parts.
use Rattle.std.specs.Prelude.{ℕ, Bool, List, [], ◌∷◌, Option, Some, None}
use Rattle.scene_model.specs.declared.shape.Op.{Op}
use Rattle.scene_model.specs.declared.shape.Shape.{Shape}
use Rattle.scene_model.specs.declared.shape.Shape.TheOpen.{Shape-F}
use Rattle.scene_model.specs.declared.shape.Shape.TheFolds.{fold-Shape}

mutual
  -- a leaf by its number, or a group by its parts, with whether its inside is its outside
  pub data Tree : Type 0 where
    leaf : ℕ → Tree
    group : Op → Trees → Bool → Tree

  -- the parts of a group, in the order as written
  pub data Trees : Type 0 where
    none : Trees
    further : Tree → Trees → Trees

abbrev pub trees_of : List Tree → Trees
trees_of [] = Trees.none
trees_of (tree ∷ trees) = Trees.further tree (trees_of trees)

abbrev pub tree_step : Shape-F Tree → Tree
tree_step (Shape-F.Leaf n) = Tree.leaf n
tree_step (Shape-F.Group op parts inverse) = Tree.group op (trees_of parts.items) inverse

-- a shape as it is seen
abbrev pub tree_of : Shape → Tree
tree_of = fold-Shape Tree tree_step

-- a shape, where there is one: triangles alone have none
abbrev pub tree_seen : Option Shape → Option Tree
tree_seen None = None
tree_seen (Some shape) = Some (tree_of shape)
