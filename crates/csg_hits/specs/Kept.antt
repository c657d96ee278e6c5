-- Leaves and objects of a scene as they are kept, ready to be met by rays.
use Rattle.std.specs.Prelude.{◌≡◌, Some, true, List, map}
use Rattle.scene_model.specs.declared.scene.Object.{Object}
use Rattle.scene_model.specs.declared.shape.Leaf.{Leaf}
use Rattle.shapes.specs.Rays.{Position, IsInWorld}
use Rattle.leaf_boxes.specs.Boxes.{IsInBox}
use Rattle.csg_hits.specs.Bounds.{box_of_object, holds_of}
use Rattle.csg_hits.specs.declared.ready.ReadyLeaf.{ReadyLeaf}
use Rattle.csg_hits.specs.declared.ready.ReadyObject.{ReadyObject}

-- those that they were made of
abbrev pub leaves_of : List ReadyLeaf → List Leaf
leaves_of leaves = map (λ leaf. leaf.leaf.value) leaves

abbrev pub objects_of : List ReadyObject → List Object
objects_of objects = map (λ object. object.object.value) objects

-- the box of an object is the one that its definition says, and holds each point of the world at which the object does
pub record IsBoxed (leaves : List Leaf) (kept : ReadyObject) : Type 0 where
  pub value : kept.bounds ≡ box_of_object leaves (Some kept.object.value)
  pub inside : (p : Position) → IsInWorld p → holds_of leaves (Some kept.object.value) p ≡ true → IsInBox kept.bounds p
