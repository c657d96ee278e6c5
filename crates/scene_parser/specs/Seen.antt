-- A scene as it is seen: its lists by their items, its shapes by their parts, its textures by what they show.
use Rattle.std.specs.Prelude.{ℕ, ℤ, Bool, List, map}
use Rattle.scene_model.specs.declared.camera.Camera.{Camera}
use Rattle.scene_model.specs.declared.light.Light.{Light}
use Rattle.scene_model.specs.declared.scene.Object.{Object}
use Rattle.scene_model.specs.declared.scene.Scene.{Scene}
use Rattle.scene_model.specs.declared.scene.Sheet.{Sheet}
use Rattle.scene_model.specs.declared.shape.Leaf.{Leaf}
use Rattle.item_blocks.specs.Made.{TextureView, texture_seen}
use Rattle.object_items.specs.Trees.{Tree, tree_of}

pub record ObjectView : Type 0 where
  pub tree : Tree
  pub no_shadow : Bool

pub record SceneView : Type 0 where
  pub camera : Camera
  pub lights : List Light
  pub objects : List ObjectView
  pub leaves : List Leaf
  pub sheets : List Sheet
  pub textures : List TextureView
  pub background : List ℤ
  pub ambient_light : List ℤ
  pub levels : ℕ
  pub adc : ℤ

abbrev pub object_view : Object → ObjectView
object_view object = record { tree = tree_of object.shape; no_shadow = object.no_shadow }

abbrev pub scene_seen : Scene → SceneView
scene_seen scene = record {
  camera = scene.camera;
  lights = scene.lights.items;
  objects = map object_view scene.objects.items;
  leaves = scene.leaves.items;
  sheets = scene.sheets.items;
  textures = map texture_seen scene.textures.items;
  background = scene.background;
  ambient_light = scene.ambient_light;
  levels = scene.levels;
  adc = scene.adc;
}
