-- Valid scenes: what every scene that a text describes has.
use Rattle.std.specs.Prelude.{◌≡◌, ◌≤◌, ◌<◌, ◌^◌, length, IsTrue}
use Rattle.std.specs.List.{All}
use Rattle.fix_math.specs.declared.fix.V3.{V3}
use Rattle.fix_math.specs.Matrices.{IsVectorWithin}
use Rattle.scene_model.specs.declared.scene.Scene.{Scene}
use Rattle.scene_model.specs.declared.scene.Object.{Object}
use Rattle.scene_model.specs.declared.scene.Sheet.{Sheet}
use Rattle.scene_model.specs.Amounts.{IsAmount, IsDirection, IsRgb, IsIor}
use Rattle.scene_model.specs.Solids.{IsLeaf}
use Rattle.scene_model.specs.Looks.{IsTexture, IsLight, IsCamera}
use Rattle.scene_model.specs.Places.{places_of, told_of, depth_of, is_filled}

-- groups are at most 64 deep, and none is empty
pub record IsObject (object : Object) : Type 0 where
  pub filled : IsTrue (is_filled object.shape)
  pub flat : depth_of object.shape ≤ 64

-- the normals at the corners of a smooth triangle have length 1 unit, up to rounding
pub record AreNormals (a b c : V3) : Type 0 where
  pub first : IsDirection a
  pub second : IsDirection b
  pub third : IsDirection c

-- a triangle's corners are in the world
pub record IsSheet (sheet : Sheet) : Type 0 where
  pub a : IsVectorWithin (2 ^ 28) sheet.a
  pub b : IsVectorWithin (2 ^ 28) sheet.b
  pub c : IsVectorWithin (2 ^ 28) sheet.c
  pub normals : IsTrue sheet.smooth → AreNormals sheet.na sheet.nb sheet.nc
  pub ior : IsIor sheet.ior

pub record Valid (scene : Scene) : Type 0 where
  pub camera : IsCamera scene.camera
  pub lights : All IsLight scene.lights.items
  pub few_lights : length scene.lights.items ≤ 256
  pub objects : All IsObject scene.objects.items
  pub leaves : All IsLeaf scene.leaves.items
  pub few_leaves : length scene.leaves.items ≤ 65536
  -- each leaf stands at one place of the shapes, in the order of the numbers, and says which
  pub places : places_of 0 scene.objects.items ≡ told_of 0 scene.leaves.items
  pub sheets : All IsSheet scene.sheets.items
  pub few_sheets : length scene.sheets.items ≤ 131072
  pub textures : All IsTexture scene.textures.items
  pub leaf_textures : All (λ leaf. leaf.texture < length scene.textures.items) scene.leaves.items
  pub sheet_textures : All (λ sheet. sheet.texture < length scene.textures.items) scene.sheets.items
  pub background : IsRgb scene.background
  pub ambient_light : IsRgb scene.ambient_light
  pub levels_low : 1 ≤ scene.levels
  pub levels_high : scene.levels ≤ 64
  pub adc : IsAmount 65536 scene.adc
