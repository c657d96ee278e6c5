-- Textures, lamps and cameras: the sizes of their numbers.
use Rattle.std.specs.Prelude.{ℤ, pos, ◌≤ℤ◌, ◌<ℤ◌, ◌≤◌, ◌^◌, List, unsigned_abs, length, IfSome}
use Rattle.std.specs.List.{All, AllPairs}
use Rattle.fix_math.specs.declared.fix.V3.{V3}
use Rattle.fix_math.specs.Matrices.{IsVectorWithin}
use Rattle.xform.specs.Transforms.{IsPlaced}
use Rattle.scene_model.specs.declared.camera.Camera.{Camera}
use Rattle.scene_model.specs.declared.light.Fade.{Fade}
use Rattle.scene_model.specs.declared.light.Light.{Light}
use Rattle.scene_model.specs.declared.light.Spotlight.{Spotlight}
use Rattle.scene_model.specs.declared.texture.Entry.{Entry}
use Rattle.scene_model.specs.declared.texture.Finish.{Finish}
use Rattle.scene_model.specs.declared.texture.Pattern.{Pattern}
use Rattle.scene_model.specs.declared.texture.Pattern.TheVariants.{Plain, Checker, Brick, Hexagon, Gradient}
use Rattle.scene_model.specs.declared.texture.Texture.{Texture}
use Rattle.scene_model.specs.Amounts.{IsAmount, AreAmounts, IsDirection, IsRgb, IsRgbft}

-- a brick has a size above 0 along each axis
pub record IsBrickSize (v : V3) : Type 0 where
  pub x : pos 0 <ℤ v.x
  pub y : pos 0 <ℤ v.y
  pub z : pos 0 <ℤ v.z

pub record IsBrick (mortar brick : List ℤ) (size : V3) (width : ℤ) : Type 0 where
  pub mortar_colour : IsRgbft mortar
  pub brick_colour : IsRgbft brick
  pub sides : IsBrickSize size
  pub thick : pos 0 ≤ℤ width

-- a colour map has from 1 to 256 entries, in ascending order
pub record IsMap (map : List Entry) : Type 0 where
  pub some : 1 ≤ length map
  pub few : length map ≤ 256
  pub colours : All (λ entry. IsRgbft entry.colour) map
  pub ascending : AllPairs (λ low high. low.at ≤ℤ high.at) map

abbrev pub IsPattern : Pattern → Type 0
IsPattern (Plain colour) = IsRgbft colour
IsPattern (Checker colours) = All IsRgbft colours
IsPattern (Brick mortar brick size width) = IsBrick mortar brick size width
IsPattern (Hexagon colours) = All IsRgbft colours
IsPattern (Gradient axis map) = IsMap map.items

pub record IsFinish (finish : Finish) : Type 0 where
  pub ambient : AreAmounts (2 ^ 20) finish.ambient
  pub diffuse : IsAmount (2 ^ 20) finish.diffuse
  pub phong : IsAmount (2 ^ 20) finish.phong
  pub phong_size_low : 1 ≤ finish.phong_size
  pub phong_size_high : finish.phong_size ≤ 65535
  pub specular : IsAmount (2 ^ 20) finish.specular
  pub gloss_low : 1 ≤ finish.gloss
  pub gloss_high : finish.gloss ≤ 65536
  pub reflection : AreAmounts 65536 finish.reflection

pub record IsTexture (texture : Texture) : Type 0 where
  pub pattern : IsPattern texture.pigment.pattern
  pub xform : IsPlaced texture.pigment.xform
  pub finish : IsFinish texture.finish

-- the cosines of a spotlight's angles are those of 0 to 90 degrees
pub record IsSpotlight (spot : Spotlight) : Type 0 where
  pub axis : IsDirection spot.axis
  pub inner : IsAmount 65536 spot.inner
  pub outer : IsAmount 65536 spot.outer
  pub tightness : spot.tightness ≤ 100

pub record IsFade (fade : Fade) : Type 0 where
  pub some : pos 0 <ℤ fade.distance
  pub far : unsigned_abs fade.distance ≤ 2 ^ 36
  pub power_low : 1 ≤ fade.power
  pub power_high : fade.power ≤ 4

-- a lamp stands at most 1,048,576 units from the origin along each axis
pub record IsLight (light : Light) : Type 0 where
  pub place : IsVectorWithin (2 ^ 36) light.at
  pub colour : IsRgb light.colour
  pub spot : IfSome light.spot IsSpotlight
  pub fade : IfSome light.fade IsFade

pub record IsCamera (camera : Camera) : Type 0 where
  pub location : IsVectorWithin (2 ^ 36) camera.location
  pub direction : IsVectorWithin (2 ^ 36) camera.direction
  pub right : IsVectorWithin (2 ^ 36) camera.right
  pub up : IsVectorWithin (2 ^ 36) camera.up
