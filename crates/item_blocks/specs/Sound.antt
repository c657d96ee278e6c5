-- What is read is sound: its numbers are in their ranges, and its transforms are those of steps.
use Rattle.std.specs.Prelude.{pos, ◌≤ℤ◌, ◌≤◌, List, length, IfSome, ⊤}
use Rattle.std.specs.List.{All, AllPairs}
use Rattle.scene_model.specs.declared.texture.Entry.{Entry}
use Rattle.scene_model.specs.Amounts.{IsRgbft, IsIor}
use Rattle.scene_model.specs.Looks.{IsBrickSize, IsFinish}
use Rattle.xform.specs.Transforms.{IsPlaced}
use Rattle.item_blocks.specs.declared.patterns.Paint.{Paint}
use Rattle.item_blocks.specs.declared.pigment.PigmentDraft.{PigmentDraft}
use Rattle.item_blocks.specs.declared.texture.Interior.{Interior}
use Rattle.item_blocks.specs.declared.texture.MaterialDraft.{MaterialDraft}
use Rattle.item_blocks.specs.declared.texture.TextureDraft.{TextureDraft}

abbrev pub IsSoundPaint : Paint → Type 0
IsSoundPaint (Paint.Plain colour) = IsRgbft colour
IsSoundPaint (Paint.Checker colours) = All IsRgbft colours
IsSoundPaint (Paint.Brick colours) = All IsRgbft colours
IsSoundPaint (Paint.Hexagon colours) = All IsRgbft colours
IsSoundPaint (Paint.Gradient axis) = ⊤

-- a map may still be without entries: then none is given
pub record IsSoundMap (map : List Entry) : Type 0 where
  pub few : length map ≤ 256
  pub colours : All (λ entry. IsRgbft entry.colour) map
  pub ascending : AllPairs (λ low high. low.at ≤ℤ high.at) map

pub record IsSoundPigment (draft : PigmentDraft) : Type 0 where
  pub paint : IsSoundPaint draft.paint
  pub map : IsSoundMap draft.map
  pub size : IsBrickSize draft.brick_size
  pub width : pos 0 ≤ℤ draft.mortar
  pub xform : IsPlaced draft.xform

pub record IsSoundTexture (texture : TextureDraft) : Type 0 where
  pub pigment : IfSome texture.pigment IsSoundPigment
  pub finish : IfSome texture.finish IsFinish

abbrev pub IsSoundInterior : Interior → Type 0
IsSoundInterior interior = IsIor interior.ior

pub record IsSoundMaterial (material : MaterialDraft) : Type 0 where
  pub texture : IsSoundTexture material.texture
  pub interior : IfSome material.interior IsSoundInterior
