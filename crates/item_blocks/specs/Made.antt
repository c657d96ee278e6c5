-- Textures of a scene, made of what is given: what isn't comes from the default, and what that doesn't hold is plain. (Reference manual, textures)
use Rattle.std.specs.Prelude.{ℕ, ℤ, pos, List, [], ◌∷◌, slice_index_or, Option, Some, None}
use Rattle.fix_math.specs.declared.fix.V3.{V3}
use Rattle.scene_model.specs.declared.texture.Entry.{Entry}
use Rattle.scene_model.specs.declared.texture.Finish.{Finish}
use Rattle.scene_model.specs.declared.texture.Pattern.{Pattern}
use Rattle.scene_model.specs.declared.texture.Texture.{Texture}
use Rattle.xform.specs.declared.transform.Xform.{Xform}
use Rattle.item_blocks.specs.declared.patterns.Paint.{Paint}
use Rattle.item_blocks.specs.declared.pigment.PigmentDraft.{PigmentDraft}
use Rattle.item_blocks.specs.declared.texture.Interior.{Interior}
use Rattle.item_blocks.specs.declared.texture.TextureDraft.{TextureDraft}
use Rattle.item_blocks.specs.Tokens.{or_else}
use Rattle.item_blocks.specs.Finishes.{plain_finish}
use Rattle.item_blocks.specs.Pigments.{plain_pigment, rgb, black}
use Rattle.item_blocks.specs.Textures.{plain_interior}

-- ---- a texture as it is seen: a colour map by its entries

pub data PatternView : Type 0 where
  Plain : List ℤ → PatternView
  Checker : List (List ℤ) → PatternView
  Brick : List ℤ → List ℤ → V3 → ℤ → PatternView
  Hexagon : List (List ℤ) → PatternView
  Gradient : V3 → List Entry → PatternView

pub record TextureView : Type 0 where
  pub pattern : PatternView
  pub xform : Xform
  pub finish : Finish

abbrev pub pattern_seen : Pattern → PatternView
pattern_seen (Pattern.Plain colour) = PatternView.Plain colour
pattern_seen (Pattern.Checker colours) = PatternView.Checker colours
pattern_seen (Pattern.Brick mortar brick size width) = PatternView.Brick mortar brick size width
pattern_seen (Pattern.Hexagon colours) = PatternView.Hexagon colours
pattern_seen (Pattern.Gradient axis map) = PatternView.Gradient axis map.items

abbrev pub texture_seen : Texture → TextureView
texture_seen texture = record { pattern = pattern_seen texture.pigment.pattern; xform = texture.pigment.xform; finish = texture.finish }

-- ---- what is made

abbrev pub white : List ℤ
white = rgb (pos 65536) (pos 65536) (pos 65536)

-- a gradient without a map goes from black to white
abbrev pub greys : List Entry
greys = record { at = pos 0; colour = black } ∷ record { at = pos 65536; colour = white } ∷ []

abbrev pub map_or_greys : List Entry → List Entry
map_or_greys [] = greys
map_or_greys (entry ∷ entries) = entry ∷ entries

abbrev pub colour_at : List (List ℤ) → ℕ → List ℤ
colour_at colours i = slice_index_or colours i []

-- a map counts for a gradient alone, and sizes for bricks
abbrev pub pattern_of : Paint → PigmentDraft → PatternView
pattern_of (Paint.Plain colour) draft = PatternView.Plain colour
pattern_of (Paint.Checker colours) draft = PatternView.Checker colours
pattern_of (Paint.Brick colours) draft = PatternView.Brick (colour_at colours 0) (colour_at colours 1) draft.brick_size draft.mortar
pattern_of (Paint.Hexagon colours) draft = PatternView.Hexagon colours
pattern_of (Paint.Gradient axis) draft = PatternView.Gradient axis (map_or_greys draft.map)

abbrev pub or_plain : {A : Type 0} → Option A → A → A
or_plain None plain = plain
or_plain (Some a) plain = a

abbrev pub pigment_in : TextureDraft → TextureDraft → PigmentDraft
pigment_in own default = or_plain (or_else own.pigment default.pigment) plain_pigment

abbrev pub finish_in : TextureDraft → TextureDraft → Finish
finish_in own default = or_plain (or_else own.finish default.finish) plain_finish

abbrev pub made_of : PigmentDraft → Finish → TextureView
made_of pigment finish = record { pattern = pattern_of pigment.paint pigment; xform = pigment.xform; finish = finish }

abbrev pub texture_of : TextureDraft → TextureDraft → TextureView
texture_of own default = made_of (pigment_in own default) (finish_in own default)

-- the index of refraction: 1 where no interior is given
abbrev pub ior_of : Option Interior → ℤ
ior_of interior = (or_plain interior plain_interior).ior
