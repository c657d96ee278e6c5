-- The looks of an object: what its words texture, pigment, finish, interior and material give. (Reference manual, object modifiers)
use Rattle.std.specs.Prelude.{ℕ, ◌+◌, List, Option, Some, None, Ok}
use Rattle.scene_lexer.specs.declared.token.Token.{Token}
use Rattle.scene_expr.specs.declared.value.Settings.{Settings}
use Rattle.scene_expr.specs.Then.{IsThen, Is}
use Rattle.item_blocks.specs.declared.fault.ParseFault.{ParseFault}
use Rattle.item_blocks.specs.declared.look.LookPart.{LookPart}
use Rattle.item_blocks.specs.declared.texture.MaterialDraft.{MaterialDraft}
use Rattle.item_blocks.specs.declared.texture.MaterialPart.{MaterialPart}
use Rattle.item_blocks.specs.declared.texture.TextureDraft.{TextureDraft}
use Rattle.item_blocks.specs.declared.texture.TexturePart.{TexturePart}
use Rattle.item_blocks.specs.declared.words.BlockWord.{BlockWord}
use Rattle.item_blocks.specs.declared.words.Word.{Word}
use Rattle.item_blocks.specs.Tokens.{Behind, or_else}
use Rattle.item_blocks.specs.Blocks.{Statement, IsBlock}
use Rattle.item_blocks.specs.Textures.{no_material, with_texture, material_kind, IsTexturePart, IsMaterialPart}

abbrev pub look_part : Option Word → Option LookPart
look_part (Some (Word.Block BlockWord.Pigment)) = Some LookPart.Pigment
look_part (Some (Word.Block BlockWord.Finish)) = Some LookPart.Finish
look_part (Some (Word.Block BlockWord.Texture)) = Some LookPart.Texture
look_part (Some (Word.Block BlockWord.Interior)) = Some LookPart.Interior
look_part (Some (Word.Block BlockWord.Material)) = Some LookPart.Material
look_part other = None

-- what a material holds is set, and what it doesn't hold stays
abbrev pub with_material : MaterialDraft → MaterialDraft → MaterialDraft
with_material looks inner = record { texture = with_texture looks.texture inner.texture; interior = or_else inner.interior looks.interior }

-- a part of a texture that stands alone is one of the object's own
abbrev pub IsLookOfTexture : List Token → Settings → ℕ → TexturePart → Statement MaterialDraft
IsLookOfTexture tokens set depths part looks at r =
    IsThen (Behind TextureDraft) (Behind MaterialDraft) ParseFault (IsTexturePart tokens set depths part looks.texture at) (λ texture.
    Is (Ok (record { value = record looks { texture = texture.value }; next = texture.next }))) r

-- a look, from its word on
abbrev pub IsLook : List Token → Settings → ℕ → LookPart → Statement MaterialDraft
IsLook tokens set depths LookPart.Pigment looks at r = IsLookOfTexture tokens set depths TexturePart.Pigment looks at r
IsLook tokens set depths LookPart.Finish looks at r = IsLookOfTexture tokens set depths TexturePart.Finish looks at r
IsLook tokens set depths LookPart.Texture looks at r = IsMaterialPart tokens set depths MaterialPart.Texture looks at r
IsLook tokens set depths LookPart.Interior looks at r = IsMaterialPart tokens set depths MaterialPart.Interior looks at r
IsLook tokens set depths LookPart.Material looks at r =
    IsThen (Behind MaterialDraft) (Behind MaterialDraft) ParseFault (IsBlock (material_kind tokens set) tokens depths no_material (at + 1)) (λ inner.
    Is (Ok (record { value = with_material looks inner.value; next = inner.next }))) r
