-- Textures, interiors and materials: the parts of them that are given. (Reference manual, textures, interiors and materials)
use Rattle.std.specs.Prelude.{◌≡◌, ℕ, ◌+◌, pos, Bool, true, false, List, [], Option, Some, None, Result, Ok, Err}
use Rattle.scene_lexer.specs.declared.token.Token.{Token}
use Rattle.scene_lexer.specs.declared.token.Place.{Place}
use Rattle.scene_expr.specs.declared.value.Settings.{Settings}
use Rattle.scene_expr.specs.declared.value.Value.{Value}
use Rattle.scene_expr.specs.Then.{IsThen, Is}
use Rattle.scene_model.specs.declared.texture.Finish.{Finish}
use Rattle.xform.specs.declared.transform.Xform.{Xform}
use Rattle.item_blocks.specs.declared.fault.ParseFault.{ParseFault}
use Rattle.item_blocks.specs.declared.fault.Wanted.{Wanted}
use Rattle.item_blocks.specs.declared.pigment.PigmentDraft.{PigmentDraft}
use Rattle.item_blocks.specs.declared.pigment_parts.PigmentPart.{PigmentPart}
use Rattle.item_blocks.specs.declared.texture.Interior.{Interior}
use Rattle.item_blocks.specs.declared.texture.MaterialDraft.{MaterialDraft}
use Rattle.item_blocks.specs.declared.texture.MaterialPart.{MaterialPart}
use Rattle.item_blocks.specs.declared.texture.TextureDraft.{TextureDraft}
use Rattle.item_blocks.specs.declared.texture.TexturePart.{TexturePart}
use Rattle.item_blocks.specs.declared.words.BlockWord.{BlockWord}
use Rattle.item_blocks.specs.declared.words.Word.{Word}
use Rattle.item_blocks.specs.Tokens.{word_at, unfit_at, Behind, or_else}
use Rattle.item_blocks.specs.Parameters.{float_of, IsParameter}
use Rattle.item_blocks.specs.Steps.{IsMovedIn}
use Rattle.item_blocks.specs.Blocks.{Statement, Kind, IsNothing, IsBlock}
use Rattle.item_blocks.specs.Finishes.{on_ok, finish_kind, plain_finish}
use Rattle.item_blocks.specs.Pigments.{pigment_kind, plain_pigment, IsPigmentPart}

-- ---- textures: a pigment and a finish, of which the last counts, and steps, which move the pigment that is given before them

abbrev pub no_texture : TextureDraft
no_texture = record { pigment = None; finish = None }

-- what a texture holds is set, and what it doesn't hold stays
abbrev pub with_texture : TextureDraft → TextureDraft → TextureDraft
with_texture texture inner = record { pigment = or_else inner.pigment texture.pigment; finish = or_else inner.finish texture.finish }

-- a step moves the pigment that is given
abbrev pub IsShifted : List Token → Settings → ℕ → Option PigmentDraft → Statement TextureDraft
IsShifted tokens set depths None texture at r =
    IsThen (Behind (List Xform)) (Behind TextureDraft) ParseFault (IsMovedIn tokens set depths [] at) (λ moved. Is (Ok (record { value = record texture { pigment = None }; next = moved.next }))) r
IsShifted tokens set depths (Some pigment) texture at r =
    IsThen (Behind PigmentDraft) (Behind TextureDraft) ParseFault (IsPigmentPart tokens set depths PigmentPart.Move pigment at) (λ moved.
    Is (Ok (record { value = record texture { pigment = Some moved.value }; next = moved.next }))) r

abbrev pub texture_part : Option Word → TexturePart
texture_part (Some (Word.Block BlockWord.Pigment)) = TexturePart.Pigment
texture_part (Some (Word.Block BlockWord.Finish)) = TexturePart.Finish
texture_part (Some (Word.Block BlockWord.Transform)) = TexturePart.Move
texture_part (Some (Word.Step word)) = TexturePart.Move
texture_part other = TexturePart.Other

abbrev pub is_texture_part : TexturePart → Bool
is_texture_part TexturePart.Other = false
is_texture_part part = true

abbrev pub IsTexturePart : List Token → Settings → ℕ → TexturePart → Statement TextureDraft
IsTexturePart tokens set depths TexturePart.Pigment texture at r =
    IsThen (Behind PigmentDraft) (Behind TextureDraft) ParseFault (IsBlock (pigment_kind tokens set) tokens depths plain_pigment (at + 1)) (λ pigment.
    Is (Ok (record { value = record texture { pigment = Some pigment.value }; next = pigment.next }))) r
IsTexturePart tokens set depths TexturePart.Finish texture at r =
    IsThen (Behind Finish) (Behind TextureDraft) ParseFault (IsBlock (finish_kind tokens set) tokens depths plain_finish (at + 1)) (λ finish.
    Is (Ok (record { value = record texture { finish = Some finish.value }; next = finish.next }))) r
IsTexturePart tokens set depths TexturePart.Move texture at r = IsShifted tokens set depths texture.pigment texture at r
IsTexturePart tokens set depths TexturePart.Other texture at r = r ≡ Err (unfit_at Wanted.CloseBrace tokens at)

abbrev pub is_texture : Option Word → Bool
is_texture (Some (Word.Block BlockWord.Texture)) = true
is_texture other = false

abbrev pub texture_kind : List Token → Settings → Kind TextureDraft
texture_kind tokens set = record {
  leads = is_texture;
  first = λ depths led. IsNothing;
  statement = λ depths texture at r. IsTexturePart tokens set depths (texture_part (word_at tokens at)) texture at r;
  lacks = λ texture. None;
}

-- ---- interiors: an index of refraction from 1/16 to 16, 1 where none is said

abbrev pub plain_interior : Interior
plain_interior = record { ior = pos 65536 }

abbrev pub interior_with : Value → Place → Result Interior ParseFault
interior_with value place = on_ok (float_of (pos 4096) (pos 1048576) value place) (λ a. record { ior = a })

abbrev pub is_ior : Option Word → Bool
is_ior (Some Word.Ior) = true
is_ior other = false

abbrev pub IsInteriorPart : List Token → Settings → Bool → Statement Interior
IsInteriorPart tokens set true interior at r = IsParameter Interior interior_with tokens set (at + 1) r
IsInteriorPart tokens set false interior at r = r ≡ Err (unfit_at Wanted.CloseBrace tokens at)

abbrev pub is_interior : Option Word → Bool
is_interior (Some (Word.Block BlockWord.Interior)) = true
is_interior other = false

abbrev pub interior_kind : List Token → Settings → Kind Interior
interior_kind tokens set = record {
  leads = is_interior;
  first = λ depths led. IsNothing;
  statement = λ depths interior at r. IsInteriorPart tokens set (is_ior (word_at tokens at)) interior at r;
  lacks = λ interior. None;
}

-- ---- materials: a texture, whose parts are set, and an interior

abbrev pub no_material : MaterialDraft
no_material = record { texture = no_texture; interior = None }

abbrev pub material_part : Option Word → MaterialPart
material_part (Some (Word.Block BlockWord.Texture)) = MaterialPart.Texture
material_part (Some (Word.Block BlockWord.Interior)) = MaterialPart.Interior
material_part other = MaterialPart.Other

abbrev pub is_material_part : MaterialPart → Bool
is_material_part MaterialPart.Other = false
is_material_part part = true

abbrev pub IsMaterialPart : List Token → Settings → ℕ → MaterialPart → Statement MaterialDraft
IsMaterialPart tokens set depths MaterialPart.Texture material at r =
    IsThen (Behind TextureDraft) (Behind MaterialDraft) ParseFault (IsBlock (texture_kind tokens set) tokens depths no_texture (at + 1)) (λ inner.
    Is (Ok (record { value = record material { texture = with_texture material.texture inner.value }; next = inner.next }))) r
IsMaterialPart tokens set depths MaterialPart.Interior material at r =
    IsThen (Behind Interior) (Behind MaterialDraft) ParseFault (IsBlock (interior_kind tokens set) tokens depths plain_interior (at + 1)) (λ interior.
    Is (Ok (record { value = record material { interior = Some interior.value }; next = interior.next }))) r
IsMaterialPart tokens set depths MaterialPart.Other material at r = r ≡ Err (unfit_at Wanted.CloseBrace tokens at)

abbrev pub is_material : Option Word → Bool
is_material (Some (Word.Block BlockWord.Material)) = true
is_material other = false

abbrev pub material_kind : List Token → Settings → Kind MaterialDraft
material_kind tokens set = record {
  leads = is_material;
  first = λ depths led. IsNothing;
  statement = λ depths material at r. IsMaterialPart tokens set depths (material_part (word_at tokens at)) material at r;
  lacks = λ material. None;
}
