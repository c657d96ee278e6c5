-- Lamps: what is said of them. (Reference manual, light_source)
use Rattle.std.specs.Prelude.{◌≡◌, ℕ, ◌+◌, ℤ, pos, Bool, true, false, unsigned_abs, List, [], ◌∷◌, slice_index_or, Option, Some, None, Result, Ok, Err}
use Rattle.fix_math.specs.declared.fix.V3.{V3}
use Rattle.fix_math.specs.Numbers.{rnd}
use Rattle.scene_lexer.specs.declared.token.Place.{Place}
use Rattle.scene_lexer.specs.declared.token.Token.{Token}
use Rattle.scene_expr.specs.declared.value.Settings.{Settings}
use Rattle.scene_expr.specs.declared.value.Value.{Value}
use Rattle.scene_expr.specs.Heads.{place_at}
use Rattle.scene_expr.specs.Then.{IsThen, Is}
use Rattle.xform.specs.declared.transform.Xform.{Xform}
use Rattle.xform.specs.Transforms.{start_of}
use Rattle.item_blocks.specs.declared.fault.ParseFault.{ParseFault}
use Rattle.item_blocks.specs.declared.fault.Wanted.{Wanted}
use Rattle.view_blocks.specs.declared.lamp.LampDraft.{LampDraft}
use Rattle.view_blocks.specs.declared.lamp.LampPart.{LampPart}
use Rattle.item_blocks.specs.declared.words.BlockWord.{BlockWord}
use Rattle.item_blocks.specs.declared.words.LampFlag.{LampFlag}
use Rattle.item_blocks.specs.declared.words.LampParameter.{LampParameter}
use Rattle.item_blocks.specs.declared.words.LampWord.{LampWord}
use Rattle.item_blocks.specs.declared.words.Word.{Word}
use Rattle.item_blocks.specs.Tokens.{word_at, unfit_at, behind_comma, Behind}
use Rattle.item_blocks.specs.Parameters.{any_vector_of, float_of, light_of, IsParameter}
use Rattle.item_blocks.specs.Steps.{IsMovedIn}
use Rattle.item_blocks.specs.Blocks.{Statement, Kind}
use Rattle.item_blocks.specs.Finishes.{on_ok}

-- ---- meaning

abbrev pub corner : ℤ → V3
corner z = record { x = pos 0; y = pos 0; z = z }

-- a lamp of which nothing is said: radius 30 falloff 45 tightness 0 point_at <0, 0, 1>, no fading
abbrev pub plain_lamp : LampDraft
plain_lamp = record {
  at = corner (pos 0);
  place = record { file = 0; at = 0; line = 1 };
  colour = pos 0 ∷ pos 0 ∷ pos 0 ∷ [];
  shadowless = false;
  spotlight = false;
  radius = pos 1966080;
  falloff = pos 2949120;
  tightness = 0;
  point_at = corner (pos 65536);
  point_place = None;
  fade_distance = pos 0;
  fade_power = 0;
  xform = start_of;
}

abbrev pub flagged : LampDraft → LampFlag → LampDraft
flagged lamp LampFlag.Shadowless = record lamp { shadowless = true }
flagged lamp LampFlag.Spotlight = record lamp { spotlight = true }

-- the nearest whole number
abbrev pub nearest_of : ℤ → ℕ
nearest_of value = unsigned_abs (rnd value (pos 65536))

-- what a word of a lamp makes of the value behind it: angles to 90 degrees, a distance to 1,048,576 units
abbrev pub lamp_with : LampDraft → LampParameter → Value → Place → Result LampDraft ParseFault
lamp_with lamp LampParameter.Radius value place = on_ok (float_of (pos 0) (pos 5898240) value place) (λ a. record lamp { radius = a })
lamp_with lamp LampParameter.Falloff value place = on_ok (float_of (pos 0) (pos 5898240) value place) (λ a. record lamp { falloff = a })
lamp_with lamp LampParameter.Tightness value place = on_ok (float_of (pos 0) (pos 6553600) value place) (λ a. record lamp { tightness = nearest_of a })
lamp_with lamp LampParameter.PointAt value place = on_ok (any_vector_of value place) (λ v. record lamp { point_at = v; point_place = Some place })
lamp_with lamp LampParameter.FadeDistance value place = on_ok (float_of (pos 0) (pos 68719476736) value place) (λ a. record lamp { fade_distance = a })
lamp_with lamp LampParameter.FadePower value place = on_ok (float_of (pos 0) (pos 262144) value place) (λ a. record lamp { fade_power = nearest_of a })

-- ---- grammar

-- a place and a colour stand first, unless a lamp of its own does
abbrev pub IsLit : List Token → Settings → Bool → Statement LampDraft
IsLit tokens set true lamp at r = r ≡ Ok (record { value = lamp; next = at })
IsLit tokens set false lamp at r =
    IsThen (Behind V3) (Behind LampDraft) ParseFault (IsParameter V3 any_vector_of tokens set at) (λ v.
    IsThen (Behind (List ℤ)) (Behind LampDraft) ParseFault (IsParameter (List ℤ) light_of tokens set (behind_comma tokens v.next)) (λ colour.
    Is (Ok (record { value = record lamp { at = v.value; place = place_at tokens at; colour = colour.value }; next = colour.next })))) r

abbrev pub lamp_part : Option Word → LampPart
lamp_part (Some (Word.Lamp (LampWord.Flag flag))) = LampPart.Flag flag
lamp_part (Some (Word.Lamp (LampWord.Parameter word))) = LampPart.Parameter word
lamp_part (Some (Word.Block BlockWord.Transform)) = LampPart.Move
lamp_part (Some (Word.Step word)) = LampPart.Move
lamp_part other = LampPart.Other

abbrev pub is_lamp_part : LampPart → Bool
is_lamp_part LampPart.Other = false
is_lamp_part part = true

-- a word of a lamp with its value, or a step: these are composed, wherever they stand
abbrev pub IsLampPart : List Token → Settings → ℕ → LampPart → Statement LampDraft
IsLampPart tokens set depths (LampPart.Flag flag) lamp at r = r ≡ Ok (record { value = flagged lamp flag; next = at + 1 })
IsLampPart tokens set depths (LampPart.Parameter word) lamp at r = IsParameter LampDraft (lamp_with lamp word) tokens set (at + 1) r
IsLampPart tokens set depths LampPart.Move lamp at r =
    IsThen (Behind (List Xform)) (Behind LampDraft) ParseFault (IsMovedIn tokens set depths (lamp.xform ∷ []) at) (λ moved.
    Is (Ok (record { value = record lamp { xform = slice_index_or moved.value 0 lamp.xform }; next = moved.next }))) r
IsLampPart tokens set depths LampPart.Other lamp at r = r ≡ Err (unfit_at Wanted.CloseBrace tokens at)

abbrev pub is_lamp : Option Word → Bool
is_lamp (Some (Word.Block BlockWord.LightSource)) = true
is_lamp other = false

abbrev pub lamp_kind : List Token → Settings → Kind LampDraft
lamp_kind tokens set = record {
  leads = is_lamp;
  first = λ depths led lamp at r. IsLit tokens set led lamp at r;
  statement = λ depths lamp at r. IsLampPart tokens set depths (lamp_part (word_at tokens at)) lamp at r;
  lacks = λ lamp. None;
}
