-- Lamps in the world: their places behind their steps, the cone of a spotlight, and fading. (Reference manual, light_source, spotlights and light fading)
use Rattle.std.specs.Prelude.{ℕ, ◌+◌, ℤ, pos, ◌^◌, ◌≤◌, Bool, true, false, ◌&&◌, int_lt, nat_lt, List, Option, Some, None, Result, Ok}
use Rattle.fix_math.specs.declared.fix.V3.{V3}
use Rattle.fix_math.specs.Angles.{cosine_of}
use Rattle.fix_math.specs.Directions.{unit_of}
use Rattle.fix_math.specs.Matrices.{vector}
use Rattle.fix_math.specs.Numbers.{rnd}
use Rattle.scene_lexer.specs.declared.token.Token.{Token}
use Rattle.scene_expr.specs.declared.value.Settings.{Settings}
use Rattle.scene_expr.specs.Then.{IsThen, Is}
use Rattle.scene_model.specs.declared.light.Fade.{Fade}
use Rattle.scene_model.specs.declared.light.Light.{Light}
use Rattle.scene_model.specs.declared.light.Spotlight.{Spotlight}
use Rattle.scene_model.specs.Amounts.{IsAmount, IsRgb}
use Rattle.xform.specs.Transforms.{point_of}
use Rattle.item_blocks.specs.declared.fault.ParseFault.{ParseFault}
use Rattle.item_blocks.specs.Tokens.{Behind, behind, Reading}
use Rattle.item_blocks.specs.Blocks.{IsBlock}
use Rattle.view_blocks.specs.declared.lamp.LampDraft.{LampDraft}
use Rattle.view_blocks.specs.Lamps.{plain_lamp, lamp_kind}
use Rattle.view_blocks.specs.Reach.{and_then, reached, way, place_or}

-- ---- meaning

-- the cosine of an angle in degrees, with 16 fraction bits
abbrev pub cosine_at : ℤ → ℤ
cosine_at angle = rnd (cosine_of angle) (pos 65536)

-- a spotlight shines from its place to what it points at
abbrev pub cone_of : LampDraft → V3 → V3 → Spotlight
cone_of lamp at target = record { axis = unit_of (way at target); inner = cosine_at lamp.radius; outer = cosine_at lamp.falloff; tightness = lamp.tightness }

abbrev pub when : {A : Type 0} → Bool → A → Option A
when true a = Some a
when false a = None

-- light fades where a distance and a power are said
abbrev pub fade_of : LampDraft → Option Fade
fade_of lamp = when (int_lt (pos 0) lamp.fade_distance && nat_lt 0 lamp.fade_power) (record { distance = lamp.fade_distance; power = lamp.fade_power })

abbrev pub placed_light : LampDraft → V3 → V3 → Light
placed_light lamp at target = record { at = at; colour = lamp.colour; shadowless = lamp.shadowless; spot = when lamp.spotlight (cone_of lamp at target); fade = fade_of lamp }

-- the steps move the place and what it points at; the place's fault comes first
abbrev pub light_of : LampDraft → Result Light ParseFault
light_of lamp =
    and_then (reached lamp.place (vector (point_of lamp.xform lamp.at))) (λ at.
    and_then (reached (place_or lamp.point_place lamp.place) (vector (point_of lamp.xform lamp.point_at))) (λ target.
    Ok (placed_light lamp at target)))

-- ---- grammar: a lamp from its word on

abbrev pub IsLampItem : List Token → Settings → ℕ → Reading Light
IsLampItem tokens set depths at r =
    IsThen (Behind LampDraft) (Behind Light) ParseFault (IsBlock (lamp_kind tokens set) tokens depths plain_lamp (at + 1)) (λ lamp.
    Is (behind (light_of lamp.value) lamp.next)) r

-- ---- what every lamp that is read has: its values are in their ranges

pub record IsSoundLamp (lamp : LampDraft) : Type 0 where
  pub colour : IsRgb lamp.colour
  pub radius : IsAmount 5898240 lamp.radius
  pub falloff : IsAmount 5898240 lamp.falloff
  pub tightness : lamp.tightness ≤ 100
  pub distance : IsAmount (2 ^ 36) lamp.fade_distance
  pub power : lamp.fade_power ≤ 4
