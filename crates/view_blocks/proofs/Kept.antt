-- Lamps and cameras that are read are sound: their statements keep their values in their ranges.
use Rattle.std.proofs.Common.{◌≡◌, ◌≤◌, ◌+◌, ◌*◌, ◌^◌, ℕ, ℤ, pos, neg_ℤ, Bool, true, false, List, Ok, arith, unsigned_abs}
use Rattle.std.specs.Prelude.{IfOk, ⊤}
use Rattle.std.proofs.lemmas.Int.{ints}
use Rattle.fix_math.specs.declared.fix.V3.{V3}
use Rattle.fix_math.specs.Floor.{rnd_within}
use Rattle.fix_math.specs.Matrices.{IsVectorWithin}
use Rattle.scene_lexer.specs.declared.token.Place.{Place}
use Rattle.scene_lexer.specs.declared.token.Token.{Token as TextToken}
use Rattle.scene_expr.specs.declared.value.Settings.{Settings}
use Rattle.scene_expr.specs.declared.value.Value.{Value}
use Rattle.scene_model.specs.Amounts.{IsAmount, AreAmounts}
use Rattle.item_blocks.specs.declared.words.CameraFlag.{CameraFlag}
use Rattle.item_blocks.specs.declared.words.CameraParameter.{CameraParameter}
use Rattle.item_blocks.specs.declared.words.LampFlag.{LampFlag}
use Rattle.item_blocks.specs.declared.words.LampParameter.{LampParameter}
use Rattle.item_blocks.specs.Parameters.{is_between, is_vector_between, float_in, vector_in, float_of, point_of, any_vector_of, light_of}
use Rattle.item_blocks.specs.Blocks.{IsBlock}
use Rattle.item_blocks.specs.SoundLaws.{kept_then, kept_ok, kept_parameter, Keeps, kept_same, kept_refused, kept_block, kept_checked, kept_float, kept_rgb, between, and_split}
use Rattle.view_blocks.specs.declared.camera.CameraDraft.{CameraDraft}
use Rattle.view_blocks.specs.declared.camera.CameraPart.{CameraPart}
use Rattle.view_blocks.specs.declared.lamp.LampDraft.{LampDraft}
use Rattle.view_blocks.specs.declared.lamp.LampPart.{LampPart}
use Rattle.view_blocks.specs.Cameras.{plain_camera, flagged_camera, camera_with, IsCameraPart, camera_kind}
use Rattle.view_blocks.specs.Lamps.{plain_lamp, flagged, nearest_of, lamp_with, IsLit, IsLampPart, lamp_kind}
use Rattle.view_blocks.specs.Lights.{IsSoundLamp}
use Rattle.view_blocks.specs.Views.{IsAngle, IsSoundCamera}

amount : (most n : ℕ) → n ≤ most → IsAmount most (pos n)
amount most n le = record { low = omega (arith, ints); high = le }

-- ---- lamps

pub plain_lamp_sound : IsSoundLamp plain_lamp
plain_lamp_sound = record {
  colour = record { first = amount (2 ^ 24) 0 (omega arith); second = amount (2 ^ 24) 0 (omega arith); third = amount (2 ^ 24) 0 (omega arith) };
  radius = amount 5898240 1966080 (omega arith);
  falloff = amount 5898240 2949120 (omega arith);
  tightness = omega arith;
  distance = amount (2 ^ 36) 0 (omega arith);
  power = omega arith;
}

nearest_within : (most : ℕ) (z : ℤ) → IsAmount (most * 65536) z → nearest_of z ≤ most
nearest_within most z a = rnd_within z 65536 most (omega arith) (omega (arith, a.high))

any_value : (value : Value) (place : Place) → IfOk (any_vector_of value place) (λ v. ⊤)
any_value value place = kept_checked (λ v. ⊤) (λ v. true) (vector_in value) place (λ v is. tt)

kept_lamp_with : (lamp : LampDraft) (word : LampParameter) (value : Value) (place : Place) → IsSoundLamp lamp → IfOk (lamp_with lamp word value place) IsSoundLamp
kept_lamp_with lamp LampParameter.Radius value place s =
    kept_ok (IsAmount 5898240) IsSoundLamp (float_of (pos 0) (pos 5898240) value place) _ (kept_float 5898240 value place) (λ a h. record { colour = s.colour; radius = h; falloff = s.falloff; tightness = s.tightness; distance = s.distance; power = s.power })
kept_lamp_with lamp LampParameter.Falloff value place s =
    kept_ok (IsAmount 5898240) IsSoundLamp (float_of (pos 0) (pos 5898240) value place) _ (kept_float 5898240 value place) (λ a h. record { colour = s.colour; radius = s.radius; falloff = h; tightness = s.tightness; distance = s.distance; power = s.power })
kept_lamp_with lamp LampParameter.Tightness value place s =
    kept_ok (IsAmount 6553600) IsSoundLamp (float_of (pos 0) (pos 6553600) value place) _ (kept_float 6553600 value place) (λ a h. record { colour = s.colour; radius = s.radius; falloff = s.falloff; tightness = nearest_within 100 a h; distance = s.distance; power = s.power })
kept_lamp_with lamp LampParameter.PointAt value place s =
    kept_ok (λ v. ⊤) IsSoundLamp (any_vector_of value place) _ (any_value value place) (λ v h. record { colour = s.colour; radius = s.radius; falloff = s.falloff; tightness = s.tightness; distance = s.distance; power = s.power })
kept_lamp_with lamp LampParameter.FadeDistance value place s =
    kept_ok (IsAmount 68719476736) IsSoundLamp (float_of (pos 0) (pos 68719476736) value place) _ (kept_float 68719476736 value place) (λ a h. record { colour = s.colour; radius = s.radius; falloff = s.falloff; tightness = s.tightness; distance = h; power = s.power })
kept_lamp_with lamp LampParameter.FadePower value place s =
    kept_ok (IsAmount 262144) IsSoundLamp (float_of (pos 0) (pos 262144) value place) _ (kept_float 262144 value place) (λ a h. record { colour = s.colour; radius = s.radius; falloff = s.falloff; tightness = s.tightness; distance = s.distance; power = nearest_within 4 a h })

kept_flag : (lamp : LampDraft) (flag : LampFlag) → IsSoundLamp lamp → IsSoundLamp (flagged lamp flag)
kept_flag lamp LampFlag.Shadowless s = record { colour = s.colour; radius = s.radius; falloff = s.falloff; tightness = s.tightness; distance = s.distance; power = s.power }
kept_flag lamp LampFlag.Spotlight s = record { colour = s.colour; radius = s.radius; falloff = s.falloff; tightness = s.tightness; distance = s.distance; power = s.power }

module _ (tokens : List TextToken) (set : Settings) where
  kept_lit : (led : Bool) → Keeps IsSoundLamp (IsLit tokens set led)
  kept_lit true lamp at r s read = kept_same IsSoundLamp lamp at r s read
  kept_lit false lamp at r s read =
      kept_then (λ b. IsSoundLamp b.value) read (λ v is_v more.
      kept_then (λ b. IsSoundLamp b.value) more (λ colour is_colour is.
      kept_same IsSoundLamp _ colour.next r (record { colour = kept_parameter (AreAmounts 16777216) light_of tokens set _ (Ok colour) (kept_rgb 16777216) is_colour; radius = s.radius; falloff = s.falloff; tightness = s.tightness; distance = s.distance; power = s.power }) is))

  kept_lamp_part : (depths : ℕ) (part : LampPart) → Keeps IsSoundLamp (IsLampPart tokens set depths part)
  kept_lamp_part depths (LampPart.Flag flag) lamp at r s read = kept_same IsSoundLamp (flagged lamp flag) (at + 1) r (kept_flag lamp flag s) read
  kept_lamp_part depths (LampPart.Parameter word) lamp at r s read = kept_parameter IsSoundLamp (lamp_with lamp word) tokens set (at + 1) r (λ value place. kept_lamp_with lamp word value place s) read
  kept_lamp_part depths LampPart.Move lamp at r s read =
      kept_then (λ b. IsSoundLamp b.value) read (λ moved is_moved is.
      kept_same IsSoundLamp _ moved.next r (record { colour = s.colour; radius = s.radius; falloff = s.falloff; tightness = s.tightness; distance = s.distance; power = s.power }) is)
  kept_lamp_part depths LampPart.Other lamp at r s read = kept_refused IsSoundLamp _ r read

  pub lamp_kept : (depths : ℕ) → Keeps IsSoundLamp (IsBlock (lamp_kind tokens set) tokens depths)
  lamp_kept = kept_block IsSoundLamp (lamp_kind tokens set) tokens (λ depths led lamp at r s read. kept_lit led lamp at r s read) (λ depths lamp at r s read. kept_lamp_part depths _ lamp at r s read)

-- ---- cameras

pub plain_camera_sound : IsSoundCamera plain_camera
plain_camera_sound = record {
  location = record { first = omega arith; second = omega arith; third = omega arith };
  direction = record { first = omega arith; second = omega arith; third = omega arith };
  right = record { first = omega arith; second = omega arith; third = omega arith };
  up = record { first = omega arith; second = omega arith; third = omega arith };
  sky = record { first = omega arith; second = omega arith; third = omega arith };
  angle = tt;
  aim = tt;
}

part_within : (z : ℤ) → is_between (neg_ℤ (pos 268435456)) (pos 268435456) z ≡ true → unsigned_abs z ≤ 268435456
part_within z h = let k = between (neg_ℤ (pos 268435456)) (pos 268435456) z h in omega (arith, ints, k.0, k.1)

point_within : (v : V3) → is_vector_between (neg_ℤ (pos 268435456)) (pos 268435456) v ≡ true → IsVectorWithin 268435456 v
point_within v h =
    let k = and_split (is_between (neg_ℤ (pos 268435456)) (pos 268435456) v.x) _ h in
    let m = and_split (is_between (neg_ℤ (pos 268435456)) (pos 268435456) v.y) _ k.1 in
    record { first = part_within v.x k.0; second = part_within v.y m.0; third = part_within v.z m.1 }

kept_point : (value : Value) (place : Place) → IfOk (point_of value place) (IsVectorWithin 268435456)
kept_point value place = kept_checked (IsVectorWithin 268435456) (is_vector_between (neg_ℤ (pos 268435456)) (pos 268435456)) (vector_in value) place point_within

angle_is : (z : ℤ) → is_between (pos 1) (pos 11796479) z ≡ true → IsAngle z
angle_is z h = let k = between (pos 1) (pos 11796479) z h in record { some = k.0; less = omega (arith, ints, k.0, k.1) }

kept_camera_with : (camera : CameraDraft) (word : CameraParameter) (value : Value) (place : Place) → IsSoundCamera camera → IfOk (camera_with camera word value place) IsSoundCamera
kept_camera_with camera CameraParameter.Location value place s =
    kept_ok (IsVectorWithin 268435456) IsSoundCamera (point_of value place) _ (kept_point value place) (λ v h. record { location = h; direction = s.direction; right = s.right; up = s.up; sky = s.sky; angle = s.angle; aim = s.aim })
kept_camera_with camera CameraParameter.Direction value place s =
    kept_ok (IsVectorWithin 268435456) IsSoundCamera (point_of value place) _ (kept_point value place) (λ v h. record { location = s.location; direction = h; right = s.right; up = s.up; sky = s.sky; angle = s.angle; aim = s.aim })
kept_camera_with camera CameraParameter.Right value place s =
    kept_ok (IsVectorWithin 268435456) IsSoundCamera (point_of value place) _ (kept_point value place) (λ v h. record { location = s.location; direction = s.direction; right = h; up = s.up; sky = s.sky; angle = s.angle; aim = s.aim })
kept_camera_with camera CameraParameter.Up value place s =
    kept_ok (IsVectorWithin 268435456) IsSoundCamera (point_of value place) _ (kept_point value place) (λ v h. record { location = s.location; direction = s.direction; right = s.right; up = h; sky = s.sky; angle = s.angle; aim = s.aim })
kept_camera_with camera CameraParameter.Sky value place s =
    kept_ok (IsVectorWithin 268435456) IsSoundCamera (point_of value place) _ (kept_point value place) (λ v h. record { location = s.location; direction = s.direction; right = s.right; up = s.up; sky = h; angle = s.angle; aim = s.aim })
kept_camera_with camera CameraParameter.Angle value place s =
    kept_ok IsAngle IsSoundCamera (float_of (pos 1) (pos 11796479) value place) _ (kept_checked IsAngle (is_between (pos 1) (pos 11796479)) (float_in value) place angle_is) (λ a h. record { location = s.location; direction = s.direction; right = s.right; up = s.up; sky = s.sky; angle = h; aim = s.aim })
kept_camera_with camera CameraParameter.LookAt value place s =
    kept_ok (IsVectorWithin 268435456) IsSoundCamera (point_of value place) _ (kept_point value place) (λ v h. record { location = s.location; direction = s.direction; right = s.right; up = s.up; sky = s.sky; angle = s.angle; aim = h })

kept_camera_flag : (camera : CameraDraft) (flag : CameraFlag) → IsSoundCamera camera → IsSoundCamera (flagged_camera camera flag)
kept_camera_flag camera CameraFlag.Perspective s = record { location = s.location; direction = s.direction; right = s.right; up = s.up; sky = s.sky; angle = s.angle; aim = s.aim }
kept_camera_flag camera CameraFlag.Orthographic s = record { location = s.location; direction = s.direction; right = s.right; up = s.up; sky = s.sky; angle = s.angle; aim = s.aim }

module _ (tokens : List TextToken) (set : Settings) where
  kept_camera_part : (depths : ℕ) (part : CameraPart) → Keeps IsSoundCamera (IsCameraPart tokens set depths part)
  kept_camera_part depths (CameraPart.Flag flag) camera at r s read = kept_same IsSoundCamera (flagged_camera camera flag) (at + 1) r (kept_camera_flag camera flag s) read
  kept_camera_part depths (CameraPart.Parameter word) camera at r s read = kept_parameter IsSoundCamera (camera_with camera word) tokens set (at + 1) r (λ value place. kept_camera_with camera word value place s) read
  kept_camera_part depths CameraPart.Move camera at r s read =
      kept_then (λ b. IsSoundCamera b.value) read (λ moved is_moved is.
      kept_same IsSoundCamera _ moved.next r (record { location = s.location; direction = s.direction; right = s.right; up = s.up; sky = s.sky; angle = s.angle; aim = s.aim }) is)
  kept_camera_part depths CameraPart.Other camera at r s read = kept_refused IsSoundCamera _ r read

  pub camera_kept : (depths : ℕ) → Keeps IsSoundCamera (IsBlock (camera_kind tokens set) tokens depths)
  camera_kept = kept_block IsSoundCamera (camera_kind tokens set) tokens (λ depths led camera at r s read. kept_same IsSoundCamera camera at r s read) (λ depths camera at r s read. kept_camera_part depths _ camera at r s read)
