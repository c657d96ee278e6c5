-- Cameras: what is said of them. (Reference manual, camera)
use Rattle.std.specs.Prelude.{◌≡◌, ℕ, ◌+◌, pos, Bool, true, false, List, [], ◌∷◌, slice_index_or, Option, Some, None, Result, Ok, Err}
use Rattle.scene_lexer.specs.declared.token.Place.{Place}
use Rattle.scene_lexer.specs.declared.token.Token.{Token}
use Rattle.scene_expr.specs.declared.value.Settings.{Settings}
use Rattle.scene_expr.specs.declared.value.Value.{Value}
use Rattle.scene_expr.specs.Then.{IsThen, Is}
use Rattle.xform.specs.declared.transform.Xform.{Xform}
use Rattle.xform.specs.Transforms.{start_of}
use Rattle.item_blocks.specs.declared.fault.ParseFault.{ParseFault}
use Rattle.item_blocks.specs.declared.fault.Wanted.{Wanted}
use Rattle.item_blocks.specs.declared.words.BlockWord.{BlockWord}
use Rattle.item_blocks.specs.declared.words.CameraFlag.{CameraFlag}
use Rattle.item_blocks.specs.declared.words.CameraParameter.{CameraParameter}
use Rattle.item_blocks.specs.declared.words.CameraWord.{CameraWord}
use Rattle.item_blocks.specs.declared.words.Word.{Word}
use Rattle.item_blocks.specs.Tokens.{word_at, unfit_at, Behind}
use Rattle.item_blocks.specs.Parameters.{point_of, float_of, IsParameter}
use Rattle.item_blocks.specs.Steps.{IsMovedIn}
use Rattle.item_blocks.specs.Blocks.{Statement, Kind, IsNothing}
use Rattle.item_blocks.specs.Finishes.{on_ok}
use Rattle.view_blocks.specs.declared.camera.CameraDraft.{CameraDraft}
use Rattle.view_blocks.specs.declared.camera.CameraPart.{CameraPart}
use Rattle.view_blocks.specs.Lamps.{corner}

-- ---- meaning

-- a camera of which nothing is said: at the origin, direction z right <1.33, 0, 0> up y sky y
abbrev pub plain_camera : CameraDraft
plain_camera = record {
  orthographic = false;
  location = corner (pos 0);
  direction = corner (pos 65536);
  right = record { x = pos 87163; y = pos 0; z = pos 0 };
  up = record { x = pos 0; y = pos 65536; z = pos 0 };
  sky = record { x = pos 0; y = pos 65536; z = pos 0 };
  angle = None;
  look_at = None;
  xform = start_of;
}

abbrev pub flagged_camera : CameraDraft → CameraFlag → CameraDraft
flagged_camera camera CameraFlag.Perspective = record camera { orthographic = false }
flagged_camera camera CameraFlag.Orthographic = record camera { orthographic = true }

-- what a word of a camera makes of the value behind it: coordinates to 4096 units, an angle above 0 and below 180 degrees
abbrev pub camera_with : CameraDraft → CameraParameter → Value → Place → Result CameraDraft ParseFault
camera_with camera CameraParameter.Location value place = on_ok (point_of value place) (λ v. record camera { location = v })
camera_with camera CameraParameter.Direction value place = on_ok (point_of value place) (λ v. record camera { direction = v })
camera_with camera CameraParameter.Right value place = on_ok (point_of value place) (λ v. record camera { right = v })
camera_with camera CameraParameter.Up value place = on_ok (point_of value place) (λ v. record camera { up = v })
camera_with camera CameraParameter.Sky value place = on_ok (point_of value place) (λ v. record camera { sky = v })
camera_with camera CameraParameter.Angle value place = on_ok (float_of (pos 1) (pos 11796479) value place) (λ a. record camera { angle = Some a })
camera_with camera CameraParameter.LookAt value place = on_ok (point_of value place) (λ v. record camera { look_at = Some (record { at = v; place = place }) })

-- ---- grammar

abbrev pub camera_part : Option Word → CameraPart
camera_part (Some (Word.Camera (CameraWord.Flag flag))) = CameraPart.Flag flag
camera_part (Some (Word.Camera (CameraWord.Parameter word))) = CameraPart.Parameter word
camera_part (Some (Word.Block BlockWord.Transform)) = CameraPart.Move
camera_part (Some (Word.Step word)) = CameraPart.Move
camera_part other = CameraPart.Other

abbrev pub is_camera_part : CameraPart → Bool
is_camera_part CameraPart.Other = false
is_camera_part part = true

-- a word of a camera with its value, or a step: these are composed, wherever they stand
abbrev pub IsCameraPart : List Token → Settings → ℕ → CameraPart → Statement CameraDraft
IsCameraPart tokens set depths (CameraPart.Flag flag) camera at r = r ≡ Ok (record { value = flagged_camera camera flag; next = at + 1 })
IsCameraPart tokens set depths (CameraPart.Parameter word) camera at r = IsParameter CameraDraft (camera_with camera word) tokens set (at + 1) r
IsCameraPart tokens set depths CameraPart.Move camera at r =
    IsThen (Behind (List Xform)) (Behind CameraDraft) ParseFault (IsMovedIn tokens set depths (camera.xform ∷ []) at) (λ moved.
    Is (Ok (record { value = record camera { xform = slice_index_or moved.value 0 camera.xform }; next = moved.next }))) r
IsCameraPart tokens set depths CameraPart.Other camera at r = r ≡ Err (unfit_at Wanted.CloseBrace tokens at)

abbrev pub is_camera : Option Word → Bool
is_camera (Some (Word.Block BlockWord.Camera)) = true
is_camera other = false

abbrev pub camera_kind : List Token → Settings → Kind CameraDraft
camera_kind tokens set = record {
  leads = is_camera;
  first = λ depths led. IsNothing;
  statement = λ depths camera at r. IsCameraPart tokens set depths (camera_part (word_at tokens at)) camera at r;
  lacks = λ camera. None;
}
