-- A lamp and a camera come to one outcome: each way to read them does, where their parts do.
use Rattle.std.specs.Prelude.{ℕ, ◌+◌, ℤ, Bool, true, false, List, [], ◌∷◌}
use Rattle.fix_math.specs.declared.fix.V3.{V3}
use Rattle.scene_lexer.specs.declared.token.Token.{Token}
use Rattle.scene_expr.specs.declared.value.Settings.{Settings}
use Rattle.scene_expr.specs.Then.{IsOne, one_is, one_then}
use Rattle.item_blocks.specs.Tokens.{behind_comma}
use Rattle.item_blocks.specs.Parameters.{any_vector_of, light_of}
use Rattle.item_blocks.specs.Blocks.{IsBlock}
use Rattle.item_blocks.specs.OneBlock.{IsOneStatement, one_block, one_parameter, one_moved}
use Rattle.view_blocks.specs.declared.camera.CameraDraft.{CameraDraft}
use Rattle.view_blocks.specs.declared.camera.CameraPart.{CameraPart}
use Rattle.view_blocks.specs.declared.lamp.LampDraft.{LampDraft}
use Rattle.view_blocks.specs.declared.lamp.LampPart.{LampPart}
use Rattle.view_blocks.specs.Cameras.{plain_camera, camera_with, IsCameraPart, camera_kind}
use Rattle.view_blocks.specs.Lamps.{plain_lamp, lamp_with, IsLit, IsLampPart, lamp_kind}
use Rattle.view_blocks.specs.Lights.{IsLampItem}
use Rattle.view_blocks.specs.Views.{IsCameraItem}

module _ (tokens : List Token) (set : Settings) where
  -- ---- lamps

  one_lit : (led : Bool) → IsOneStatement (IsLit tokens set led)
  one_lit true lamp at = one_is _
  one_lit false lamp at = one_then (one_parameter tokens set V3 any_vector_of at) (λ v. one_then (one_parameter tokens set (List ℤ) light_of (behind_comma tokens v.next)) (λ colour. one_is _))

  one_lamp_part : (depths : ℕ) (part : LampPart) → IsOneStatement (IsLampPart tokens set depths part)
  one_lamp_part depths (LampPart.Flag flag) lamp at = one_is _
  one_lamp_part depths (LampPart.Parameter word) lamp at = one_parameter tokens set LampDraft (lamp_with lamp word) (at + 1)
  one_lamp_part depths LampPart.Move lamp at = one_then (one_moved tokens set depths (lamp.xform ∷ []) at) (λ moved. one_is _)
  one_lamp_part depths LampPart.Other lamp at = one_is _

  one_lamp_block : (depths : ℕ) → IsOneStatement (IsBlock (lamp_kind tokens set) tokens depths)
  one_lamp_block = one_block (lamp_kind tokens set) tokens (λ depths led lamp at. one_lit led lamp at) (λ depths lamp at. one_lamp_part depths _ lamp at)

  pub one_lamp : (depths at : ℕ) → IsOne (IsLampItem tokens set depths at)
  one_lamp depths at = one_then (one_lamp_block depths plain_lamp (at + 1)) (λ lamp. one_is _)

  -- ---- cameras

  one_camera_part : (depths : ℕ) (part : CameraPart) → IsOneStatement (IsCameraPart tokens set depths part)
  one_camera_part depths (CameraPart.Flag flag) camera at = one_is _
  one_camera_part depths (CameraPart.Parameter word) camera at = one_parameter tokens set CameraDraft (camera_with camera word) (at + 1)
  one_camera_part depths CameraPart.Move camera at = one_then (one_moved tokens set depths (camera.xform ∷ []) at) (λ moved. one_is _)
  one_camera_part depths CameraPart.Other camera at = one_is _

  one_camera_block : (depths : ℕ) → IsOneStatement (IsBlock (camera_kind tokens set) tokens depths)
  one_camera_block = one_block (camera_kind tokens set) tokens (λ depths led camera at. one_is _) (λ depths camera at. one_camera_part depths _ camera at)

  pub one_camera : (depths at : ℕ) → IsOne (IsCameraItem tokens set depths at)
  one_camera depths at = one_then (one_camera_block depths plain_camera (at + 1)) (λ camera. one_is _)
