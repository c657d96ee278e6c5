-- Cameras whose parts are equal.
use Rattle.std.proofs.Common.{◌≡◌, ℕ, Result, Ok, ap}
use Rattle.xform.specs.declared.transform.Xform.{Xform}
use Rattle.item_blocks.specs.declared.fault.ParseFault.{ParseFault}
use Rattle.item_blocks.specs.Tokens.{Behind, behind}
use Rattle.view_blocks.specs.declared.camera.CameraDraft.{CameraDraft}

pub shifted_camera : (camera : CameraDraft) (x y : Xform) (next : ℕ) → x ≡ y → ◌≡◌ {A = Result (Behind CameraDraft) ParseFault} (Ok (record { value = record camera { xform = x }; next = next })) (Ok (record { value = record camera { xform = y }; next = next }))
shifted_camera camera x y next is = ap (λ z. behind (Ok (record camera { xform = z })) next) is
