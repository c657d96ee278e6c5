use Rattle.std.proofs.Common.{sym, ap, ◌∙◌}
use Rattle.scene_expr.specs.Heads.{place_at}
use Rattle.scene_expr.specs.Then.{IsThen}
use Rattle.item_blocks.specs.ReadingLaws.{exit, same_state, behind_value, behind_fault}
use Rattle.view_blocks.specs.Cameras.{plain_camera, camera_kind}
use Rattle.view_blocks.specs.Views.{camera_of}
use Rattle.view_blocks.proofs.Kept.{plain_camera_sound, camera_kept}
use Rattle.view_blocks.proofs.item.read_camera.Goals as goal

pub camera_of-requires : goal.camera_of-requires
camera_of-requires c =
    record { sound = camera_kept c.args.tokens.now c.args.set.now c.args.depths plain_camera _ _ plain_camera_sound (same_state (camera_kind c.args.tokens.now c.args.set.now) _ _ _ _ _ _ c.plain_camera-draft.ensures c.in_ok-next.ensures.found) }

pub returns-in_err-next-clause-fault : goal.returns-in_err-next-clause-fault
returns-in_err-next-clause-fault c =
    exit _ _ _ c.from_residual.ensures.1 (λ some. IsThen.fault _ (same_state (camera_kind c.args.tokens.now c.args.set.now) _ _ _ _ _ _ c.plain_camera-draft.ensures (c.in_err-next.ensures.fault some)))

pub returns-in_err-camera-clause-fault : goal.returns-in_err-camera-clause-fault
returns-in_err-camera-clause-fault c =
    exit _ _ _ c.from_residual-in_err-camera.ensures.1 (λ some. IsThen.found _ _ (same_state (camera_kind c.args.tokens.now c.args.set.now) _ _ _ _ _ _ c.plain_camera-draft.ensures c.in_ok-next.ensures.found) (behind_fault (camera_of (place_at c.args.tokens.now c.args.at) c.braced.new.block) _ c.in_ok-next.next (ap (λ p. camera_of p c.braced.new.block) (sym c.place_at.ensures) ∙ sym c.in_err-camera.ensures.value)))

pub returns-clause-found : goal.returns-clause-found
returns-clause-found c =
    IsThen.found _ _ (same_state (camera_kind c.args.tokens.now c.args.set.now) _ _ _ _ _ _ c.plain_camera-draft.ensures c.in_ok-next.ensures.found) (behind_value (camera_of (place_at c.args.tokens.now c.args.at) c.braced.new.block) _ c.in_ok-next.next (ap (λ p. camera_of p c.braced.new.block) (sym c.place_at.ensures) ∙ sym c.in_ok-camera.ensures.value))
