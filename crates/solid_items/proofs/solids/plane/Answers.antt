use Rattle.solid_items.proofs.Sound.{plane_sound}
use Rattle.std.proofs.Common.{refl}
use Rattle.item_blocks.specs.ReadingLaws.{exit}
use Rattle.scene_expr.specs.Then.{IsThen}
use Rattle.solid_items.proofs.Sizes.{other_same}
use Rattle.solid_items.proofs.solids.plane.Goals as goal

pub returns-in_err-normal-clause-fault : goal.returns-in_err-normal-clause-fault
returns-in_err-normal-clause-fault c = exit _ _ _ c.from_residual.ensures.1 (λ some. IsThen.fault _ (other_same _ _ _ _ _ _ c.origin.ensures (c.in_err-normal.ensures.fault some)))

pub returns-in_err-d-clause-fault : goal.returns-in_err-d-clause-fault
returns-in_err-d-clause-fault c = exit _ _ _ c.from_residual-in_err-d.ensures.1 (λ some. IsThen.found _ _ (other_same _ _ _ _ _ _ c.origin.ensures c.in_ok-normal.ensures.found) (IsThen.fault _ (c.in_err-d.ensures.fault some)))

pub returns-clause-found : goal.returns-clause-found
returns-clause-found c = IsThen.found _ _ (other_same _ _ _ _ _ _ c.origin.ensures c.in_ok-normal.ensures.found) (IsThen.found _ _ c.in_ok-d.ensures.found (rw (c.identity_frame.ensures.value, c.unit.ensures.value, c.origin-2.ensures) refl))

pub returns-clause-sound : goal.returns-clause-sound
returns-clause-sound c = plane_sound _ _ _ c.identity_frame.ensures.small _ _ _ c.identity_frame.ensures.value c.unit.ensures.value c.in_ok-d.ensures.small
