use Rattle.solid_items.proofs.Sound.{box_sound}
use Rattle.std.proofs.Common.{refl}
use Rattle.item_blocks.specs.ReadingLaws.{exit}
use Rattle.scene_expr.specs.Then.{IsThen}
use Rattle.solid_items.proofs.solids.cuboid.Goals as goal

pub returns-in_err-a-clause-fault : goal.returns-in_err-a-clause-fault
returns-in_err-a-clause-fault c = exit _ _ _ c.from_residual.ensures.1 (λ some. IsThen.fault _ (c.in_err-a.ensures.fault some))

pub returns-in_err-b-clause-fault : goal.returns-in_err-b-clause-fault
returns-in_err-b-clause-fault c = exit _ _ _ c.from_residual-in_err-b.ensures.1 (λ some. IsThen.found _ _ c.in_ok-a.ensures.found (IsThen.fault _ (c.in_err-b.ensures.fault some)))

pub returns-clause-found : goal.returns-clause-found
returns-clause-found c = IsThen.found _ _ c.in_ok-a.ensures.found (IsThen.found _ _ c.in_ok-b.ensures.found (rw (c.identity_frame.ensures.value, c.sides.ensures.value, c.lower_corner.ensures) refl))

pub returns-clause-sound : goal.returns-clause-sound
returns-clause-sound c = box_sound _ _ _ c.identity_frame.ensures.small _ c.identity_frame.ensures.value c.sides.ensures.amounts
