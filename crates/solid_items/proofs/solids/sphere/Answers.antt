use Rattle.solid_items.proofs.Sound.{sphere_sound}
use Rattle.std.proofs.Common.{refl}
use Rattle.item_blocks.specs.ReadingLaws.{exit}
use Rattle.scene_expr.specs.Then.{IsThen}
use Rattle.solid_items.proofs.solids.sphere.Goals as goal

pub returns-in_err-centre-clause-fault : goal.returns-in_err-centre-clause-fault
returns-in_err-centre-clause-fault c = exit _ _ _ c.from_residual.ensures.1 (λ some. IsThen.fault _ (c.in_err-centre.ensures.fault some))

pub returns-in_err-r-clause-fault : goal.returns-in_err-r-clause-fault
returns-in_err-r-clause-fault c = exit _ _ _ c.from_residual-in_err-r.ensures.1 (λ some. IsThen.found _ _ c.in_ok-centre.ensures.found (IsThen.fault _ (c.in_err-r.ensures.fault some)))

pub returns-clause-found : goal.returns-clause-found
returns-clause-found c = IsThen.found _ _ c.in_ok-centre.ensures.found (IsThen.found _ _ c.in_ok-r.ensures.found (rw c.identity_frame.ensures.value refl))

pub returns-clause-sound : goal.returns-clause-sound
returns-clause-sound c = sphere_sound _ _ _ c.identity_frame.ensures.small _ c.identity_frame.ensures.value c.in_ok-r.ensures.amount
