use Rattle.solid_items.proofs.Sound.{cylinder_sound}
use Rattle.solid_items.proofs.Made.{cylinder_is}
use Rattle.item_blocks.specs.ReadingLaws.{exit}
use Rattle.scene_expr.specs.Then.{IsThen}
use Rattle.solid_items.proofs.solids.cylinder.Goals as goal

pub returns-in_err-a-clause-fault : goal.returns-in_err-a-clause-fault
returns-in_err-a-clause-fault c = exit _ _ _ c.from_residual.ensures.1 (λ some. IsThen.fault _ (c.in_err-a.ensures.fault some))

pub returns-in_err-b-clause-fault : goal.returns-in_err-b-clause-fault
returns-in_err-b-clause-fault c = exit _ _ _ c.from_residual-in_err-b.ensures.1 (λ some. IsThen.found _ _ c.in_ok-a.ensures.found (IsThen.fault _ (c.in_err-b.ensures.fault some)))

pub returns-in_err-r-clause-fault : goal.returns-in_err-r-clause-fault
returns-in_err-r-clause-fault c = exit _ _ _ c.from_residual-in_err-r.ensures.1 (λ some. IsThen.found _ _ c.in_ok-a.ensures.found (IsThen.found _ _ c.in_ok-b.ensures.found (IsThen.fault _ (c.in_err-r.ensures.fault some))))

pub returns-clause-found : goal.returns-clause-found
returns-clause-found c = IsThen.found _ _ c.in_ok-a.ensures.found (IsThen.found _ _ c.in_ok-b.ensures.found (IsThen.found _ _ c.in_ok-r.ensures.found (cylinder_is _ _ _ _ _ _ _ _ _ c.axis_frame.ensures.value c.height.ensures.value c.way-way.ensures.value c.opening-uncapped.ensures.value)))

pub returns-clause-sound : goal.returns-clause-sound
returns-clause-sound c = cylinder_sound _ _ _ c.axis_frame.ensures.small _ _ _ _ c.axis_frame.ensures.value c.in_ok-r.ensures.amount c.height.ensures.height
