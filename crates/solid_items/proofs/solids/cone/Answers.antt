use Rattle.solid_items.proofs.Sound.{cone_sound}
use Rattle.solid_items.proofs.Made.{cone_is}
use Rattle.item_blocks.specs.ReadingLaws.{exit}
use Rattle.scene_expr.specs.Then.{IsThen}
use Rattle.solid_items.proofs.solids.cone.Goals as goal

pub returns-in_err-a-clause-fault : goal.returns-in_err-a-clause-fault
returns-in_err-a-clause-fault c = exit _ _ _ c.from_residual.ensures.1 (λ some. IsThen.fault _ (c.in_err-a.ensures.fault some))

pub returns-in_err-ra-clause-fault : goal.returns-in_err-ra-clause-fault
returns-in_err-ra-clause-fault c = exit _ _ _ c.from_residual-in_err-ra.ensures.1 (λ some. IsThen.found _ _ c.in_ok-a.ensures.found (IsThen.fault _ (c.in_err-ra.ensures.fault some)))

pub returns-in_err-b-clause-fault : goal.returns-in_err-b-clause-fault
returns-in_err-b-clause-fault c = exit _ _ _ c.from_residual-in_err-b.ensures.1 (λ some. IsThen.found _ _ c.in_ok-a.ensures.found (IsThen.found _ _ c.in_ok-ra.ensures.found (IsThen.fault _ (c.in_err-b.ensures.fault some))))

pub returns-in_err-rb-clause-fault : goal.returns-in_err-rb-clause-fault
returns-in_err-rb-clause-fault c = exit _ _ _ c.from_residual-in_err-rb.ensures.1 (λ some. IsThen.found _ _ c.in_ok-a.ensures.found (IsThen.found _ _ c.in_ok-ra.ensures.found (IsThen.found _ _ c.in_ok-b.ensures.found (IsThen.fault _ (c.in_err-rb.ensures.fault some)))))

pub returns-clause-found : goal.returns-clause-found
returns-clause-found c = IsThen.found _ _ c.in_ok-a.ensures.found (IsThen.found _ _ c.in_ok-ra.ensures.found (IsThen.found _ _ c.in_ok-b.ensures.found (IsThen.found _ _ c.in_ok-rb.ensures.found (cone_is _ _ _ _ _ _ _ _ _ _ _ c.axis_frame.ensures.value c.height.ensures.value c.unit.ensures.value c.way-way.ensures.value c.opening-uncapped.ensures.value))))

pub returns-clause-sound : goal.returns-clause-sound
returns-clause-sound c = cone_sound _ _ _ c.axis_frame.ensures.small _ _ _ _ _ _ c.axis_frame.ensures.value c.axis_frame.ensures.axis c.unit.ensures.value c.in_ok-ra.ensures.amount c.in_ok-rb.ensures.amount c.height.ensures.height
