use Rattle.std.proofs.Common.{refl}
use Rattle.item_blocks.specs.ReadingLaws.{exit}
use Rattle.scene_expr.specs.Then.{IsThen}
use Rattle.solid_items.proofs.Sizes.{place_same}
use Rattle.solid_items.specs.Sheets.{IsNormal}
use Rattle.solid_items.proofs.triangles.smooth_corner.Goals as goal

pub returns-in_err-point-clause-fault : goal.returns-in_err-point-clause-fault
returns-in_err-point-clause-fault c = exit _ _ _ c.from_residual.ensures.1 (λ some. IsThen.fault _ (c.in_err-point.ensures.fault some))

pub returns-in_err-normal-clause-fault : goal.returns-in_err-normal-clause-fault
returns-in_err-normal-clause-fault c = exit _ _ _ c.from_residual-in_err-normal.ensures.1 (λ some. IsThen.found _ _ c.in_ok-point.ensures.found (IsThen.fault _ (place_same (IsNormal c.args.tokens.now c.args.set.now) _ _ _ c.behind_comma-normal_at.ensures.value (c.in_err-normal.ensures.fault some))))

pub returns-clause-found : goal.returns-clause-found
returns-clause-found c = IsThen.found _ _ c.in_ok-point.ensures.found (IsThen.found _ _ (place_same (IsNormal c.args.tokens.now c.args.set.now) _ _ _ c.behind_comma-normal_at.ensures.value c.in_ok-normal.ensures.found) (rw c.behind_comma-normal_at.ensures.value refl))
