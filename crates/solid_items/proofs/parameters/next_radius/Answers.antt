use Rattle.solid_items.specs.Solids.{IsRadius, radius_of}
use Rattle.solid_items.proofs.Sizes.{place_same, kept_parameter, kept_radius}
use Rattle.std.proofs.Common.{ℤ}
use Rattle.scene_model.specs.Amounts.{IsAmount}
use Rattle.item_blocks.specs.ReadingLaws.{exit}
use Rattle.solid_items.proofs.parameters.next_radius.Goals as goal

pub returns-in_err-radius-clause-fault : goal.returns-in_err-radius-clause-fault
returns-in_err-radius-clause-fault c = exit _ _ _ c.from_residual.ensures.1 (λ some. place_same (IsRadius c.args.tokens.now c.args.set.now) _ _ _ c.behind_comma.ensures.value (c.in_err-radius.ensures.fault some))

pub returns-clause-found : goal.returns-clause-found
returns-clause-found c = place_same (IsRadius c.args.tokens.now c.args.set.now) _ _ _ c.behind_comma.ensures.value c.in_ok-radius.ensures.found

pub returns-clause-amount : goal.returns-clause-amount
returns-clause-amount c = kept_parameter ℤ radius_of (IsAmount 268435456) kept_radius c.args.tokens.now c.args.set.now _ _ c.in_ok-radius.ensures.found
