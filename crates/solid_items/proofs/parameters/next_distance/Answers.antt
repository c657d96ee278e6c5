use Rattle.solid_items.specs.Solids.{IsDistance, distance_of}
use Rattle.solid_items.proofs.Sizes.{place_same, kept_parameter, kept_distance}
use Rattle.std.proofs.Common.{ℤ, ◌≤◌}
use Rattle.std.specs.Prelude.{unsigned_abs}
use Rattle.item_blocks.specs.ReadingLaws.{exit}
use Rattle.solid_items.proofs.parameters.next_distance.Goals as goal

pub returns-in_err-distance-clause-fault : goal.returns-in_err-distance-clause-fault
returns-in_err-distance-clause-fault c = exit _ _ _ c.from_residual.ensures.1 (λ some. place_same (IsDistance c.args.tokens.now c.args.set.now) _ _ _ c.behind_comma.ensures.value (c.in_err-distance.ensures.fault some))

pub returns-clause-found : goal.returns-clause-found
returns-clause-found c = place_same (IsDistance c.args.tokens.now c.args.set.now) _ _ _ c.behind_comma.ensures.value c.in_ok-distance.ensures.found

pub returns-clause-small : goal.returns-clause-small
returns-clause-small c = kept_parameter ℤ distance_of (λ z. unsigned_abs z ≤ 268435456) kept_distance c.args.tokens.now c.args.set.now _ _ c.in_ok-distance.ensures.found
