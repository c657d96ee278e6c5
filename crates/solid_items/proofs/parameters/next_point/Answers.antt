use Rattle.solid_items.specs.Solids.{IsPoint}
use Rattle.solid_items.proofs.Sizes.{place_same}
use Rattle.item_blocks.specs.ReadingLaws.{exit}
use Rattle.solid_items.proofs.parameters.next_point.Goals as goal

pub returns-in_err-v-clause-fault : goal.returns-in_err-v-clause-fault
returns-in_err-v-clause-fault c = exit _ _ _ c.from_residual.ensures.1 (λ some. place_same (IsPoint c.args.tokens.now c.args.set.now) _ _ _ c.behind_comma.ensures.value (c.in_err-v.ensures.fault some))

pub returns-clause-found : goal.returns-clause-found
returns-clause-found c = place_same (IsPoint c.args.tokens.now c.args.set.now) _ _ _ c.behind_comma.ensures.value c.in_ok-v.ensures.found
