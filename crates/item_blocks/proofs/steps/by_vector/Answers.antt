use Rattle.scene_expr.specs.Then.{IsThen}
use Rattle.item_blocks.specs.ReadingLaws.{exit, same_value}
use Rattle.item_blocks.proofs.steps.by_vector.Goals as goal

pub returns-in_err-v-clause-fault : goal.returns-in_err-v-clause-fault
returns-in_err-v-clause-fault c = exit _ _ _ c.from_residual.ensures.1 (λ some. IsThen.fault _ (c.in_err-v.ensures.fault some))

pub returns-clause-found : goal.returns-clause-found
returns-clause-found c = IsThen.found _ _ c.in_ok-v.ensures.found (same_value _ _ _ c.vector_step.ensures)
