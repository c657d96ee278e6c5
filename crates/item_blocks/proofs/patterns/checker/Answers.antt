use Rattle.std.proofs.Common.{refl}
use Rattle.scene_expr.specs.Then.{IsThen}
use Rattle.item_blocks.specs.Pigments.{blue, green}
use Rattle.item_blocks.specs.ReadingLaws.{exit}
use Rattle.item_blocks.proofs.Colours.{two_of}
use Rattle.item_blocks.proofs.patterns.checker.Goals as goal

pub returns-in_err-colours-clause-fault : goal.returns-in_err-colours-clause-fault
returns-in_err-colours-clause-fault c = exit _ _ _ c.from_residual.ensures.1 (λ some. IsThen.fault _ (two_of c.args.tokens.now c.args.set.now c.blue.result c.green.result blue green c.args.at _ c.blue.ensures c.green.ensures (c.in_err-colours.ensures.fault some)))

pub returns-clause-found : goal.returns-clause-found
returns-clause-found c = IsThen.found _ _ (two_of c.args.tokens.now c.args.set.now c.blue.result c.green.result blue green c.args.at _ c.blue.ensures c.green.ensures c.in_ok-colours.ensures.found) refl
