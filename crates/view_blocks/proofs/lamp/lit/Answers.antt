use Rattle.std.proofs.Common.{ℤ, List}
use Rattle.scene_expr.specs.Then.{IsThen}
use Rattle.item_blocks.specs.Tokens.{behind_comma}
use Rattle.item_blocks.specs.Parameters.{light_of}
use Rattle.item_blocks.specs.ReadingLaws.{exit, at_same}
use Rattle.view_blocks.proofs.Lamps.{lit_same}
use Rattle.view_blocks.proofs.lamp.lit.Goals as goal

pub returns-in_err-v-clause-fault : goal.returns-in_err-v-clause-fault
returns-in_err-v-clause-fault c = exit _ _ _ c.from_residual.ensures.1 (λ some. IsThen.fault _ (c.in_err-v.ensures.fault some))

pub returns-in_err-colour-clause-fault : goal.returns-in_err-colour-clause-fault
returns-in_err-colour-clause-fault c =
    exit _ _ _ c.from_residual-in_err-colour.ensures.1 (λ some. IsThen.found _ _ c.in_ok-v.ensures.found (IsThen.fault _ (at_same (List ℤ) light_of c.args.tokens.now c.args.set.now c.behind_comma.result (behind_comma c.args.tokens.now c.in_ok-v.comma) _ c.behind_comma.ensures.value (c.in_err-colour.ensures.fault some))))

pub returns-clause-found : goal.returns-clause-found
returns-clause-found c =
    IsThen.found _ _ c.in_ok-v.ensures.found (IsThen.found _ _ (at_same (List ℤ) light_of c.args.tokens.now c.args.set.now c.behind_comma.result (behind_comma c.args.tokens.now c.in_ok-v.comma) _ c.behind_comma.ensures.value c.in_ok-colour.ensures.found) (lit_same c.args.lamp.now _ _ _ _ _ c.place_at-lamp.ensures))
