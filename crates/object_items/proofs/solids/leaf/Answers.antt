use Rattle.std.proofs.Common.{Some, false, refl, ap, ◌∙◌}
use Rattle.std.proofs.lemmas.Result.{IfOk-weaker, IfErr-weaker}
use Rattle.scene_expr.specs.Then.{IsThen}
use Rattle.item_blocks.specs.ReadingLaws.{exit}
use Rattle.object_items.specs.Trees.{Tree}
use Rattle.object_items.proofs.Shapes.{leaf_tree}
use Rattle.object_items.proofs.Wholes.{ended_same}
use Rattle.object_items.proofs.solids.leaf.Goals as goal

pub returns-in_err-solid-clause-fault : goal.returns-in_err-solid-clause-fault
returns-in_err-solid-clause-fault c = exit _ _ _ c.from_residual.ensures.1 (λ some. IsThen.fault _ (c.in_err-solid.ensures.fault some))

pub returns-clause-found : goal.returns-clause-found
returns-clause-found c =
    IfOk-weaker c.ended.result _ _ (λ found is. IsThen.found _ _ c.in_ok-solid.ensures.found
    (ended_same c.args.tokens.now c.args.set.now _ _ _ _ _ _ _ _ false false _ _ c.marks-marks.ensures (ap (λ t. Some t) (leaf_tree c.leaf_number.result ∙ ap Tree.leaf c.leaf_number.ensures)) refl c.in_ok-add_leaf.ensures.found is)) c.ended.ensures.found

pub returns-clause-fault : goal.returns-clause-fault
returns-clause-fault c =
    IfErr-weaker c.ended.result _ _ (λ f fault some. IsThen.found _ _ c.in_ok-solid.ensures.found
    (ended_same c.args.tokens.now c.args.set.now _ _ _ _ _ _ _ _ false false _ _ c.marks-marks.ensures (ap (λ t. Some t) (leaf_tree c.leaf_number.result ∙ ap Tree.leaf c.leaf_number.ensures)) refl c.in_ok-add_leaf.ensures.found (fault some))) c.ended.ensures.fault
