use Rattle.std.proofs.Common.{ℕ, ◌≡◌, ◌<◌, Some, None, refl, subst}
use Rattle.scene_expr.specs.Grammar.{tier_operator}
use Rattle.scene_expr.specs.Steps.{read}
use Rattle.scene_expr.specs.declared.value.Value.{Value}
use Rattle.scene_expr.proofs.Directly.{one_factor, two_factors}
use Rattle.scene_expr.proofs.short.short.Goals as goal

pub returns-then-ends-clause-found : goal.returns-then-ends-clause-found
returns-then-ends-clause-found c =
    λ set. one_factor c.args.tokens.now set c.args.depths c.args.level c.args.at (read (Value.Float c.in_ok-left.left.value) c.in_ok-left.left.next) (c.in_ok-left.ensures.found set) (c.if-ends.ensures.alone refl) (c.if-ends.ensures.unasked refl)

pub returns-clause-found : goal.returns-clause-found
returns-clause-found c =
    let sign = subst (λ sign. tier_operator c.in_ok-between.between.tier sign ≡ Some c.in_ok-between.between.operator) c.sign_at.ensures c.in_ok-between.ensures.found.1 in
    let before = subst (λ sign. (tier : ℕ) → tier < c.in_ok-between.between.tier → tier_operator tier sign ≡ None) c.sign_at.ensures c.in_ok-between.ensures.found.2 in
    λ set. two_factors c.args.tokens.now set c.args.depths c.args.level c.args.at c.in_ok-between.between.tier (read (Value.Float c.in_ok-left.left.value) c.in_ok-left.left.next) (read (Value.Float c.in_ok-right.right.value) c.in_ok-right.right.next) c.in_ok-between.between.operator (Value.Float c.in_ok-made.made)
    c.in_ok-between.ensures.found.0 before sign (c.if-not-ends.ensures.alone refl) (c.if-not-ends.ensures.unasked refl) (c.in_ok-left.ensures.found set) (c.in_ok-right.ensures.found set) c.in_ok-made.ensures
