use Rattle.std.proofs.Common.{◌<◌, ◌-◌, Ok, refl, subst, sym, arith}
use Rattle.scene_expr.specs.Grammar.{IsFactor}
use Rattle.scene_expr.specs.Steps.{at_depths, read}
use Rattle.scene_expr.specs.declared.value.Value.{Value}
use Rattle.scene_expr.proofs.Directly.{negative_factor}
use Rattle.scene_expr.proofs.short.negative_at.Goals as goal

pub returns-clause-found : goal.returns-clause-found
returns-clause-found c =
    let some : 0 < c.args.depths = omega (arith, c.if-depths-eq0.false) in
    λ set. subst (λ number. at_depths IsFactor c.args.tokens.now set c.args.depths c.args.at (Ok (read (Value.Float number) c.in_ok-value.field-0.next))) (sym c.negated.ensures)
    (negative_factor c.args.tokens.now set c.args.depths c.args.at c.in_ok-value.field-0.next c.in_ok-value.field-0.value some (c.if-not-is_minus.ensures.head refl) (c.in_ok-value.ensures.found set (c.args.depths - 1)) c.in_ok-value.ensures.undotted)
