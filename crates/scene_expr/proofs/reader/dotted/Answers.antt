use Rattle.std.proofs.Common.{◌≡◌, Err, nat_eq, true, false, arith}
use Rattle.scene_expr.specs.Grammar.{IsDotted}
use Rattle.scene_expr.specs.Heads.{sign_at}
use Rattle.scene_expr.specs.Steps.{read}
use Rattle.scene_expr.proofs.Levels.{exit}
use Rattle.scene_expr.proofs.reader.dotted.Goals as goal

pub returns-in_err-with_component-clause-fault : goal.returns-in_err-with_component-clause-fault
returns-in_err-with_component-clause-fault c =
    let dot : nat_eq (sign_at c.args.tokens.now c.dots.next) 46 ≡ true = grind arith in
    exit (λ f. IsDotted c.args.tokens.now (read c.args.value.now c.args.at) (Err f)) _ c.from_residual.result c.from_residual.ensures.1
    (c.dots.invariant.0 _ (IsDotted.stops _ _ dot c.in_err-with_component.ensures.fault))

pub dots-preserved : goal.dots-preserved
dots-preserved c =
    let dot : nat_eq (sign_at c.args.tokens.now c.dots.next) 46 ≡ true = grind arith in
    ((λ r rest. c.dots.invariant.0 r (IsDotted.further _ _ r dot c.in_ok-with_component.ensures.ok rest)), omega (arith, c.dots.invariant.1), c.in_ok-with_component.ensures.within)

pub returns-clause-found : goal.returns-clause-found
returns-clause-found c =
    let none : nat_eq (sign_at c.args.tokens.now c.dots.next) 46 ≡ false = grind arith in
    c.dots.invariant.0 _ (IsDotted.ends _ none)
