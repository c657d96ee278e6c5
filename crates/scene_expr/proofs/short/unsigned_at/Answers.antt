use Rattle.std.proofs.Common.{◌≡◌, ◌+◌, nat_eq, false, arith}
use Rattle.scene_expr.specs.Heads.{sign_at}
use Rattle.scene_expr.proofs.Directly.{number_factor}
use Rattle.scene_expr.proofs.short.unsigned_at.Goals as goal

pub returns-clause-found : goal.returns-clause-found
returns-clause-found c =
    let undotted : nat_eq (sign_at c.args.tokens.now (c.args.at + 1)) 46 ≡ false = grind arith in
    λ set depths. number_factor c.args.tokens.now set depths c.args.at c.in_ok-value.value c.in_ok-value.ensures.head undotted
