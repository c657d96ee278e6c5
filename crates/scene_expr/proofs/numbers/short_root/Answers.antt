use Rattle.std.proofs.Common.{ℕ, ◌*◌, ◌<◌, ◌≤◌, arith}
use Rattle.scene_expr.proofs.numbers.short_root.Goals as goal

root_small : (r n : ℕ) → r * r ≤ n → n < 18446744073709551616 → r < 4294967296
root_small r n h k = grind arith

pub returns-clause-small : goal.returns-clause-small
returns-clause-small c = root_small c.isqrt.result _ c.isqrt.ensures.least (omega arith)
