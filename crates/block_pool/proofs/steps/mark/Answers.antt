use Rattle.std.proofs.Math.Pow.{pow-lt}
use Rattle.std.proofs.Common.{◌*◌, ◌≡◌, ℕ, ◌<◌, ◌%◌, ◌^◌, arith, refl}
use Rattle.block_pool.proofs.Allowed.{mark_allowed}
use Rattle.block_pool.proofs.steps.mark.Goals as goal

one_bit : (k : ℕ) → k < 64 → 1 * 2 ^ k % 18446744073709551616 ≡ 2 ^ k
one_bit k below = let small : 2 ^ k < 2 ^ 64 = pow-lt below in omega arith

pub fetch_or-requires : goal.fetch_or-requires
fetch_or-requires g c = (c.requires.table, omega arith, mark_allowed g.P.Ordered.in_order g.P.Ordered.knows g.P.Ordered.is_tried g.P.Ordered.was_block g.P.Ordered.knew _ _ _ _ _ _ _ _ c.requires.up c.requires.known c.requires.number c.requires.clear c.requires.mine refl (one_bit (c.args.i % 64) (omega arith)))
