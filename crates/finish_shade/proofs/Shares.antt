-- The sizes of products of amounts.
use Rattle.std.proofs.Common.{◌≡◌, ℕ, ℤ, pos, ◌*ℤ◌, ◌≤ℤ◌, ◌*◌, ◌≤◌, unsigned_abs, ap, arith}
use Rattle.std.proofs.lemmas.Int.{ints}
use Rattle.fix_math.specs.Floor.{rnd_within, rnd_not_negative}
use Rattle.fix_math.specs.Numbers.{rnd, product_of}
use Rattle.fix_math.specs.Order.{mul-le_right, mul-within}
use Rattle.scene_model.specs.Amounts.{IsAmount}

pub product-turned : (a b : ℤ) → product_of a b ≡ product_of b a
product-turned a b =
    let turned : a *ℤ b ≡ b *ℤ a = omega (arith, ints) in
    ap (λ (z : ℤ). rnd z (pos 65536)) turned

pub product_within : (a b : ℤ) (m n k : ℕ) → unsigned_abs a ≤ m → unsigned_abs b ≤ n → m * n ≤ k * 65536 → unsigned_abs (product_of a b) ≤ k
product_within a b m n k h j le =
    rnd_within (a *ℤ b) 65536 k (omega arith) (omega (arith, mul-within a b m n h j))

pub product_amount : (a b : ℤ) (m n k : ℕ) → IsAmount m a → IsAmount n b → m * n ≤ k * 65536 → IsAmount k (product_of a b)
product_amount a b m n k h j le = record {
  low = rnd_not_negative (a *ℤ b) (pos 65536) (omega (arith, ints)) (omega (arith, ints, mul-le_right (pos 0) a b j.low h.low));
  high = product_within a b m n k h.high j.high le;
}

-- a share isn't more than the whole
pub share_amount : (part whole : ℤ) → IsAmount 65536 part → pos 0 ≤ℤ whole → IsAmount (unsigned_abs whole) (product_of part whole)
share_amount part whole h k =
    product_amount part whole 65536 (unsigned_abs whole) (unsigned_abs whole) h (record { low = k; high = omega arith }) (omega arith)
