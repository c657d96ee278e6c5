-- A part of a picture's side is no longer than the side.
use Rattle.std.proofs.Common.{ℕ, zero, suc, ℤ, pos, ◌+ℤ◌, ◌*ℤ◌, ◌*◌, ◌^◌, ◌≤◌, ◌<◌, unsigned_abs, arith}
use Rattle.std.proofs.lemmas.Int.{ints}
use Rattle.fix_math.specs.Floor.{rnd_within}
use Rattle.fix_math.specs.Numbers.{rnd}
use Rattle.fix_math.specs.Order.{mul-within}

pub share_small : (side place : ℤ) (parts : ℕ) → unsigned_abs side ≤ 2 ^ 36 → unsigned_abs place < parts → unsigned_abs (rnd (side *ℤ place) (pos (2 * parts))) ≤ 2 ^ 36
share_small side place parts h k =
    rnd_within (side *ℤ place) (2 * parts) (2 ^ 36) (omega arith) (omega (arith, mul-within side place (2 ^ 36) parts h (omega arith)))

-- a part of a pixel is in the picture
pub finer_small : (pixel part : ℤ) (size n : ℕ) → unsigned_abs pixel < size → unsigned_abs part < n → unsigned_abs (pixel *ℤ pos n +ℤ part) < size * n
finer_small pixel part zero n h k = absurd (omega arith)
finer_small pixel part (suc m) n h k = omega (arith, ints, mul-within pixel (pos n) m n (omega arith) (omega (arith, ints)))
