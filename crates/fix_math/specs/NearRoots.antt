-- Numbers less than 1 from a root, from which one division gives twice as many digits of it.
use Rattle.std.specs.Prelude.{ℕ, ◌+◌, ◌*◌, ◌<◌}

-- a differs from the root of m by less than 1: the square of a - 1 is below m, and that of a + 1 above it
pub record IsNearRoot (m a : ℕ) : Type 0 where
  pub low : a * a + 1 < m + 2 * a
  pub high : m < (a + 1) * (a + 1)
