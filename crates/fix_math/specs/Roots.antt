-- The root of a natural.
use Rattle.std.specs.Prelude.{ℕ, zero, suc, ◌+◌, ◌*◌, nat_le, if◌then◌else◌}

-- the floor of the root of n: it grows by one at each square
unfoldable pub root : ℕ → ℕ
root zero = 0
root (suc n) = let before = root n in if nat_le ((before + 1) * (before + 1)) (suc n) then before + 1 else before
