-- Lines of bytes a stride apart.
use Rattle.std.specs.Prelude.{ℕ, ◌+◌, ◌*◌, ◌<◌, ◌≡◌, ◌≢◌, List, slice_index}

-- byte q of line r lies at its place, and what lies in no line is as it was
pub record LaysLines (start stride line count : ℕ) (bytes old new : List ℕ) : Type 0 where
  pub lines : (r q : ℕ) → r < count → q < line → slice_index new (start + stride * r + q) ≡ slice_index bytes (line * r + q)
  pub others : (k : ℕ) → ((r q : ℕ) → r < count → q < line → k ≢ start + stride * r + q) → slice_index new k ≡ slice_index old k
