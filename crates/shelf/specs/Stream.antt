-- What a sink has taken, where it tells that.
use Rattle.std.specs.Prelude.{ℕ, ◌<◌, ◌≤◌, ◌≡◌, List, ◌++◌, length, take, Option, option_map}

-- the bytes with further ones behind them
abbrev pub with_bytes : Option (List ℕ) → List ℕ → Option (List ℕ)
with_bytes told more = option_map (λ bytes. bytes ++ more) told

-- a proper prefix of these bytes was appended
pub record GrewByLess (before now : Option (List ℕ)) (bytes : List ℕ) : Type 0 where
  pub count : ℕ
  pub within : count < length bytes
  pub grown : now ≡ with_bytes before (take count bytes)

-- a prefix of these bytes was appended, maybe all of them
pub record GrewByFront (before now : Option (List ℕ)) (bytes : List ℕ) : Type 0 where
  pub count : ℕ
  pub within : count ≤ length bytes
  pub grown : now ≡ with_bytes before (take count bytes)
