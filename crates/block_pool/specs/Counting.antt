-- Sums over lists, and the bits of the mark words.
use Rattle.std.specs.Prelude.{ℕ, ◌+◌, ◌/◌, ◌%◌, ◌==◌, Bool, true, false, List, [], ◌∷◌, if◌then◌else◌, nat_lt, nat_le}
use Rattle.std.specs.Int.{bit_at}

-- f of each, added up
abbrev pub total : {A : Type 0} → (A → ℕ) → List A → ℕ
total f [] = 0
total f (x ∷ xs) = f x + total f xs

-- how often x stands in the list
abbrev pub times : ℕ → List ℕ → ℕ
times x [] = 0
times x (y ∷ ys) = (if x == y then 1 else 0) + times x ys

-- how many of the numbers are n or more
abbrev pub over : ℕ → List ℕ → ℕ
over n [] = 0
over n (y ∷ ys) = (if nat_le n y then 1 else 0) + over n ys

-- 1 for a number below n, else 0
abbrev pub once_below : ℕ → ℕ → ℕ
once_below x n = if nat_lt x n then 1 else 0

abbrev pub weight : Bool → ℕ
weight true = 1
weight false = 0

-- 1 where the bit of the number x is set, 0 where it isn't: 64 numbers a word
abbrev pub mark_in : (ℕ → ℕ) → ℕ → ℕ
mark_in word x = bit_at (word (x / 64)) (x % 64)
