-- Bytes that are drawn part by part.
use Rattle.std.proofs.Common.{◌≡◌, ℕ, ◌+◌, ◌*◌, ◌<◌, ◌≤◌, List, [], ◌++◌, subst, sym, ap, ◌∙◌, append_assoc, append-nil, add-one, arith}
use Rattle.std.proofs.Math.Nat.{mul-le-mul_left}
use Rattle.frame_trace.specs.Pictures.{IsRow}
use Rattle.frame_trace.specs.Ready.{Adds}

pub none_drawn : (IsItem : ℕ → List ℕ → Type 0) (first : ℕ) (old : List ℕ) → Adds (IsRow IsItem first 0) old old
none_drawn IsItem first old = record { bytes = []; are = IsRow.none; added = sym (append-nil old) }

-- one part more
pub more_drawn : (IsItem : ℕ → List ℕ → Type 0) (first n : ℕ) (old mid new : List ℕ) → Adds (IsRow IsItem first n) old mid → Adds (IsItem (first + n)) mid new → Adds (IsRow IsItem first (n + 1)) old new
more_drawn IsItem first n old mid new before part = record {
  bytes = before.bytes ++ part.bytes;
  are = rw add-one (IsRow.more n before.bytes part.bytes before.are part.are);
  added = part.added ∙ (ap (λ xs. xs ++ part.bytes) before.added ∙ append_assoc old before.bytes part.bytes);
}

pub all_drawn : (IsItem : ℕ → List ℕ → Type 0) (first n all : ℕ) (old new : List ℕ) → n ≤ all → all ≤ n → Adds (IsRow IsItem first n) old new → Adds (IsRow IsItem first all) old new
all_drawn IsItem first n all old new low high drawn =
    let Q : ℕ → Type 0 = λ m. Adds (IsRow IsItem first m) old new in let same : n ≡ all = omega arith in subst Q same drawn

-- what n parts of p bytes take
pub room_left : (p k n : ℕ) → k < n → p * k + p ≤ p * n
room_left p k n h = let more : k + 1 ≤ n = omega arith in omega (arith, mul-le-mul_left p more)

pub more_bytes : (p k : ℕ) → p * (k + 1) ≡ p * k + p
more_bytes p k = omega arith
