-- The bytes of a buffer, and what a file over its front reads as.
use Rattle.std.proofs.Common.{◌≡◌, ◌+◌, ◌<◌, ◌≤◌, ℕ, Bool, List, length, take, get_or, max, min, inl, inr, ap, refl, sym, ◌∙◌, arith, length-take}
use Rattle.std.proofs.lemmas.List.{get_or-take, get_or_past}
use Rattle.std.proofs.lemmas.Bool.{cases_lt}
use Rattle.shelf.specs.Picks.{byte_by}
use Rattle.shelf.specs.Disk.{Written, Torn, Cut, Trimmed}

-- a file's front of a buffer, after bytes were written into the buffer
pub written_front : (at len : ℕ) (old new bytes : List ℕ) → len ≤ length old → at ≤ len → at + length bytes ≤ length old → length new ≡ length old
    → ((k : ℕ) → k < at → get_or new k 0 ≡ get_or old k 0)
    → ((k : ℕ) → k < length bytes → get_or new (at + k) 0 ≡ get_or bytes k 0)
    → ((k : ℕ) → at + length bytes ≤ k → get_or new k 0 ≡ get_or old k 0)
    → Written at bytes (take len old) (take (max len (at + length bytes)) new)
written_front at len old new bytes in_old begins fits same below within above = record {
  long = omega (arith, length-take (max len (at + length bytes)) new, length-take len old);
  below = λ k h. let a : get_or (take (max len (at + length bytes)) new) k 0 ≡ get_or new k 0 = get_or-take _ new k 0 (omega arith) in
      let b : get_or (take len old) k 0 ≡ get_or old k 0 = get_or-take len old k 0 (omega arith) in
      let c = below k h in cc;
  within = λ k h. let a : get_or (take (max len (at + length bytes)) new) (at + k) 0 ≡ get_or new (at + k) 0 = get_or-take _ new (at + k) 0 (omega arith) in
      let c = within k h in cc;
  above = λ k h i. let short : k < len = omega (arith, i, length-take len old) in
      let a : get_or (take (max len (at + length bytes)) new) k 0 ≡ get_or new k 0 = get_or-take _ new k 0 (omega arith) in
      let b : get_or (take len old) k 0 ≡ get_or old k 0 = get_or-take len old k 0 (omega arith) in
      let c = above k h in cc;
}

-- a cut that was done is one that was begun
pub trimmed_by_cut : (size : ℕ) (old new : List ℕ) → new ≡ take size old → Trimmed size old new
trimmed_by_cut size old new e =
    let long : length new ≡ min size (length old) = ap length e ∙ length-take size old in
    record {
      no_shorter = omega (arith, long);
      no_longer = omega (arith, long);
      below = λ k h i j. ap (λ l. get_or l k 0) e ∙ get_or-take size old k 0 h;
    }

-- and its result is among what a crash may leave of it
pub left_by_cut : (size : ℕ) (old new : List ℕ) → new ≡ take size old → Cut size old new
left_by_cut size old new e =
    let long : length new ≡ min size (length old) = ap length e ∙ length-take size old in
    record {
      no_shorter = omega (arith, long);
      no_longer = omega (arith, long);
      kept = λ k h. ap (λ l. get_or l k 0) e ∙ get_or-take size old k 0 (omega (arith, h, long));
    }

-- a write that was done is one that was begun
pub torn_by_write : (at : ℕ) (bytes old new : List ℕ) → at ≤ length old → Written at bytes old new → Torn at (length bytes) old new
torn_by_write at bytes old new begins w = record {
  no_shorter = omega (arith, w.long);
  no_longer = omega (arith, w.long);
  below = λ k h i. w.below k h;
  above = λ k h i. w.above k h i;
}

-- nothing of it may be there
pub torn_not_at_all : (at count : ℕ) (c : List ℕ) → Torn at count c c
torn_not_at_all at count c = record { no_shorter = omega arith; no_longer = omega arith; below = λ k a b. refl; above = λ k a b. refl }

pub trimmed_not_at_all : (size : ℕ) (c : List ℕ) → Trimmed size c c
trimmed_not_at_all size c = record { no_shorter = omega arith; no_longer = omega arith; below = λ k a b d. refl }

-- fronts of two lists agree where the lists do
pub same_in_front : (n k : ℕ) (xs ys : List ℕ) → get_or xs k 0 ≡ get_or ys k 0 → get_or (take n xs) k 0 ≡ get_or (take n ys) k 0
same_in_front n k xs ys same = elim (cases_lt k n) [
  | inl lt ↦ get_or-take n xs k 0 lt ∙ same ∙ sym (get_or-take n ys k 0 lt)
  | inr ge ↦ get_or_past (take n xs) k 0 (omega (arith, ge, length-take n xs)) ∙ sym (get_or_past (take n ys) k 0 (omega (arith, ge, length-take n ys)))
]

pub same_byte : (t t' : Bool) (w w' n n' h h' v v' : ℕ) → t ≡ t' → w ≡ w' → n ≡ n' → h ≡ h' → v ≡ v' → byte_by t w n h v ≡ byte_by t' w' n' h' v'
same_byte t t' w w' n n' h h' v v' a b c d e =
    ap (λ x. byte_by x w n h v) a ∙ ap (λ x. byte_by t' x n h v) b ∙ ap (λ x. byte_by t' w' x h v) c ∙ ap (λ x. byte_by t' w' n' x v) d ∙ ap (λ x. byte_by t' w' n' h' x) e
