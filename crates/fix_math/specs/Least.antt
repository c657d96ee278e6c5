-- The least number that passes a test.
use Rattle.std.specs.Prelude.{◌≡◌, ℕ, zero, suc, ◌≤◌, ◌<◌, Bool, true, false, if◌then◌else◌, refl}
use Rattle.std.proofs.Common.{arith, cond, sym, ◌∙◌, ap, ⊎_elim}
use Rattle.std.proofs.lemmas.Bool.{cases_lt, false≢true}

-- the least number below n that passes the test; n where none does
unfoldable pub least_below : (ℕ → Bool) → ℕ → ℕ
least_below p zero = 0
least_below p (suc n) = let least = least_below p n in if p least then least else suc n

pub least_within : (p : ℕ → Bool) (n : ℕ) → least_below p n ≤ n
unfolding least_below
least_within p zero = omega arith
least_within p (suc n) = within (least_below p n) n (p (least_below p n)) (least_within p n)
  where
    within : (m n : ℕ) (b : Bool) → m ≤ n → cond b m (suc n) ≤ suc n
    within m n true le = omega arith
    within m n false le = omega arith

pub least_passes : (p : ℕ → Bool) (n : ℕ) → least_below p n < n → p (least_below p n) ≡ true
unfolding least_below
least_passes p zero lt = absurd (omega arith)
least_passes p (suc n) lt = passes p (least_below p n) n (p (least_below p n)) refl lt
  where
    passes : (p : ℕ → Bool) (m n : ℕ) (b : Bool) → p m ≡ b → cond b m (suc n) < suc n → p (cond b m (suc n)) ≡ true
    passes p m n true e lt = e
    passes p m n false e lt = absurd (omega arith)

pub least_first : (p : ℕ → Bool) (n j : ℕ) → j < least_below p n → p j ≡ false
unfolding least_below
least_first p zero j lt = absurd (omega arith)
least_first p (suc n) j lt = first p (least_below p n) n j (p (least_below p n)) refl (least_first p n j) (least_passes p n) (least_within p n) lt
  where
    first : (p : ℕ → Bool) (m n j : ℕ) (b : Bool) → p m ≡ b → (j < m → p j ≡ false) → (m < n → p m ≡ true) → m ≤ n → j < cond b m (suc n) → p j ≡ false
    first p m n j true e before passes le lt = before lt
    first p m n j false e before passes le lt =
        ⊎_elim before
        (λ from. let whole : m ≡ n = ⊎_elim (λ under. absurd (false≢true (sym e ∙ passes under))) (λ over. omega arith) (cases_lt m n) in let same : j ≡ m = omega arith in ap p same ∙ e)
        (cases_lt j m)

-- the number that passes, where none before it does
pub least-is : (p : ℕ → Bool) (n k : ℕ) → k < n → p k ≡ true → ((j : ℕ) → j < k → p j ≡ false) → least_below p n ≡ k
least-is p n k lt passes before =
    let at_most : least_below p n ≤ k = ⊎_elim (λ over. absurd (false≢true (sym (least_first p n k over) ∙ passes))) (λ le. le) (cases_lt k (least_below p n)) in
    let at_least : k ≤ least_below p n = ⊎_elim (λ under. absurd (false≢true (sym (before _ under) ∙ least_passes p n (omega arith)))) (λ le. le) (cases_lt (least_below p n) k) in
    omega arith
