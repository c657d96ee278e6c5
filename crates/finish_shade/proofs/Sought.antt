-- What can be told of each number is sought among the first of them.
use Rattle.std.proofs.Common.{ℕ, zero, suc, ◌<◌, ◌≤◌, ◌≡◌, Bool, true, false, ◌⊎◌, inl, inr, ⊎_elim, refl, subst, arith}
use Rattle.std.proofs.lemmas.Bool.{cases_lt, false≢true}

-- the least number of which P holds, or none of the first n
pub data Below (P : ℕ → Type 0) (n : ℕ) : Type 0 where
  found : (k : ℕ) → k < n → P k → ((j : ℕ) → P j → k ≤ j) → Below P n
  none : ((j : ℕ) → P j → n ≤ j) → Below P n

beyond : (P : ℕ → Type 0) (n j : ℕ) → ¬ P n → n ≤ j → P j → suc n ≤ j
beyond P n j free le p =
    ⊎_elim (λ (lt : n < j). let r : suc n ≤ j = omega arith in r) (λ (ge : j ≤ n). let e : j ≡ n = omega arith in absurd (free (subst P e p))) (cases_lt n j)

one_more : (P : ℕ → Type 0) (n : ℕ) → P n ⊎ (¬ P n) → Below P n → Below P (suc n)
one_more P n here (Below.found k lt p low) = Below.found k (omega arith) p low
one_more P n (inl p) (Below.none free) = Below.found n (omega arith) p free
one_more P n (inr away) (Below.none free) = Below.none (λ j p. beyond P n j away (free j p) p)

pub least : (P : ℕ → Type 0) → ((k : ℕ) → P k ⊎ (¬ P k)) → (n : ℕ) → Below P n
least P told zero = Below.none (λ j p. omega arith)
least P told (suc n) = one_more P n (told n) (least P told n)

-- ---- what can be told

pub is_true : (b : Bool) → (b ≡ true) ⊎ (¬ (b ≡ true))
is_true true = inl refl
is_true false = inr false≢true

pub is_at_most : (a b : ℕ) → (a ≤ b) ⊎ (¬ (a ≤ b))
is_at_most a b = ⊎_elim (λ (lt : b < a). inr (λ (le : a ≤ b). omega arith)) (λ (le : a ≤ b). inl le) (cases_lt b a)

-- of a thing with five parts, each of which can be told
pub all_five : {A B C D E F : Type 0} → (A → B → C → D → E → F) → (F → A) → (F → B) → (F → C) → (F → D) → (F → E)
    → A ⊎ (¬ A) → B ⊎ (¬ B) → C ⊎ (¬ C) → D ⊎ (¬ D) → E ⊎ (¬ E) → F ⊎ (¬ F)
all_five make a_of b_of c_of d_of e_of (inl a) (inl b) (inl c) (inl d) (inl e) = inl (make a b c d e)
all_five make a_of b_of c_of d_of e_of (inr no_a) b c d e = inr (λ f. no_a (a_of f))
all_five make a_of b_of c_of d_of e_of (inl a) (inr no_b) c d e = inr (λ f. no_b (b_of f))
all_five make a_of b_of c_of d_of e_of (inl a) (inl b) (inr no_c) d e = inr (λ f. no_c (c_of f))
all_five make a_of b_of c_of d_of e_of (inl a) (inl b) (inl c) (inr no_d) e = inr (λ f. no_d (d_of f))
all_five make a_of b_of c_of d_of e_of (inl a) (inl b) (inl c) (inl d) (inr no_e) = inr (λ f. no_e (e_of f))

pub all_three : {A B C D : Type 0} → (A → B → C → D) → (D → A) → (D → B) → (D → C) → A ⊎ (¬ A) → B ⊎ (¬ B) → C ⊎ (¬ C) → D ⊎ (¬ D)
all_three make a_of b_of c_of (inl a) (inl b) (inl c) = inl (make a b c)
all_three make a_of b_of c_of (inr no_a) b c = inr (λ d. no_a (a_of d))
all_three make a_of b_of c_of (inl a) (inr no_b) c = inr (λ d. no_b (b_of d))
all_three make a_of b_of c_of (inl a) (inl b) (inr no_c) = inr (λ d. no_c (c_of d))
