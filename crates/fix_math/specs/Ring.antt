-- Identities of sums and products of whole numbers. An identity is proved in one line: each variable z becomes `diff (up z) (down z)`,
-- a difference of naturals, and the tactic `omega` multiplies the naturals out:
--     rw (diff-parts a, diff-parts b) (simp ring_rules (diff-same _ _ _ _ (omega arith)))
-- A literal or a `pos t` wants `diff-pos` in the list of `simp` too.
use Rattle.std.specs.Prelude.{◌≡◌, ℕ, ℤ, pos, ◌+ℤ◌, ◌-ℤ◌, ◌*ℤ◌, neg_ℤ, ◌+◌, ◌*◌}
use Rattle.std.proofs.Common.{ap, arith}
use Rattle.std.proofs.lemmas.Int.{ints}
use borrow.Author.Differences.{up, down, same_in, sum_is_lem, neg_is, product_is}

-- the whole number p - n
pub diff : ℕ → ℕ → ℤ
diff p n = pos p -ℤ pos n

parts_of_diff : (p n : ℕ) → up (diff p n) + n ≡ down (diff p n) + p
unfolding diff
parts_of_diff p n = omega (arith, ints)

pub diff-same : (p n q m : ℕ) → p + m ≡ q + n → diff p n ≡ diff q m
diff-same p n q m h = same_in _ _ (omega (arith, parts_of_diff p n, parts_of_diff q m))

pub diff-parts : (z : ℤ) → z ≡ diff (up z) (down z)
diff-parts z = same_in _ _ (omega (arith, parts_of_diff (up z) (down z)))

pub diff-pos : (p : ℕ) → pos p ≡ diff p 0
diff-pos p = same_in _ _ (omega (arith, parts_of_diff p 0))

pub diff-add : (p n q m : ℕ) → diff p n +ℤ diff q m ≡ diff (p + q) (n + m)
diff-add p n q m =
    same_in _ _ (omega (arith, sum_is_lem, parts_of_diff p n, parts_of_diff q m, parts_of_diff (p + q) (n + m)))

pub diff-neg : (p n : ℕ) → neg_ℤ (diff p n) ≡ diff n p
diff-neg p n = same_in _ _ (omega (arith, neg_is, parts_of_diff p n, parts_of_diff n p))

multiplied : (u d p n v e q m : ℕ) → u + n ≡ d + p → v + m ≡ e + q → (u * v + d * e) + (p * m + n * q) ≡ (u * e + d * v) + (p * q + n * m)
multiplied u d p n v e q m h k =
    omega (arith, ap (λ (x : ℕ). x * v) h, ap (λ (x : ℕ). x * e) h, ap (λ (x : ℕ). p * x) k, ap (λ (x : ℕ). n * x) k)

pub diff-mul : (p n q m : ℕ) → diff p n *ℤ diff q m ≡ diff (p * q + n * m) (p * m + n * q)
diff-mul p n q m =
    let product = multiplied (up (diff p n)) (down (diff p n)) p n (up (diff q m)) (down (diff q m)) q m (parts_of_diff p n) (parts_of_diff q m) in
    same_in _ _ (omega (arith, product_is, product, parts_of_diff (p * q + n * m) (p * m + n * q)))

pub ruleset ring_rules = (diff-add, diff-neg, diff-mul)

-- ---- the laws that are used by name

pub mul-add_left : (a b c : ℤ) → a *ℤ (b +ℤ c) ≡ a *ℤ b +ℤ a *ℤ c
mul-add_left a b c = rw (diff-parts a, diff-parts b, diff-parts c) (simp ring_rules (diff-same _ _ _ _ (omega arith)))

pub mul-add_right : (a b c : ℤ) → (a +ℤ b) *ℤ c ≡ a *ℤ c +ℤ b *ℤ c
mul-add_right a b c = rw (diff-parts a, diff-parts b, diff-parts c) (simp ring_rules (diff-same _ _ _ _ (omega arith)))

pub mul-sub_right : (a b c : ℤ) → (a -ℤ b) *ℤ c ≡ a *ℤ c -ℤ b *ℤ c
mul-sub_right a b c = rw (diff-parts a, diff-parts b, diff-parts c) (simp ring_rules (diff-same _ _ _ _ (omega arith)))

pub mul-assoc : (a b c : ℤ) → (a *ℤ b) *ℤ c ≡ a *ℤ (b *ℤ c)
mul-assoc a b c = rw (diff-parts a, diff-parts b, diff-parts c) (simp ring_rules (diff-same _ _ _ _ (omega arith)))

pub mul-neg_left : (a b : ℤ) → neg_ℤ a *ℤ b ≡ neg_ℤ (a *ℤ b)
mul-neg_left a b = rw (diff-parts a, diff-parts b) (simp ring_rules (diff-same _ _ _ _ (omega arith)))
