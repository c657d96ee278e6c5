-- The root is the greatest number whose square isn't above n.
use Rattle.std.specs.Prelude.{◌≡◌, ℕ, zero, suc, ◌+◌, ◌*◌, ◌≤◌, ◌<◌, Bool, true, false, refl}
use Rattle.std.proofs.Common.{arith, mul-le-mul, leb, cond, ⊎_elim}
use Rattle.std.proofs.lemmas.Bool.{cases_lt}
use Rattle.std.proofs.lemmas.Bool.Decides.{nat_tests}
use Rattle.fix_math.specs.Roots.{root}

least_more : (r n : ℕ) (b : Bool) → leb ((r + 1) * (r + 1)) n ≡ b → r * r ≤ n → cond b (r + 1) r * cond b (r + 1) r ≤ n
least_more r n true e h = grind (arith, nat_tests)
least_more r n false e h = h

most_more : (r n : ℕ) (b : Bool) → leb ((r + 1) * (r + 1)) n ≡ b → n ≤ (r + 1) * (r + 1) → n < (cond b (r + 1) r + 1) * (cond b (r + 1) r + 1)
most_more r n true e h = grind (arith, nat_tests)
most_more r n false e h = grind (arith, nat_tests)

pub root_least : (n : ℕ) → root n * root n ≤ n
unfolding root
root_least zero = omega arith
root_least (suc n) = least_more (root n) (suc n) (leb ((root n + 1) * (root n + 1)) (suc n)) refl (omega (arith, root_least n))

pub root_most : (n : ℕ) → n < (root n + 1) * (root n + 1)
unfolding root
root_most zero = omega arith
root_most (suc n) = most_more (root n) (suc n) (leb ((root n + 1) * (root n + 1)) (suc n)) refl (omega (arith, root_most n))

-- a square that isn't above another has a root that isn't above the other's
pub root_order : (r s : ℕ) → r * r < (s + 1) * (s + 1) → r ≤ s
root_order r s h =
    ⊎_elim (λ lt. let above : s + 1 ≤ r = omega arith in absurd (omega (arith, mul-le-mul above above))) (λ le. le) (cases_lt s r)

pub root-is : (n r : ℕ) → r * r ≤ n → n < (r + 1) * (r + 1) → root n ≡ r
root-is n r low high =
    let at_most : root n ≤ r = root_order (root n) r (omega (arith, root_least n)) in
    let at_least : r ≤ root n = root_order r (root n) (omega (arith, root_most n)) in
    omega arith
