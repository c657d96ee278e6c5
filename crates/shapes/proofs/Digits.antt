-- Numbers with binary digits more or less: their sizes.
use Rattle.std.proofs.Common.{ℕ, zero, suc, ℤ, pos, negsuc, ◌+◌, ◌-◌, ◌*◌, ◌^◌, ◌<◌, ◌≤◌, ◌*ℤ◌, ◌≡◌, ◌∙◌, refl, ap, sym, arith, unsigned_abs, true, false, nat_lt, nat_le, nat_eq, ⊎_elim}
use Rattle.std.proofs.Math.Nat.{mul-le-mul_right}
use Rattle.std.proofs.Math.Pow.{pow_mono}
use Rattle.std.proofs.lemmas.Bool.{cases_lt}
use Rattle.std.proofs.lemmas.Bool.Decides.{nat_tests}
use Rattle.std.proofs.lemmas.Int.{unsigned_abs-mul}
use Rattle.std.proofs.lemmas.Nat.{pow-add, pow_pos}
use Rattle.fix_math.specs.Numbers.{shortened}
use Rattle.shapes.specs.Faces.{shifted}
use Rattle.shapes.proofs.Told.{same_test, lt_test}

le_false : (a b : ℕ) → b < a → nat_le a b ≡ false
le_false a b h = grind (arith, nat_tests)

le_true : (a b : ℕ) → a ≤ b → nat_le a b ≡ true
le_true a b h = grind (arith, nat_tests)

-- with more digits, and with less
pub shifted-more : (up lost : ℕ) (z : ℤ) → lost ≤ up → shifted up lost z ≡ z *ℤ pos (2 ^ (up - lost))
shifted-more up lost z h = rw (le_true lost up h) refl

pub shifted-less : (up lost : ℕ) (z : ℤ) → up < lost → shifted up lost z ≡ shortened z (lost - up)
shifted-less up lost z h = rw (le_false lost up h) refl

less_times : (n m p : ℕ) → 0 < p → nat_lt (n * p) (m * p) ≡ nat_lt n m
less_times n m p some =
    same_test _ _
    (λ h. let k = (lt_test (n * p) (m * p)).0 h in
    (lt_test n m).1 (⊎_elim (λ lt. lt) (λ le. absurd (let o : m * p ≤ n * p = mul-le-mul_right p le in omega arith)) (cases_lt n m)))
    (λ h. let k = (lt_test n m).0 h in
    let o : (n + 1) * p ≤ m * p = mul-le-mul_right p (omega arith) in
    (lt_test (n * p) (m * p)).1 (omega arith))

split_power : (more bits : ℕ) → more < bits → 2 ^ bits ≡ 2 ^ (bits - more) * 2 ^ more
split_power more bits lt = let s : bits ≡ (bits - more) + more = omega arith in ap (λ (n : ℕ). 2 ^ n) s ∙ pow-add 2 (bits - more) more

-- whether a number with more digits is short
pub more-short : (z : ℤ) (more bits : ℕ) → more < bits → nat_lt (unsigned_abs (z *ℤ pos (2 ^ more))) (2 ^ bits) ≡ nat_lt (unsigned_abs z) (2 ^ (bits - more))
more-short z more bits lt =
    let s : unsigned_abs (z *ℤ pos (2 ^ more)) ≡ unsigned_abs z * 2 ^ more = unsigned_abs-mul z (pos (2 ^ more)) in
    rw (s, split_power more bits lt) (less_times (unsigned_abs z) (2 ^ (bits - more)) (2 ^ more) (pow_pos more))

none_test : (n p q : ℕ) → 0 < q → q ≤ p → nat_lt (n * p) q ≡ nat_eq n 0
none_test zero p q some le = let l : nat_lt (0 * p) q ≡ true = (lt_test (0 * p) q).1 (omega arith) in l
none_test (suc n) p q some le =
    let k : 1 * p ≤ suc n * p = mul-le-mul_right p (omega arith) in
    let far : q ≤ suc n * p = omega arith in
    let l : nat_lt (suc n * p) q ≡ false = grind (arith, nat_tests) in
    let some : nat_eq (suc n) 0 ≡ false = grind (arith, nat_tests) in
    l ∙ sym some

pub more-none : (z : ℤ) (more bits : ℕ) → bits ≤ more → nat_lt (unsigned_abs (z *ℤ pos (2 ^ more))) (2 ^ bits) ≡ nat_eq (unsigned_abs z) 0
more-none z more bits le =
    let s : unsigned_abs (z *ℤ pos (2 ^ more)) ≡ unsigned_abs z * 2 ^ more = unsigned_abs-mul z (pos (2 ^ more)) in
    rw s (none_test (unsigned_abs z) (2 ^ more) (2 ^ bits) (pow_pos bits) (pow_mono {i = bits} {j = more} le))

-- the two as tests of a number's size
pub short_more : (z : ℤ) (up lost bits u s : ℕ) → lost ≤ up → up - lost < bits → u ≡ unsigned_abs z → s ≡ 2 ^ (bits - (up - lost)) → nat_lt u s ≡ nat_lt (unsigned_abs (shifted up lost z)) (2 ^ bits)
short_more z up lost bits u s le lt e f = rw (e, f, shifted-more up lost z le) (sym (more-short z (up - lost) bits lt))

pub short_none : (z : ℤ) (up lost bits u : ℕ) → lost ≤ up → bits ≤ up - lost → u ≡ unsigned_abs z → nat_eq u 0 ≡ nat_lt (unsigned_abs (shifted up lost z)) (2 ^ bits)
short_none z up lost bits u le more e = rw (e, shifted-more up lost z le) (sym (more-none z (up - lost) bits more))

some_size : (z : ℤ) → (z ≡ pos 0 → ⊥) → 1 ≤ unsigned_abs z
some_size (pos zero) h = absurd (h refl)
some_size (pos (suc n)) h = omega arith
some_size (negsuc n) h = omega arith

-- a number other than 0 that stays short has few digits more
pub few_more : (z : ℤ) (up lost : ℕ) → lost ≤ up → (z ≡ pos 0 → ⊥) → unsigned_abs (shifted up lost z) < 2 ^ 121 → up - lost ≤ 121
few_more z up lost le some small =
    let m : ℕ = up - lost in
    let s : unsigned_abs (z *ℤ pos (2 ^ m)) ≡ unsigned_abs z * 2 ^ m = unsigned_abs-mul z (pos (2 ^ m)) in
    let k : unsigned_abs (z *ℤ pos (2 ^ m)) < 2 ^ 121 = rw (← shifted-more up lost z le) small in
    let l : 1 * 2 ^ m ≤ unsigned_abs z * 2 ^ m = mul-le-mul_right (2 ^ m) (some_size z some) in
    ⊎_elim (λ lt. absurd (let p : 2 ^ 121 ≤ 2 ^ m = pow_mono {i = 121} {j = m} (omega arith) in omega arith)) (λ at_most. at_most) (cases_lt 121 m)
