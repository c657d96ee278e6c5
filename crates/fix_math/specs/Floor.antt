-- Division of whole numbers that rounds down, and the rounding of numbers, which stands on it.
use Rattle.std.specs.Prelude.{◌≡◌, ℕ, ℤ, pos, negsuc, ◌+ℤ◌, ◌*ℤ◌, neg_ℤ, ◌≤ℤ◌, ◌<ℤ◌, ◌↔◌, ◌+◌, ◌*◌, ◌^◌, ◌≤◌, ◌<◌, unsigned_abs}
use Rattle.std.specs.Int.{int_div_euclid}
use Rattle.std.proofs.Common.{arith}
use Rattle.std.proofs.Math.Nat.{mul-le-mul_left, mul-le-mul_right}
use Rattle.std.proofs.lemmas.Int.{ints, by_lt_z}
use Rattle.std.proofs.lemmas.Nat.{pow_pos}
use Rattle.fix_math.specs.Numbers.{rnd, shortened}
use Rattle.fix_math.specs.Order.{mul-le_right}
use Rattle.fix_math.specs.Ring.{mul-add_left, mul-add_right, mul-neg_left}
use borrow.Author.Differences.{up, down, le_out, same_in}

-- the quotient q that rounds down has q * k ≤ a < q * k + k
pub floor_parts : (a : ℤ) (k : ℕ) → 0 < k → (up (int_div_euclid a (pos k)) * k + down a ≤ down (int_div_euclid a (pos k)) * k + up a) × (down (int_div_euclid a (pos k)) * k + up a < up (int_div_euclid a (pos k)) * k + down a + k)
floor_parts (pos a) k h = omega arith
floor_parts (negsuc a) k h = omega arith

pub floor_least : (a d : ℤ) → pos 0 <ℤ d → (int_div_euclid a d *ℤ d) ≤ℤ a
floor_least a (pos k) h = omega (arith, ints, floor_parts a k (omega (arith, ints)))
floor_least a (negsuc k) h = absurd (omega (arith, ints))

pub floor_most : (a d : ℤ) → pos 0 <ℤ d → a <ℤ (int_div_euclid a d *ℤ d +ℤ d)
floor_most a (pos k) h = omega (arith, ints, floor_parts a k (omega (arith, ints)))
floor_most a (negsuc k) h = absurd (omega (arith, ints))

-- the numbers that the quotient isn't below are those whose product isn't above a
next : (q t d : ℤ) → pos 0 <ℤ d → q <ℤ t → (q *ℤ d +ℤ d) ≤ℤ (t *ℤ d)
next q t d h lt =
    let le : ((q +ℤ pos 1) *ℤ d) ≤ℤ (t *ℤ d) = mul-le_right (q +ℤ pos 1) t d (omega (arith, ints)) (omega (arith, ints)) in
    omega (arith, ints, mul-add_right q (pos 1) d)

pub floor_above : (a d t : ℤ) → pos 0 <ℤ d → (t *ℤ d) ≤ℤ a → t ≤ℤ int_div_euclid a d
floor_above a d t h le =
    by_lt_z (int_div_euclid a d) t
    (λ lt. absurd (omega (arith, ints, floor_most a d h, next (int_div_euclid a d) t d h lt)))
    (λ at_least. at_least)

pub floor_below : (a d t : ℤ) → pos 0 <ℤ d → t ≤ℤ int_div_euclid a d → (t *ℤ d) ≤ℤ a
floor_below a (pos k) t h le = omega (arith, ints, floor_parts a k (omega (arith, ints)), mul-le-mul_right k (le_out t (int_div_euclid a (pos k)) le))
floor_below a (negsuc k) t h le = absurd (omega (arith, ints))

pub floor_iff : (a d t : ℤ) → pos 0 <ℤ d → (t ≤ℤ int_div_euclid a d) ↔ ((t *ℤ d) ≤ℤ a)
floor_iff a d t h = (floor_below a d t h, floor_above a d t h)

pub floor_is : (a d q : ℤ) → pos 0 <ℤ d → (q *ℤ d) ≤ℤ a → a <ℤ (q *ℤ d +ℤ d) → int_div_euclid a d ≡ q
floor_is a d q h low high =
    let at_least : q ≤ℤ int_div_euclid a d = floor_above a d q h low in
    by_lt_z q (int_div_euclid a d)
    (λ lt. absurd (omega (arith, ints, floor_least a d h, next q (int_div_euclid a d) d h lt)))
    (λ at_most. same_in _ _ (omega (arith, ints)))

pub floor_monotone : (a b d : ℤ) → pos 0 <ℤ d → a ≤ℤ b → int_div_euclid a d ≤ℤ int_div_euclid b d
floor_monotone a b d h le = floor_above b d (int_div_euclid a d) h (omega (arith, ints, floor_least a d h))

-- ---- the rounding to the nearest, halves up

-- twice the distance from a is at most b: 2 q b ≤ 2 a + b < 2 q b + 2 b
pub rnd_least : (a b : ℤ) → pos 0 <ℤ b → (rnd a b *ℤ (b +ℤ b)) ≤ℤ (a +ℤ a +ℤ b)
rnd_least a b h = floor_least (a +ℤ a +ℤ b) (b +ℤ b) (omega (arith, ints))

pub rnd_most : (a b : ℤ) → pos 0 <ℤ b → (a +ℤ a +ℤ b) <ℤ (rnd a b *ℤ (b +ℤ b) +ℤ (b +ℤ b))
rnd_most a b h = floor_most (a +ℤ a +ℤ b) (b +ℤ b) (omega (arith, ints))

pub rnd_is : (a b q : ℤ) → pos 0 <ℤ b → (q *ℤ (b +ℤ b)) ≤ℤ (a +ℤ a +ℤ b) → (a +ℤ a +ℤ b) <ℤ (q *ℤ (b +ℤ b) +ℤ (b +ℤ b)) → rnd a b ≡ q
rnd_is a b q h low high = floor_is (a +ℤ a +ℤ b) (b +ℤ b) q (omega (arith, ints)) low high

-- the rounding keeps the order
pub rnd_monotone : (a c b : ℤ) → pos 0 <ℤ b → a ≤ℤ c → rnd a b ≤ℤ rnd c b
rnd_monotone a c b h le = floor_monotone (a +ℤ a +ℤ b) (c +ℤ c +ℤ b) (b +ℤ b) (omega (arith, ints)) (omega (arith, ints))

-- by an even number: half of it is added before the division that rounds down
pub rnd_even : (a : ℤ) (h : ℕ) → 0 < h → rnd a (pos (h + h)) ≡ int_div_euclid (a +ℤ pos h) (pos (h + h))
rnd_even a h some =
    let q : ℤ = int_div_euclid (a +ℤ pos h) (pos (h + h)) in
    let twice = mul-add_left q (pos (h + h)) (pos (h + h)) in
    rnd_is a (pos (h + h)) q (omega (arith, ints))
    (omega (arith, ints, twice, floor_least (a +ℤ pos h) (pos (h + h)) (omega (arith, ints))))
    (omega (arith, ints, twice, floor_most (a +ℤ pos h) (pos (h + h)) (omega (arith, ints))))

-- exact multiples aren't rounded
pub rnd_exact : (q b : ℤ) → pos 0 <ℤ b → rnd (q *ℤ b) b ≡ q
rnd_exact q b h =
    rnd_is (q *ℤ b) b q h (omega (arith, ints, mul-add_left q b b)) (omega (arith, ints, mul-add_left q b b))

-- whole parts go through the rounding
pub rnd_plus : (a q b : ℤ) → pos 0 <ℤ b → rnd (a +ℤ q *ℤ b) b ≡ rnd a b +ℤ q
rnd_plus a q b h =
    let whole = mul-add_right (rnd a b) q (b +ℤ b) in let twice = mul-add_left q b b in
    rnd_is (a +ℤ q *ℤ b) b (rnd a b +ℤ q) h
    (omega (arith, ints, rnd_least a b h, whole, twice))
    (omega (arith, ints, rnd_most a b h, whole, twice))

-- the size of the rounded quotient, from the size of the dividend
pub rnd_within : (a : ℤ) (k n : ℕ) → 0 < k → unsigned_abs a ≤ n * k → unsigned_abs (rnd a (pos k)) ≤ n
rnd_within a k n h le =
    let positive : pos 0 <ℤ pos k = omega (arith, ints) in
    let high : rnd a (pos k) ≤ℤ rnd (pos n *ℤ pos k) (pos k) = rnd_monotone a (pos n *ℤ pos k) (pos k) positive (omega (arith, ints)) in
    let low : rnd (neg_ℤ (pos n) *ℤ pos k) (pos k) ≤ℤ rnd a (pos k) = rnd_monotone (neg_ℤ (pos n) *ℤ pos k) a (pos k) positive (omega (arith, ints, mul-neg_left (pos n) (pos k))) in
    omega (arith, ints, rnd_exact (pos n) (pos k) positive, rnd_exact (neg_ℤ (pos n)) (pos k) positive)

pub rnd_at_least : (a : ℤ) (k n : ℕ) → 0 < k → n * k ≤ unsigned_abs a → n ≤ unsigned_abs (rnd a (pos k))
rnd_at_least (pos a) k n h le =
    let positive : pos 0 <ℤ pos k = omega (arith, ints) in
    let high : rnd (pos n *ℤ pos k) (pos k) ≤ℤ rnd (pos a) (pos k) = rnd_monotone (pos n *ℤ pos k) (pos a) (pos k) positive (omega (arith, ints)) in
    omega (arith, ints, rnd_exact (pos n) (pos k) positive)
rnd_at_least (negsuc a) k n h le =
    let positive : pos 0 <ℤ pos k = omega (arith, ints) in
    let low : rnd (negsuc a) (pos k) ≤ℤ rnd (neg_ℤ (pos n) *ℤ pos k) (pos k) = rnd_monotone (negsuc a) (neg_ℤ (pos n) *ℤ pos k) (pos k) positive (omega (arith, ints, mul-neg_left (pos n) (pos k))) in
    omega (arith, ints, rnd_exact (neg_ℤ (pos n)) (pos k) positive)

-- a number that isn't negative has no negative quotient
pub rnd_not_negative : (a b : ℤ) → pos 0 <ℤ b → pos 0 ≤ℤ a → pos 0 ≤ℤ rnd a b
rnd_not_negative a b h le = floor_above (a +ℤ a +ℤ b) (b +ℤ b) (pos 0) (omega (arith, ints)) (omega (arith, ints))

-- a rounded number is no larger than the number was
pub shortened_within : (z : ℤ) (bits most : ℕ) → unsigned_abs z ≤ most → unsigned_abs (shortened z bits) ≤ most
shortened_within z bits most le =
    rnd_within z (2 ^ bits) most (pow_pos bits) (omega (arith, mul-le-mul_left most (pow_pos bits)))
