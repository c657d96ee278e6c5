-- Laws of lamps: light that fades never grows stronger with the distance.
use Rattle.std.proofs.Common.{ℕ, zero, suc, ℤ, pos, negsuc, ◌≡◌, ◌⊎◌, inl, inr, ◌+ℤ◌, ◌-ℤ◌, ◌*ℤ◌, ◌≤ℤ◌, ◌<ℤ◌, ◌*◌, ◌≤◌, ◌^◌, ⊎_elim, arith}
use Rattle.std.specs.Int.{int_min}
use Rattle.std.proofs.lemmas.Int.{int_min_is, ints}
use Rattle.fix_math.specs.Floor.{floor_above, rnd_least, rnd_monotone, rnd_not_negative}
use Rattle.fix_math.specs.Numbers.{rnd, product_of}
use Rattle.fix_math.specs.Order.{mul-le_left, mul-le_right}
use Rattle.fix_math.specs.Ring.{diff-parts, diff-same, ring_rules}
use Rattle.scene_model.specs.declared.light.Fade.{Fade}
use Rattle.scene_model.specs.Looks.{IsFade}
use Rattle.finish_shade.specs.Lamps.{distances, fading_of, far_power}

least_le : (m a b : ℤ) → a ≤ℤ b → int_min m a ≤ℤ int_min m b
least_le m a b le = omega (arith, ints, int_min_is m a, int_min_is m b)

least_some : (m a : ℤ) → pos 0 ≤ℤ m → pos 0 ≤ℤ a → pos 0 ≤ℤ int_min m a
least_some m a h k = omega (arith, ints, int_min_is m a)

product_le : (a b c d : ℤ) → pos 0 ≤ℤ a → a ≤ℤ b → pos 0 ≤ℤ c → c ≤ℤ d → product_of a c ≤ℤ product_of b d
product_le a b c d some le some' le' =
    let first = mul-le_right a b c some' le in
    let second = mul-le_left c d b (omega (arith, ints)) le' in
    rnd_monotone (a *ℤ c) (b *ℤ d) (pos 65536) (omega (arith, ints)) (omega (arith, ints))

product_some : (a c : ℤ) → pos 0 ≤ℤ a → pos 0 ≤ℤ c → pos 0 ≤ℤ product_of a c
product_some a c some some' =
    let part = mul-le_right (pos 0) a c some' some in
    rnd_not_negative (a *ℤ c) (pos 65536) (omega (arith, ints)) (omega (arith, ints))

far_some : (q : ℤ) (k : ℕ) → pos 0 ≤ℤ q → pos 0 ≤ℤ far_power q k
far_some q zero h = h
far_some q (suc zero) h = h
far_some q (suc (suc k)) h = least_some (pos (2 ^ 46)) (product_of (far_power q (suc k)) q) (omega (arith, ints)) (product_some (far_power q (suc k)) q (far_some q (suc k) h) h)

far_le : (p q : ℤ) (k : ℕ) → pos 0 ≤ℤ p → p ≤ℤ q → far_power p k ≤ℤ far_power q k
far_le p q zero h le = le
far_le p q (suc zero) h le = le
far_le p q (suc (suc k)) h le =
    least_le (pos (2 ^ 46)) (product_of (far_power p (suc k)) p) (product_of (far_power q (suc k)) q)
    (product_le (far_power p (suc k)) (far_power q (suc k)) p q (far_some p (suc k) h) (far_le p q (suc k) h le) h le)

distances_le : (f : Fade) (m n : ℕ) → IsFade f → m ≤ n → distances f m ≤ℤ distances f n
distances_le f m n h le =
    let some = h.some in
    least_le (pos (2 ^ 30)) (rnd (pos (m * 65536)) f.distance) (rnd (pos (n * 65536)) f.distance)
    (rnd_monotone (pos (m * 65536)) (pos (n * 65536)) f.distance some (omega (arith, ints)))

distances_some : (f : Fade) (m : ℕ) → IsFade f → pos 0 ≤ℤ distances f m
distances_some f m h =
    least_some (pos (2 ^ 30)) (rnd (pos (m * 65536)) f.distance) (omega (arith, ints)) (rnd_not_negative (pos (m * 65536)) f.distance h.some (omega (arith, ints)))

-- a share of the same by a greater divisor isn't greater: twice the quotient less one is at most the dividend's double by the divisor
scaled_le : (q b d : ℤ) → pos 1 ≤ℤ q → b ≤ℤ d → ((q +ℤ q -ℤ pos 1) *ℤ b) ≤ℤ ((q +ℤ q -ℤ pos 1) *ℤ d)
scaled_le q b d some le = mul-le_left b d (q +ℤ q -ℤ pos 1) (omega (arith, ints)) le

less_one : (q one b : ℤ) → (q +ℤ q -ℤ one) *ℤ b ≡ q *ℤ b +ℤ q *ℤ b -ℤ one *ℤ b
less_one q one b = rw (diff-parts q, diff-parts one, diff-parts b) (simp ring_rules (diff-same _ _ _ _ (omega arith)))

one_time : (b : ℤ) → pos 1 *ℤ b ≡ b
one_time (pos n) = omega (arith, ints)
one_time (negsuc n) = omega (arith, ints)

doubled : (q b : ℤ) → q *ℤ (b +ℤ b) ≡ q *ℤ b +ℤ q *ℤ b
doubled q b = rw (diff-parts q, diff-parts b) (simp ring_rules (diff-same _ _ _ _ (omega arith)))

some_or_none : (q : ℤ) → (pos 1 ≤ℤ q) ⊎ (q ≤ℤ pos 0)
some_or_none (pos zero) = inr (omega (arith, ints))
some_or_none (pos (suc n)) = inl (omega (arith, ints))
some_or_none (negsuc n) = inr (omega (arith, ints))

share_falls : (a b d : ℤ) → pos 0 ≤ℤ a → pos 0 <ℤ b → b ≤ℤ d → rnd a d ≤ℤ rnd a b
share_falls a b d some positive le =
    let q : ℤ = rnd a d in
    let least = rnd_least a d (omega (arith, ints)) in
    ⊎_elim
    (λ one. floor_above (a +ℤ a +ℤ b) (b +ℤ b) q (omega (arith, ints))
    (let k = scaled_le q b d one le in omega (arith, ints, less_one q (pos 1) b, less_one q (pos 1) d, one_time b, one_time d, doubled q b, doubled q d)))
    (λ none. let low = rnd_not_negative a b positive some in omega (arith, ints))
    (some_or_none q)

-- the farther the weaker
pub fading_falls : (f : Fade) (m n : ℕ) → IsFade f → m ≤ n → fading_of f n ≤ℤ fading_of f m
fading_falls f m n h le =
    let some = far_some (distances f m) f.power (distances_some f m h) in
    let more = far_le (distances f m) (distances f n) f.power (distances_some f m h) (distances_le f m n h le) in
    share_falls (pos (2 ^ 33)) (pos 65536 +ℤ far_power (distances f m) f.power) (pos 65536 +ℤ far_power (distances f n) f.power) (omega (arith, ints)) (omega (arith, ints)) (omega (arith, ints))
