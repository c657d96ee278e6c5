-- The seven terms of the series of the sine and the cosine.
use Rattle.std.specs.Prelude.{◌≡◌, ℕ, ℤ, suc, pos, ◌*ℤ◌, ◌+◌, ◌-◌, ◌*◌, ◌/◌, ◌%◌, ◌^◌, ◌≤◌, neg_ℤ, refl}
use Rattle.std.proofs.Common.{arith, sym}
use Rattle.std.proofs.Math.Nat.{mod-eq_of_lt, mul-div-mul_left}
use Rattle.std.proofs.lemmas.Int.{ints}
use Rattle.fix_math.specs.Angles.{alternating, square, sine_term, cosine_term, first_sine, first_cosine, in_turn, by_quarter, sine_of, cosine_of}
use Rattle.fix_math.specs.Numbers.{rnd}

pub next-sine : (x : ℤ) (k a b y : ℕ) → sine_term x k ≡ pos a → pos y ≡ square x → pos b ≡ rnd (pos a *ℤ pos y) (pos (2 ^ 32 * ((2 * k + 2) * (2 * k + 3)))) → sine_term x (suc k) ≡ pos b
unfolding sine_term
next-sine x k a b y term y_is next = rw (term, ← y_is) (sym next)

pub next-cosine : (x : ℤ) (k a b y : ℕ) → cosine_term x k ≡ pos a → pos y ≡ square x → pos b ≡ rnd (pos a *ℤ pos y) (pos (2 ^ 32 * ((2 * k + 1) * (2 * k + 2)))) → cosine_term x (suc k) ≡ pos b
unfolding cosine_term
next-cosine x k a b y term y_is next = rw (term, ← y_is) (sym next)

pub record AreTerms (t : ℕ → ℤ) (a b c d e f g : ℕ) : Type 0 where
  pub first : t 0 ≡ pos a
  pub second : t 1 ≡ pos b
  pub third : t 2 ≡ pos c
  pub fourth : t 3 ≡ pos d
  pub fifth : t 4 ≡ pos e
  pub sixth : t 5 ≡ pos f
  pub seventh : t 6 ≡ pos g

pub alternating-seven : (t : ℕ → ℤ) (a b c d e f g : ℕ) → AreTerms t a b c d e f g → b ≤ a → d ≤ c → f ≤ e → pos (a - b + (c - d) + (e - f) + g) ≡ alternating t 6
unfolding alternating
alternating-seven t a b c d e f g are ab cd ef = rw (are.first, are.second, are.third, are.fourth, are.fifth, are.sixth, are.seventh) (omega (arith, ints))

same_quotient : (a b c d : ℕ) → c ≡ 2 * a → d ≡ 2 * b → a / b ≡ c / d
same_quotient a b c d e f = rw (e, f) (sym (mul-div-mul_left {m = 2} a b (omega arith)))

-- the code's quotient, whose dividend and divisor are halves
pub next_quotient : (n h : ℕ) → h ≤ 100 → (n + h * 2 ^ 32 % 2 ^ 64) / (h * 2 ^ 33 % 2 ^ 64) ≡ (n + n + 2 ^ 32 * (2 * h)) / (2 ^ 32 * (2 * h) + 2 ^ 32 * (2 * h))
next_quotient n h few =
    let half : h * 2 ^ 32 % 2 ^ 64 ≡ h * 2 ^ 32 = mod-eq_of_lt (omega arith) in
    let whole : h * 2 ^ 33 % 2 ^ 64 ≡ h * 2 ^ 33 = mod-eq_of_lt (omega arith) in
    rw (half, whole) (same_quotient (n + h * 2 ^ 32) (h * 2 ^ 33) (n + n + 2 ^ 32 * (2 * h)) (2 ^ 32 * (2 * h) + 2 ^ 32 * (2 * h)) (omega arith) (omega arith))

-- from the first quarter to any angle
pub turned-sine : (deg : ℤ) (a : ℕ) (s k : ℤ) → s ≡ first_sine (a % (90 * 65536)) → k ≡ first_cosine (a % (90 * 65536)) → a ≡ in_turn deg → by_quarter (a / (90 * 65536)) s k (neg_ℤ s) (neg_ℤ k) ≡ sine_of deg
unfolding sine_of
turned-sine deg a s k sine cosine turn = rw (sine, cosine, turn) refl

pub turned-cosine : (deg : ℤ) (a : ℕ) (s k : ℤ) → s ≡ first_sine (a % (90 * 65536)) → k ≡ first_cosine (a % (90 * 65536)) → a ≡ in_turn deg → by_quarter (a / (90 * 65536)) k (neg_ℤ s) (neg_ℤ k) s ≡ cosine_of deg
unfolding cosine_of
turned-cosine deg a s k sine cosine turn = rw (sine, cosine, turn) refl
