-- A shift to the right that copies the sign is a division that rounds down.
use Rattle.std.specs.Prelude.{◌≡◌, ℕ, ℤ, pos, negsuc, ◌+ℤ◌, ◌+◌, ◌-◌, ◌*◌, ◌^◌, ◌<◌, FitsSigned, refl, suc}
use Rattle.std.specs.Int.{int_div_euclid, w128}
use Rattle.std.proofs.Common.{arith, ap, sym, ◌∙◌}
use Rattle.std.proofs.Math.Nat.{pow-suc}
use Rattle.fix_math.specs.Floor.{rnd_even}
use Rattle.fix_math.specs.Numbers.{rnd}
use Rattle.std.proofs.lemmas.Nat.{pow_pos}
use lib.Signed.{shr_z, mag_shr}

pub shr-floor : (z : ℤ) (m : ℕ) → shr_z z m ≡ int_div_euclid z (pos m)
shr-floor (pos a) m = refl
shr-floor (negsuc a) m = refl

pub shr_fits : (z : ℤ) (m : ℕ) → FitsSigned w128 z → FitsSigned w128 (shr_z z m)
shr_fits z m fits = record { sfits = omega (arith, mag_shr z m, fits.sfits) }

halved : (k : ℕ) → 0 < k → 2 ^ k ≡ 2 ^ (k - 1) + 2 ^ (k - 1)
halved k some = ap (λ (j : ℕ). 2 ^ j) (again k some) ∙ pow-suc 2 (k - 1) ∙ twice (2 ^ (k - 1))
  where
    again : (k : ℕ) → 0 < k → k ≡ suc (k - 1)
    again k some = omega arith

    twice : (n : ℕ) → n * 2 ≡ n + n
    twice n = omega arith

pub shr-rnd : (z h : ℤ) (k : ℕ) → 0 < k → h ≡ pos (2 ^ (k - 1)) → shr_z (z +ℤ h) (2 ^ k) ≡ rnd z (pos (2 ^ k))
shr-rnd z h k some e = rw (shr-floor (z +ℤ h) (2 ^ k), e, halved k some) (sym (rnd_even z (2 ^ (k - 1)) (pow_pos (k - 1))))
