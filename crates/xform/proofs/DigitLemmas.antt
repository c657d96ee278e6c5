-- The binary digits of an extent.
use Rattle.std.specs.Prelude.{◌≡◌, ℕ, ◌+◌, ◌-◌, ◌*◌, ◌^◌, ◌≤◌, ◌<◌, nat_lt, false}
use Rattle.std.specs.Int.Count.{count_leading_zeros}
use Rattle.std.proofs.Common.{arith, ⊎_elim}
use Rattle.std.proofs.Math.Pow.{pow_mono}
use Rattle.std.proofs.lemmas.Bool.{cases_lt}
use Rattle.std.proofs.lemmas.Bool.Decides.{nat_tests}
use Rattle.std.proofs.lemmas.Nat.{leading_length, pow-add}
use Rattle.fix_math.specs.Least.{least-is}
use Rattle.xform.specs.Placing.{digits_of}
use Rattle.xform.specs.SpotLaws.{digits_enough}

not_below : (w g : ℕ) → 2 ^ g ≤ w → nat_lt w (2 ^ g) ≡ false
not_below w g le = grind (arith, nat_tests)

few : (w m : ℕ) → w ≤ 2 ^ 30 → 2 ^ m ≤ 2 * w + 1 → m ≤ 31
few w m small least = ⊎_elim (λ lt. omega arith) (λ le. absurd (omega (arith, pow_mono {i = 32} {j = m} le))) (cases_lt m 32)

digits-is : (w m : ℕ) → w ≤ 2 ^ 30 → w < 2 ^ m → 2 ^ m ≤ 2 * w + 1 → digits_of w ≡ m
digits-is w m small above least =
    let m_few = few w m small least in
    least-is (λ g. nat_lt w (2 ^ g)) 64 m (omega arith) (digits_enough w m above)
    (λ j lt. not_below w j (omega (arith, pow_mono {i = j + 1} {j = m} (omega arith), pow-add 2 j 1)))

pub digits : (w : ℕ) → w ≤ 2 ^ 30 → (64 - count_leading_zeros 64 w ≡ digits_of w) × (64 - count_leading_zeros 64 w ≤ 31)
digits w small =
    let length = leading_length 64 w (omega arith) in
    let is = digits-is w length.0 small length.2 length.3 in
    (omega (arith, length.1, is), omega (arith, length.1, few w length.0 small length.3))
