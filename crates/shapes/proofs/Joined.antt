-- Two stretches as ranges.
use Rattle.std.proofs.Common.{ℕ, ◌≤◌, ◌≡◌, ◌↔◌, ◌⊎◌, inl, inr, ⊎_elim, arith, max}
use Rattle.std.proofs.lemmas.Bool.{cases_lt}
use Rattle.shapes.specs.Lines.{IsWithin}
use Rattle.shapes.specs.declared.span.Span.{Span}

-- where the first is empty, and where the second is
pub only_second : (low high : Span) (a : Type 0) (t : ℕ) → low.end ≤ low.from → a ↔ IsWithin high t → a ↔ (IsWithin low t ⊎ IsWithin high t)
only_second low high a t none f = (λ x. inr (f.0 x), λ w. ⊎_elim (λ k. absurd (omega (arith, k.low, k.high))) (λ k. f.1 k) w)

pub only_first : (low high : Span) (a : Type 0) (t : ℕ) → high.end ≤ high.from → a ↔ IsWithin low t → a ↔ (IsWithin low t ⊎ IsWithin high t)
only_first low high a t none f = (λ x. inl (f.0 x), λ w. ⊎_elim (λ k. f.1 k) (λ k. absurd (omega (arith, k.low, k.high))) w)

-- where they touch, one that is both
pub both : (low high joined : Span) (a : Type 0) (t : ℕ) → low.from ≤ high.from → high.from ≤ low.end → joined.from ≡ low.from → joined.end ≡ max low.end high.end
    → a ↔ IsWithin joined t → a ↔ (IsWithin low t ⊎ IsWithin high t)
both low high joined a t order near e g f = (
  λ x. let k = f.0 x in
      ⊎_elim (λ lt. inl (record { low = omega (arith, k.low); high = lt }))
      (λ ge. inr (record { low = omega arith; high = omega (arith, k.high) }))
      (cases_lt t low.end),
  λ w. f.1 (⊎_elim (λ k. record { low = omega (arith, k.low); high = omega (arith, k.high) }) (λ k. record { low = omega (arith, k.low); high = omega (arith, k.high) }) w),
)

pub exchanged : (a p q : Type 0) → a ↔ (p ⊎ q) → a ↔ (q ⊎ p)
exchanged a p q f = (λ x. ⊎_elim (λ k. inr k) (λ k. inl k) (f.0 x), λ w. f.1 (⊎_elim (λ k. inr k) (λ k. inl k) w))
