-- Curves whose steps change evenly: which way they bend, and the numbers at which they aren't above 0.
use Rattle.std.proofs.Common.{ℕ, zero, suc, ℤ, pos, negsuc, ◌+◌, ◌<◌, ◌≤◌, ◌+ℤ◌, ◌-ℤ◌, ◌*ℤ◌, ◌<ℤ◌, ◌≤ℤ◌, ◌≡◌, ◌↔◌, ◌⊎◌, inl, inr, ⊎_elim, subst, ap, sym, arith}
use Rattle.std.proofs.lemmas.Int.{ints, by_lt_z}
use Rattle.std.proofs.lemmas.Bool.{cases_lt}
use Rattle.fix_math.specs.Order.{mul-le_left}
use Rattle.shapes.specs.Bends.{HasBend}
use Rattle.shapes.specs.Lines.{IsWithin}
use Rattle.shapes.specs.declared.span.Span.{Span}

-- the step at s + n is the step at s and n bends more
step_on : (v : ℕ → ℤ) (k : ℤ) → HasBend v k → (s n : ℕ) → (v (s + n + 1) -ℤ v (s + n)) ≡ (v (s + 1) -ℤ v s) +ℤ (pos n *ℤ k)
step_on v k h s zero =
    let e : v (s + 0 + 1) ≡ v (s + 1) = ap v (omega arith) in
    let f : v (s + 0) ≡ v s = ap v (omega arith) in
    let z : pos 0 *ℤ k ≡ pos 0 = omega (arith, ints) in
    omega (arith, ints)
step_on v k h s (suc n) =
    let e : v (s + suc n + 1) ≡ v (s + n + 2) = ap v (omega arith) in
    let f : v (s + suc n) ≡ v (s + n + 1) = ap v (omega arith) in
    let b = h.bend (s + n) in
    let ih = step_on v k h s n in
    let m : pos (n + 1) *ℤ k ≡ pos n *ℤ k +ℤ k = omega (arith, ints) in
    let w : pos (suc n) *ℤ k ≡ pos (n + 1) *ℤ k = ap (λ (j : ℕ). pos j *ℤ k) (omega arith) in
    omega (arith, ints)

-- what a curve climbs from s + h over m numbers is what it climbs from s, and m times h bends more
climb_on : (v : ℕ → ℤ) (k : ℤ) → HasBend v k → (s h m : ℕ) → ((v (s + h + m) -ℤ v (s + h)) -ℤ (v (s + m) -ℤ v s)) ≡ pos m *ℤ (pos h *ℤ k)
climb_on v k b s h zero =
    let e : v (s + h + 0) ≡ v (s + h) = ap v (omega arith) in
    let f : v (s + 0) ≡ v s = ap v (omega arith) in
    let z : pos 0 *ℤ (pos h *ℤ k) ≡ pos 0 = omega (arith, ints) in
    omega (arith, ints)
climb_on v k b s h (suc m) =
    let d = step_on v k b (s + m) h in
    let e : v (s + h + suc m) ≡ v (s + m + h + 1) = ap v (omega arith) in
    let f : v (s + suc m) ≡ v (s + m + 1) = ap v (omega arith) in
    let g : v (s + h + m) ≡ v (s + m + h) = ap v (omega arith) in
    let ih = climb_on v k b s h m in
    let n : pos (m + 1) *ℤ (pos h *ℤ k) ≡ pos m *ℤ (pos h *ℤ k) +ℤ (pos h *ℤ k) = omega (arith, ints) in
    let w : pos (suc m) *ℤ (pos h *ℤ k) ≡ pos (m + 1) *ℤ (pos h *ℤ k) = ap (λ (j : ℕ). pos j *ℤ (pos h *ℤ k)) (omega arith) in
    omega (arith, ints)

below_twice : (h : ℕ) (k : ℤ) → 0 < h → k <ℤ pos 0 → (pos h *ℤ (pos h *ℤ k)) <ℤ pos 0
below_twice h k some lt =
    let a : (pos h *ℤ k) ≤ℤ (pos h *ℤ negsuc 0) = mul-le_left k (negsuc 0) (pos h) (omega (arith, ints)) (omega (arith, ints)) in
    let b : (pos h *ℤ (pos h *ℤ k)) ≤ℤ (pos h *ℤ negsuc 0) = mul-le_left (pos h *ℤ k) (negsuc 0) (pos h) (omega (arith, ints)) (omega (arith, ints)) in
    omega (arith, ints)

above_twice : (h : ℕ) (k : ℤ) → pos 0 ≤ℤ k → pos 0 ≤ℤ (pos h *ℤ (pos h *ℤ k))
above_twice h k le =
    let a : (pos h *ℤ pos 0) ≤ℤ (pos h *ℤ k) = mul-le_left (pos 0) k (pos h) (omega (arith, ints)) le in
    let b : (pos h *ℤ pos 0) ≤ℤ (pos h *ℤ (pos h *ℤ k)) = mul-le_left (pos 0) (pos h *ℤ k) (pos h) (omega (arith, ints)) (omega (arith, ints)) in
    omega (arith, ints)

pub opens_from : (v : ℕ → ℤ) (k : ℤ) → HasBend v k → (s h : ℕ) → 0 < h → (v (s + h) -ℤ v s) ≤ℤ (v (s + h + h) -ℤ v (s + h)) → pos 0 ≤ℤ k
opens_from v k b s h some le =
    let e = climb_on v k b s h h in
    by_lt_z k (pos 0) (λ lt. let n = below_twice h k some lt in absurd (omega (arith, ints))) (λ ge. ge)

pub closes_from : (v : ℕ → ℤ) (k : ℤ) → HasBend v k → (s h : ℕ) → (v (s + h + h) -ℤ v (s + h)) <ℤ (v (s + h) -ℤ v s) → k ≤ℤ pos 0
closes_from v k b s h lt =
    let e = climb_on v k b s h h in
    by_lt_z k (pos 0) (λ low. omega (arith, ints)) (λ ge. let n = above_twice h k ge in absurd (omega (arith, ints)))

-- at most two numbers, each asked alone
pub few_iff : (v : ℕ → ℤ) (span one two : Span) → span.from < span.end → span.end ≤ span.from + 2
    → ((s : ℕ) → IsWithin one s ↔ ((s ≡ span.from) × (v span.from ≤ℤ pos 0)))
    → ((s : ℕ) → IsWithin two s ↔ ((s ≡ span.from + 1) × (span.from + 1 < span.end) × (v (span.from + 1) ≤ℤ pos 0)))
    → (t : ℕ) → (IsWithin one t ⊎ IsWithin two t) ↔ (IsWithin span t × (v t ≤ℤ pos 0))
few_iff v span one two some few first second t =
    let P : ℕ → Type 0 = λ s. IsWithin span s × (v s ≤ℤ pos 0) in
    let Q : ℕ → Type 0 = λ s. v s ≤ℤ pos 0 in (
      λ w. ⊎_elim
          (λ a. let k = (first t).0 a in subst P (sym k.0) (record { low = omega arith; high = some }, k.1))
          (λ a. let k = (second t).0 a in subst P (sym k.0) (record { low = omega arith; high = k.1 }, k.2)) w,
      λ h. ⊎_elim
          (λ lt. let e : t ≡ span.from = omega (arith, h.0.low, h.0.high) in inl ((first t).1 (e, subst Q e h.1)))
          (λ ge. let e : t ≡ span.from + 1 = omega (arith, h.0.low, h.0.high) in inr ((second t).1 (e, omega (arith, h.0.high), subst Q e h.1)))
          (cases_lt t (span.from + 1)),
    )

-- where a curve isn't above 0, by where the turned one isn't above -1
pub turned_iff : (v : ℤ) (a b d : Type 0) → a ↔ (b × ¬ d) → d ↔ (b × ((pos 0 -ℤ v) ≤ℤ negsuc 0)) → a ↔ (b × (v ≤ℤ pos 0))
turned_iff v a b d h k = (
  λ x. let m = h.0 x in (m.0, by_lt_z (pos 0) v (λ lt. absurd (m.1 (k.1 (m.0, omega (arith, ints))))) (λ le. le)),
  λ y. h.1 (y.0, λ x. let m = k.0 x in let n = m.1 in let o = y.1 in absurd (omega (arith, ints))),
)
