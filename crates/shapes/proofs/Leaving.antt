-- Where a span is left empty before all tests are asked: no number of it passes the others.
use Rattle.std.proofs.Common.{ℕ, ℤ, pos, ◌≤◌, ◌≤ℤ◌, ◌≡◌, ◌↔◌, true, Bool, arith, ◌&&◌, ◌∷◌, nat_lt}
use Rattle.shapes.specs.Faces.{ends, all_hold}
use Rattle.shapes.specs.Lines.{IsWithin, IsInStretches, is_in_stretches}
use Rattle.shapes.specs.declared.parts.Stretches.{Stretches}
use Rattle.shapes.specs.declared.span.Span.{Span}
use Rattle.shapes.proofs.Told.{told, and_test, ends_test, Between, Whole}

pub no_numbers : (s : Span) (t : ℕ) → s.end ≤ s.from → IsWithin s t → ⊥
no_numbers s t h w = absurd (omega (arith, w.low, w.high))

-- what a face leaves of a span, where what it needs leaves nothing
pub left_empty : (a b span near face : Type 0) → a ↔ b → (b → ⊥) → (face → near) → b ↔ (span × near) → a ↔ (span × face)
left_empty a b span near face f none g k = (
  λ w. absurd (none (f.0 w)),
  λ h. absurd (none (k.1 (h.0, g h.1))),
)

-- two tests in turn as one
pub both_tests : (a b span p q : Type 0) → a ↔ (span × p) → b ↔ (a × q) → b ↔ (span × (p × q))
both_tests a b span p q f g = (
  λ w. let k = g.0 w in let m = f.0 k.0 in (m.0, (m.1, k.1)),
  λ h. g.1 (f.1 (h.0, h.1.0), h.1.1),
)

-- a path in a shell between two ends, where the ends leave nothing
pub capped_none : (s : Stretches) (t end : ℕ) (face : Bool) (h z l : ℤ) (capped : Type 0) → z ≡ l
    → capped ↔ (Whole end t × (pos 0 ≤ℤ z) × (z ≤ℤ h)) → IsInStretches s t ↔ capped → (capped → ⊥)
    → is_in_stretches s t ≡ (nat_lt t end && all_hold (face ∷ ends h l))
capped_none s t end face h z l capped e f g none =
    told s t end _ ((face ≡ true) × Between h l) (and_test _ _ _ _ ((λ h. h), (λ h. h)) (ends_test h l)) (rw (← e) (
      λ i. absurd (none (g.0 i)),
      λ i. absurd (none (f.1 (record { low = omega arith; high = i.0 }, i.1.1.0, i.1.1.1))),
    ))
