-- A list ends at one place at most.
use Rattle.std.proofs.Common.{ℕ, ◌≡◌, refl, subst, sym, ◌∙◌, List}
use Rattle.text_structure.specs.declared.mark.Mark.{Mark}
use Rattle.text_structure.specs.declared.closer.Closer.{Closer}
use Rattle.text_structure.specs.declared.closer.Turn.{Turn}
use Rattle.text_structure.specs.Turns.{turn_at, past}
use Rattle.text_structure.specs.Ends.{Ends}

-- where a list ends, by what its first token is to it
abbrev EndsBy : List Mark → Closer → ℕ → Turn → ℕ → Type 0
EndsBy m closer at Turn.Stop end = end ≡ at
EndsBy m closer at (Turn.Over next) end = Ends m closer next end
EndsBy m closer at (Turn.Inside inner start) end = (last : ℕ) × Ends m inner start last × Ends m closer (past m inner last) end

by_turn : (m : List Mark) (closer : Closer) (at end : ℕ) (t : Turn) → turn_at m closer at ≡ t → Ends m closer at end → EndsBy m closer at t end
by_turn m closer at end t is (Ends.here _ _ was) = subst (λ u. EndsBy m closer at u at) (sym was ∙ is) refl
by_turn m closer at end t is (Ends.over _ _ next _ was rest) = subst (λ u. EndsBy m closer at u end) (sym was ∙ is) rest
by_turn m closer at end t is (Ends.inside _ inner _ start last _ was within rest) = subst (λ u. EndsBy m closer at u end) (sym was ∙ is) (last, within, rest)

pub one_end : (m : List Mark) (closer : Closer) (at a b : ℕ) → Ends m closer at a → Ends m closer at b → a ≡ b
one_end m closer at a b (Ends.here _ _ is) other = sym (by_turn m closer at b Turn.Stop is other)
one_end m closer at a b (Ends.over _ _ next _ is rest) other = one_end m closer next a b rest (by_turn m closer at b (Turn.Over next) is other)
one_end m closer at a b (Ends.inside _ inner _ start last _ is within rest) other =
    let found = by_turn m closer at b (Turn.Inside inner start) is other in
    let same : last ≡ found.0 = one_end m inner start last found.0 within found.1 in
    one_end m closer (past m inner last) a b rest (subst (λ k. Ends m closer (past m inner k) b) (sym same) found.2)
