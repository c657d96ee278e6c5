-- One place of a row of marks is set.
use Rattle.std.proofs.Common.{◌≡◌, ◌⊎◌, inl, inr, ℕ, zero, suc, ◌<◌, List, [], ◌∷◌, length, set, get_or, get_or-set_same, replicate, get_or-set_other, ap, sym, subst, ◌∙◌, refl, arith, Bool, true, false}
use native.Mathlib.Decide.{ℕ_discrete}
use mathlib.Core.Logic.{dite}

inside : (l : List Bool) (x : ℕ) → get_or l x false ≡ true → x < length l
inside [] x e = absurd (cc)
inside (b ∷ bs) zero e = omega arith
inside (b ∷ bs) (suc x) e = let below = inside bs x e in omega arith

pub set_more : (l : List Bool) (i x : ℕ) → get_or (set l i true) x false ≡ true → (get_or l x false ≡ true) ⊎ (x ≡ i)
set_more l i x e = dite (ℕ_discrete x i) inr (λ apart. inl (sym (get_or-set_other l i x true false apart) ∙ e))

pub set_kept : (l : List Bool) (i x : ℕ) → get_or l x false ≡ true → get_or (set l i true) x false ≡ true
set_kept l i x e = dite (ℕ_discrete x i)
    (λ same. let below : i < length l = subst (λ j. j < length l) same (inside l x e) in ap (λ j. get_or (set l i true) j false) same ∙ get_or-set_same l i true false below)
    (λ apart. get_or-set_other l i x true false apart ∙ e)

pub none_set : (n x : ℕ) → get_or (replicate n false) x false ≡ false
none_set zero x = refl
none_set (suc n) zero = refl
none_set (suc n) (suc x) = none_set n x
