-- The blocks that are left.
use Rattle.std.proofs.Common.{ℕ, ◌+◌, ◌<◌, ◌≡◌, ◌≢◌, ◌⊎◌, List, [], ◌∷◌, ◌++◌, length, refl, sym, ◌∙◌, subst, inl, inr, ap, arith, slice_index, length-append, get_or}
use Rattle.std.proofs.Math.Seq.{get_or-append_seam}
use Rattle.std.proofs.lemmas.Bool.{cases_lt}
use Rattle.std.proofs.lemmas.List.{get_or_append_left, get_or_default}
use Rattle.state_file.specs.declared.mark.Mark.{Mark}
use Rattle.state_file.specs.declared.mark.Mark.TheVariants.{Shut, Ready, Open}
use Rattle.state_file.specs.Marks.{mark_at}

-- those of the first so many blocks
pub record TodoUpTo (marks : List Mark) (n : ℕ) (list : List ℕ) : Type 0 where
  pub left : (i : ℕ) → i < length list → (slice_index list i < n) × ¬ (mark_at marks (slice_index list i) ≡ Open)
  pub all : (b : ℕ) → b < n → ¬ (mark_at marks b ≡ Open) → (i : ℕ) × (i < length list) × (slice_index list i ≡ b)
  pub ascending : (i j : ℕ) → i < j → j < length list → slice_index list i < slice_index list j

pub todo_known : (marks : List Mark) (n : ℕ) (old new : List ℕ) → mark_at marks n ≡ Open → new ≡ old → TodoUpTo marks n old
    → TodoUpTo marks (n + 1) new
todo_known marks n old new o e t =
    let t' : TodoUpTo marks (n + 1) old = record {
      left = λ i h. let w = t.left i h in (omega (arith, w.0), w.1);
      all = λ b hb no'. elim (cases_lt b n) [
        | inl lt ↦ t.all b lt no'
        | inr ge ↦ let same : n ≡ b = omega arith in absurd (no' (subst (λ x. mark_at marks x ≡ Open) same o))
      ];
      ascending = t.ascending;
    } in
    subst (λ x. TodoUpTo marks (n + 1) x) (sym e) t'

pub todo_left : (marks : List Mark) (n : ℕ) (old new : List ℕ) → ¬ (mark_at marks n ≡ Open) → new ≡ old ++ n ∷ [] → TodoUpTo marks n old
    → TodoUpTo marks (n + 1) new
todo_left marks n old new out e t =
    let long : length (old ++ n ∷ []) ≡ length old + 1 = length-append old (n ∷ []) in
    let front : (i : ℕ) → i < length old → slice_index (old ++ n ∷ []) i ≡ slice_index old i = λ i h. get_or_append_left old (n ∷ []) 0 i h in
    let back : slice_index (old ++ n ∷ []) (length old) ≡ n = get_or-append_seam old n [] 0 in
    let t' : TodoUpTo marks (n + 1) (old ++ n ∷ []) = record {
      left = λ i h. elim (cases_lt i (length old)) [
        | inl lt ↦
            let w = t.left i lt in
            let below : slice_index old i < n = w.0 in
            let same = front i lt in
            (omega arith, λ o. w.1 (subst (λ x. mark_at marks x ≡ Open) same o))
        | inr ge ↦
            let at : i ≡ length old = omega arith in
            let same : slice_index (old ++ n ∷ []) i ≡ n = ap (λ x. slice_index (old ++ n ∷ []) x) at ∙ back in
            (omega arith, λ o. out (subst (λ x. mark_at marks x ≡ Open) same o))
      ];
      all = λ b hb no'. elim (cases_lt b n) [
        | inl lt ↦ let w = t.all b lt no' in (w.0, omega (arith, w.1, long), front w.0 w.1 ∙ w.2)
        | inr ge ↦ let same : n ≡ b = omega arith in (length old, omega (arith, long), back ∙ same)
      ];
      ascending = λ i j h hj. elim (cases_lt j (length old)) [
        | inl lt ↦
            let li : i < length old = omega arith in
            let a = front i li in
            let b = front j lt in
            let c = t.ascending i j h lt in
            omega arith
        | inr ge ↦
            let at : j ≡ length old = omega arith in
            let li : i < length old = omega arith in
            let same : slice_index (old ++ n ∷ []) j ≡ n = ap (λ x. slice_index (old ++ n ∷ []) x) at ∙ back in
            let a = front i li in
            let c = (t.left i li).0 in
            omega arith
      ];
    } in
    subst (λ x. TodoUpTo marks (n + 1) x) (sym e) t'

open_or_not : (m : Mark) → (m ≡ Open) ⊎ (m ≢ Open)
open_or_not Shut = inr (λ e. cc)
open_or_not Ready = inr (λ e. cc)
open_or_not Open = inl refl

-- one block more
pub todo_more : (marks : List Mark) (n : ℕ) (m : Mark) (old new : List ℕ) → m ≡ mark_at marks n
    → (m ≡ Open → new ≡ old) → (m ≢ Open → new ≡ old ++ n ∷ []) → TodoUpTo marks n old → TodoUpTo marks (n + 1) new
todo_more marks n m old new e known left t = elim (open_or_not m) [
  | inl o ↦ todo_known marks n old new (sym e ∙ o) (known o) t
  | inr no' ↦ todo_left marks n old new (λ o. no' (e ∙ o)) (left no') t
]

-- the mark that the loop reads
pub same_mark : (items marks : List Mark) (n : ℕ) (d : Mark) → items ≡ marks → n < length items → get_or items n d ≡ mark_at marks n
same_mark items marks n d e lt = get_or_default items n d Shut lt ∙ ap (λ x. get_or x n Shut) e
