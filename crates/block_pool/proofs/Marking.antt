-- What the marks say of one block, and of all.
use Rattle.std.proofs.Common.{◌⊎◌, inl, inr, ⊎_elim, ℕ, List, [], ◌∷◌, ◌++◌, ◌≡◌, zero, suc, ◌<◌, ◌/◌, ◌%◌, ◌^◌, length, slice_index, get_or-set_same, get_or-set_other, refl, ap, sym, ◌∙◌, arith, subst, bit_or}
use Rattle.std.proofs.Math.ListN.{length-set}
use Rattle.std.specs.Int.{bit_at}
use Rattle.block_pool.specs.Counting.{times, mark_in}
use Rattle.block_pool.specs.Rule.{IsFair}
use Rattle.block_pool.specs.Views.{list_of, IsPlace, IsCommitted, IsDrawnBy, words_known, marked, IsMarking, MarksDrawn}
use Rattle.block_pool.specs.declared.view.Terms.{Terms}
use Rattle.block_pool.specs.declared.view.View.{View}
use native.Mathlib.Decide.{ℕ_discrete}
use mathlib.Core.Logic.{dite}
use Rattle.block_pool.proofs.Totals.{times-append}
use Rattle.block_pool.proofs.Marks.{equal_one, apart_none, OneMore}

module _ {K : Type 0} (was_block knew : K → ℕ → Type 0) (terms : Terms K) (v : View K) where
  -- a block of the list that is committed or drawn is so at its one place
  pub at_place : (x i : ℕ) → IsFair was_block knew (list_of terms) terms.start.value → IsPlace terms x i → IsCommitted knew terms (words_known v) x ⊎ IsDrawnBy terms v x → (mark_in (words_known v) i ≡ 1) ⊎ (0 < times i v.drawn)
  at_place x i fair here (inl (inl known)) = absurd (fair.closed i here.0 (subst (knew terms.start.value) (sym here.1) known))
  at_place x i fair here (inl (inr p)) = inl (ap (mark_in (words_known v)) (fair.apart i p.0 here.0 p.1.0 (here.1 ∙ sym p.1.1)) ∙ p.2)
  at_place x i fair here (inr p) = inr (subst (λ k. 0 < times k v.drawn) (sym (fair.apart i p.0 here.0 p.1.0 (here.1 ∙ sym p.1.1))) p.2)

module _ {K : Type 0} (v : View K) where
  -- the words of the view after a number was marked
  pub more_known : (i : ℕ) → i / 64 < length v.known → OneMore i (words_known v) (words_known (marked v i (i / 64) (bit_or (words_known v (i / 64)) (2 ^ (i % 64)))))
  more_known i inside = record {
    here = get_or-set_same v.known (i / 64) (bit_or (words_known v (i / 64)) (2 ^ (i % 64))) 0 inside;
    others = λ j far. get_or-set_other v.known (i / 64) j (bit_or (words_known v (i / 64)) (2 ^ (i % 64))) 0 far;
  }

  pub is_marking : (i word : ℕ) → IsMarking v (marked v i (i / 64) word)
  is_marking i word = record { told = refl; parts = refl; drawn = refl; through = refl; misses = refl; turn = refl; lifted = refl; kept = refl; words = length-set v.known (i / 64) word }

pub marking_twice : {K : Type 0} (u v w : View K) → IsMarking u v → IsMarking v w → IsMarking u w
marking_twice u v w a b = record { told = b.told ∙ a.told; parts = b.parts ∙ a.parts; drawn = b.drawn ∙ a.drawn; through = b.through ∙ a.through; misses = b.misses ∙ a.misses; turn = b.turn ∙ a.turn; lifted = b.lifted ∙ a.lifted; kept = b.kept ∙ a.kept; words = b.words ∙ a.words }

bit_is : (n k : ℕ) → (bit_at n k ≡ 0) ⊎ (bit_at n k ≡ 1)
bit_is n k = one_or_none (bit_at n k) (omega arith)
  where
    one_or_none : (b : ℕ) → b < 2 → (b ≡ 0) ⊎ (b ≡ 1)
    one_or_none zero h = inl refl
    one_or_none (suc zero) h = inr refl
    one_or_none (suc (suc b)) h = absurd (omega arith)

pub clear_bit : (n k : ℕ) → (bit_at n k ≡ 1 → ⊥) → bit_at n k ≡ 0
clear_bit n k h = ⊎_elim (λ e. e) (λ e. absurd (h e)) (bit_is n k)

module _ {K : Type 0} (knows : ℕ → Type 0) (list : List ℕ) where
  -- nothing is marked
  pub none_marked : (v w : View K) → w.marked ≡ v.marked → MarksDrawn knows list v w
  none_marked v w e = record { grown = λ i. let t : times i w.marked ≡ times i v.marked = ap (times i) e in omega arith; only = λ i. inl (ap (times i) e) }

  -- one number is marked
  pub one_marked : (v w : View K) (i : ℕ) → w.marked ≡ v.marked ++ i ∷ [] → i < length list → knows (slice_index list i) → 0 < times i v.drawn → MarksDrawn knows list v w
  one_marked v w i e inside known drawn = record {
    grown = λ k. (let t : times k w.marked ≡ times k (v.marked ++ i ∷ []) = ap (times k) e in let a = times-append k v.marked (i ∷ []) in omega arith);
    only = λ k. dite (ℕ_discrete k i)
        (λ same. inr (subst (λ j. j < length list) (sym same) inside, subst (λ j. knows (slice_index list j)) (sym same) known, subst (λ j. 0 < times j v.drawn) (sym same) drawn))
        (λ apart. inl (let t : times k w.marked ≡ times k (v.marked ++ i ∷ []) = ap (times k) e in let a = times-append k v.marked (i ∷ []) in let n = apart_none k i apart in omega arith));
  }

  -- some are marked, and then some more
  pub more_marked : (u v w : View K) → v.drawn ≡ u.drawn → MarksDrawn knows list u v → MarksDrawn knows list v w → MarksDrawn knows list u w
  more_marked u v w same a b = record {
    grown = λ i. (let x = a.grown i in let y = b.grown i in omega arith);
    only = λ i. ⊎_elim (λ e. ⊎_elim (λ d. inl (e ∙ d)) inr (a.only i)) (λ p. inr (p.0, p.1, subst (λ (d : List ℕ). 0 < times i d) same p.2)) (b.only i);
  }

pub marked_here : (i : ℕ) (xs : List ℕ) → 0 < times i (xs ++ i ∷ [])
marked_here i xs = let a = times-append i xs (i ∷ []) in let o = equal_one i i refl in omega arith

-- what is committed stays so while bits are set
pub committed_on : {K : Type 0} (knew : K → ℕ → Type 0) (terms : Terms K) (v w : View K) (x : ℕ)
    → ((j : ℕ) → j < length (list_of terms) → mark_in (words_known v) j ≡ 1 → mark_in (words_known w) j ≡ 1)
    → IsCommitted knew terms (words_known v) x → IsCommitted knew terms (words_known w) x
committed_on knew terms v w x more (inl k) = inl k
committed_on knew terms v w x more (inr p) = inr (p.0, p.1, more p.0 p.1.0 p.2)

pub drawn_on : {K : Type 0} (terms : Terms K) (v w : View K) (x : ℕ) → w.drawn ≡ v.drawn → IsDrawnBy terms v x → IsDrawnBy terms w x
drawn_on terms v w x same p = (p.0, p.1, subst (λ (d : List ℕ). 0 < times p.0 d) (sym same) p.2)
