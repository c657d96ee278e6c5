-- Each of a list, or the first fault: what comes of the rest comes of the whole.
use Rattle.std.proofs.Common.{◌≡◌, ◌≤◌, ◌+◌, ℕ, suc, List, [], ◌∷◌, ◌++◌, Some, Result, Ok, Err, length, drop, refl, sym, ap, ◌∙◌, subst, arith}
use Rattle.std.proofs.Math.Seq.{drop-cons}
use Rattle.std.proofs.Math.ListN.{drop_of_length-le}
use Rattle.std.proofs.lemmas.List.{append-nil, append_assoc}
use Rattle.std.proofs.lemmas.Option.{slice_get_within, get_or_from_slice_get}
use Rattle.std.specs.Prelude.{slice_get, ⊤}
use Rattle.item_blocks.specs.Finishes.{on_ok}
use Rattle.solid_items.specs.Sheets.{and_then}
use Rattle.scene_parser.specs.Placed.{each, appended}

-- the elements from a number on
pub from_here : {A : Type 0} (xs : List A) (i : ℕ) (x : A) → slice_get xs i ≡ Some x → drop i xs ≡ x ∷ drop (i + 1) xs
from_here xs i x is =
    let e : suc i ≡ i + 1 = omega arith in
    drop-cons xs i x (slice_get_within xs i x is) ∙ ap (λ y. y ∷ drop (suc i) xs) (get_or_from_slice_get xs i x x is) ∙ ap (λ n. x ∷ drop n xs) e

module _ {A B E : Type 0} (f : A → Result B E) where
  step : (ys : List B) (y : B) (r : Result (List B) E) → appended ys (on_ok r (λ zs. y ∷ zs)) ≡ appended (ys ++ y ∷ []) r
  step ys y (Ok zs) = ap (λ l. Ok l) (sym (append_assoc ys (y ∷ []) zs))
  step ys y (Err e) = refl

  pub turn_found : (xs : List A) (i : ℕ) (x : A) (y : B) (ys : List B) (all : Result (List B) E) → all ≡ appended ys (each f (drop i xs)) → slice_get xs i ≡ Some x → f x ≡ Ok y → all ≡ appended (ys ++ y ∷ []) (each f (drop (i + 1) xs))
  turn_found xs i x y ys all so at is =
      so ∙ ap (λ l. appended ys (each f l)) (from_here xs i x at)
      ∙ ap (λ r. appended ys (and_then r (λ y. on_ok (each f (drop (i + 1) xs)) (λ ys. y ∷ ys)))) is
      ∙ step ys y (each f (drop (i + 1) xs))

  pub turn_fault : (xs : List A) (i : ℕ) (x : A) (e : E) (ys : List B) (all : Result (List B) E) → all ≡ appended ys (each f (drop i xs)) → slice_get xs i ≡ Some x → f x ≡ Err e → all ≡ Err e
  turn_fault xs i x e ys all so at is =
      so ∙ ap (λ l. appended ys (each f l)) (from_here xs i x at)
      ∙ ap (λ r. appended ys (and_then r (λ y. on_ok (each f (drop (i + 1) xs)) (λ ys. y ∷ ys)))) is

  pub turn_end : (xs : List A) (i : ℕ) (ys : List B) (all : Result (List B) E) → all ≡ appended ys (each f (drop i xs)) → length xs ≤ i → all ≡ Ok ys
  turn_end xs i ys all so past = so ∙ ap (λ l. appended ys (each f l)) (drop_of_length-le xs past) ∙ ap (λ l. Ok l) (append-nil ys)

-- ---- what each has of its own

-- two lists that are related element by element
abbrev pub Pairs : {A B : Type 0} → (A → B → Type 0) → List A → List B → Type 0
Pairs R [] [] = ⊤
Pairs R [] (y ∷ ys) = ⊥
Pairs R (x ∷ xs) [] = ⊥
Pairs R (x ∷ xs) (y ∷ ys) = R x y × Pairs R xs ys

split : {A B E : Type 0} (R : A → B → Type 0) (x : A) (xs : List A) (ys : List B) (r : Result B E) (s : Result (List B) E) → ((y : B) → r ≡ Ok y → R x y) → ((zs : List B) → s ≡ Ok zs → Pairs R xs zs) → and_then r (λ y. on_ok s (λ ys. y ∷ ys)) ≡ Ok ys → Pairs R (x ∷ xs) ys
split R x xs ys (Ok y) (Ok zs) one rest is =
    let same : y ∷ zs ≡ ys = cc is in
    subst (λ l. Pairs R (x ∷ xs) l) same (one y refl, rest zs refl)
split R x xs ys (Ok y) (Err e) one rest is = absurd (cc is)
split R x xs ys (Err e) s one rest is = absurd (cc is)

pub each_pairs : {A B E : Type 0} (f : A → Result B E) (R : A → B → Type 0) → ((x : A) (y : B) → f x ≡ Ok y → R x y) → (xs : List A) (ys : List B) → each f xs ≡ Ok ys → Pairs R xs ys
each_pairs f R one [] ys is = let same : [] ≡ ys = cc is in subst (λ l. Pairs R [] l) same tt
each_pairs f R one (x ∷ xs) ys is = split R x xs ys (f x) (each f xs) (one x) (each_pairs f R one xs) is

pub same_count : {A B : Type 0} (R : A → B → Type 0) (xs : List A) (ys : List B) → Pairs R xs ys → length ys ≡ length xs
same_count R [] [] pairs = refl
same_count R [] (y ∷ ys) pairs = absurd pairs
same_count R (x ∷ xs) [] pairs = absurd pairs
same_count R (x ∷ xs) (y ∷ ys) pairs = ap suc (same_count R xs ys pairs.1)
