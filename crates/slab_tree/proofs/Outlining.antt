-- Boxes of pieces, and which pieces stand in the tree.
use lib.Dec.{eqb}
use Rattle.std.proofs.Common.{ℕ, zero, suc, ◌+◌, ◌-◌, ◌<◌, ◌≤◌, ◌≡◌, Bool, true, false, ◌||◌, nat_eq, Some, List, [], ◌∷◌, ◌++◌, length, take, slice_get, IsPermutation, refl, ap, sym, subst, ◌∙◌, ⊎_elim, arith}
use Rattle.std.specs.List.{AllZip, list_any, range_with_len}
use Rattle.std.proofs.Math.Nat.{eq-or-lt_of_le}
use Rattle.std.proofs.lemmas.Bool.{eq-eqb, or_cases, or_left, or_right}
use Rattle.std.proofs.lemmas.List.{length-append, take_at}
use Rattle.std.proofs.lemmas.List.Folds.{list_any-append}
use Rattle.std.proofs.lemmas.List.Sorted.{length_permutation, list_any-IsPermutation}
use Rattle.std.proofs.lemmas.Option.{none-some, same_Some, slice_get_past}
use Rattle.shapes.specs.Rays.{Position, IsInWorld, point_at}
use Rattle.leaf_boxes.specs.declared.bounds.Box3.{Box3}
use Rattle.leaf_boxes.specs.Boxes.{IsInBox}
use Rattle.csg_hits.specs.Bounds.{IsBounded}
use Rattle.csg_hits.specs.Pieces.{Pieces, is_piece_struck, piece_struck}
use Rattle.csg_hits.specs.Surfaces.{leaf_on}
use Rattle.box_probe.specs.declared.bounds.Bounds.{Bounds}
use Rattle.box_probe.specs.Boxes.{IsInBounds}
use Rattle.slab_tree.specs.Outlines.{AreBoxes, IsHeld, IsWhole}

is_false : (b : Bool) → ¬ (b ≡ true) → b ≡ false
is_false true h = absurd (h refl)
is_false false h = refl

-- ---- one piece

pub held : (s : Pieces) (piece : ℕ) (box : Box3) (bounds : Bounds) → IsBounded s piece box → ((p : Position) → IsInWorld p → IsInBox box p → IsInBounds bounds p) → IsHeld s piece bounds
held s piece box bounds bounded around = λ ray shadow t leaf one before here out_before out_here. is_false (is_piece_struck s ray shadow t piece leaf) (λ e. ⊎_elim
    (λ i. out_before (around (point_at ray (t - 1)) before i))
    (λ i. out_here (around (point_at ray t) here i))
    (bounded ray shadow t leaf one before here e))

pub wider : (s : Pieces) (piece : ℕ) (a b : Bounds) → ((p : Position) → IsInBounds a p → IsInBounds b p) → IsHeld s piece a → IsHeld s piece b
wider s piece a b wide h = λ ray shadow t leaf one before here out_before out_here. h ray shadow t leaf one before here (λ i. out_before (wide (point_at ray (t - 1)) i)) (λ i. out_here (wide (point_at ray t) i))

-- a number that no piece has
pub nothing : (s : Pieces) (piece : ℕ) (bounds : Bounds) → length s.pieces ≤ piece → IsHeld s piece bounds
nothing s piece bounds past = λ ray shadow t leaf one before here out_before out_here.
    ap (piece_struck (leaf_on s.leaves ray t) shadow leaf) (slice_get_past s.pieces piece past)

-- ---- all pieces

numbered_length : (R : ℕ → Bounds → Type 0) (from n : ℕ) (ys : List Bounds) → AllZip R (range_with_len from n) ys → length ys ≡ n
numbered_length R from zero [] h = refl
numbered_length R from zero (y ∷ ys) h = absurd h
numbered_length R from (suc n) [] h = absurd h
numbered_length R from (suc n) (y ∷ ys) h = ap suc (numbered_length R (from + 1) n ys h.1)

numbered : (R : ℕ → Bounds → Type 0) (from n : ℕ) (ys : List Bounds) → AllZip R (range_with_len from n) ys → (k : ℕ) (b : Bounds) → slice_get ys k ≡ Some b → R (from + k) b
numbered R from zero [] h k b e = absurd (none-some b e)
numbered R from zero (y ∷ ys) h k b e = absurd h
numbered R from (suc n) [] h k b e = absurd h
numbered R from (suc n) (y ∷ ys) h zero b e = let P : Bounds → Type 0 = λ z. R (from + 0) z in let Q : ℕ → Type 0 = λ z. R z y in let same : from ≡ from + 0 = omega arith in subst P (same_Some y b e) (subst Q same h.0)
numbered R from (suc n) (y ∷ ys) h (suc k) b e = let Q : ℕ → Type 0 = λ z. R z b in let same : (from + 1) + k ≡ from + suc k = omega arith in subst Q same (numbered R (from + 1) n ys h.1 k b e)

pub boxes_of : (s : Pieces) (xs : List ℕ) (ys items : List Bounds) (n : ℕ) → items ≡ ys → xs ≡ range_with_len 0 n → n ≡ length s.pieces → AllZip (IsHeld s) xs ys → AreBoxes s items
boxes_of s xs ys items n same places count h =
    let P : List ℕ → Type 0 = λ l. AllZip (IsHeld s) l ys in
    let k : AllZip (IsHeld s) (range_with_len 0 n) ys = subst P places h in
    let Q : List Bounds → Type 0 = λ l. AreBoxes s l in
    subst Q (sym same) (record {
      count = numbered_length (IsHeld s) 0 n ys k ∙ count;
      held = λ piece b e. (let R : ℕ → Type 0 = λ z. IsHeld s z b in let zeroed : 0 + piece ≡ piece = omega arith in subst R zeroed (numbered (IsHeld s) 0 n ys k piece b e));
    })

-- ---- which stand where

pub none_yet : IsWhole 0 [] []
none_yet = record { each = λ piece lt. absurd (omega arith); places = refl }

self_eq : (n : ℕ) → nat_eq n n ≡ true
self_eq n = eq-eqb n n refl

pushed_last : (xs : List ℕ) (n : ℕ) → list_any (λ m. nat_eq m n) (xs ++ n ∷ []) ≡ true
pushed_last xs n = list_any-append (λ m. nat_eq m n) xs (n ∷ []) ∙ or_right (list_any (λ m. nat_eq m n) xs) (list_any (λ m. nat_eq m n) (n ∷ [])) (or_left (nat_eq n n) false (self_eq n))

pushed_kept : (xs : List ℕ) (n piece : ℕ) → list_any (λ m. nat_eq m piece) xs ≡ true → list_any (λ m. nat_eq m piece) (xs ++ n ∷ []) ≡ true
pushed_kept xs n piece h = list_any-append (λ m. nat_eq m piece) xs (n ∷ []) ∙ or_left (list_any (λ m. nat_eq m piece) xs) (list_any (λ m. nat_eq m piece) (n ∷ [])) h

last_or_before : (n piece : ℕ) (P : ℕ → Type 0) → piece < n + 1 → P n → (piece < n → P piece) → P piece
last_or_before n piece P lt now before = ⊎_elim (λ e. subst P (sym e) now) (λ less. before less) (let le : piece ≤ n = omega arith in eq-or-lt_of_le le)

pub put_apart : (n : ℕ) (apart order : List ℕ) → IsWhole n apart order → IsWhole (n + 1) (apart ++ n ∷ []) order
put_apart n apart order h = record {
  each = λ piece lt. last_or_before n piece (λ x. (list_any (λ m. nat_eq m x) (apart ++ n ∷ []) || list_any (λ m. nat_eq m x) order) ≡ true) lt
      (or_left (list_any (λ m. nat_eq m n) (apart ++ n ∷ [])) (list_any (λ m. nat_eq m n) order) (pushed_last apart n))
      (λ less. ⊎_elim
      (λ k. or_left (list_any (λ m. nat_eq m piece) (apart ++ n ∷ [])) (list_any (λ m. nat_eq m piece) order) (pushed_kept apart n piece k))
      (λ k. or_right (list_any (λ m. nat_eq m piece) (apart ++ n ∷ [])) (list_any (λ m. nat_eq m piece) order) k)
      (or_cases (list_any (λ m. nat_eq m piece) apart) (list_any (λ m. nat_eq m piece) order) (h.each piece less)));
  places = let e = length-append apart (n ∷ []) in omega (arith, h.places);
}

pub put_order : (n : ℕ) (apart order : List ℕ) → IsWhole n apart order → IsWhole (n + 1) apart (order ++ n ∷ [])
put_order n apart order h = record {
  each = λ piece lt. last_or_before n piece (λ x. (list_any (λ m. nat_eq m x) apart || list_any (λ m. nat_eq m x) (order ++ n ∷ [])) ≡ true) lt
      (or_right (list_any (λ m. nat_eq m n) apart) (list_any (λ m. nat_eq m n) (order ++ n ∷ [])) (pushed_last order n))
      (λ less. ⊎_elim
      (λ k. or_left (list_any (λ m. nat_eq m piece) apart) (list_any (λ m. nat_eq m piece) (order ++ n ∷ [])) k)
      (λ k. or_right (list_any (λ m. nat_eq m piece) apart) (list_any (λ m. nat_eq m piece) (order ++ n ∷ [])) (pushed_kept order n piece k))
      (or_cases (list_any (λ m. nat_eq m piece) apart) (list_any (λ m. nat_eq m piece) order) (h.each piece less)));
  places = let e = length-append order (n ∷ []) in omega (arith, h.places);
}

pub arranged : (n : ℕ) (apart order other : List ℕ) → IsPermutation order other → IsWhole n apart order → IsWhole n apart other
arranged n apart order other moved h = record {
  each = λ piece lt. (let P : Bool → Type 0 = λ b. (list_any (λ m. nat_eq m piece) apart || b) ≡ true in subst P (list_any-IsPermutation (λ m. nat_eq m piece) order other moved) (h.each piece lt));
  places = omega (arith, length_permutation order other moved, h.places);
}

pub whole_of : (n m : ℕ) (apart order middle other rest : List ℕ) (len : ℕ) → m ≡ n → middle ≡ order → len ≡ length middle → IsPermutation middle other → IsWhole m apart order → IsWhole n apart (take len (other ++ rest))
whole_of n m apart order middle other rest len count same long moved h =
    let P : List ℕ → Type 0 = λ l. IsWhole m apart l in
    let Q : ℕ → Type 0 = λ k. IsWhole k apart (take len (other ++ rest)) in
    let e : length other ≡ len = length_permutation middle other moved ∙ sym long in
    subst Q count (subst P (sym (take_at other rest len e)) (arranged m apart middle other moved (subst P (sym same) h)))
