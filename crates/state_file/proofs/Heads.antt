-- The bytes of a fresh file.
use Rattle.std.proofs.Common.{ℕ, suc, ◌+◌, ◌-◌, ◌<◌, ◌≤◌, ◌≡◌, List, [], ◌∷◌, ◌++◌, length, take, ◌∙◌, ap, arith, inl, inr, slice_index, append_assoc}
use Rattle.std.specs.Prelude.{replicate}
use Rattle.std.proofs.lemmas.Bool.{cases_lt}
use Rattle.std.proofs.lemmas.List.{get_or_append_left, get_or-append_right, get_or-replicate, get_or_past, take_all, length-replicate}

pub glue : (o p q r s key x1 x2 x3 x4 x5 x6 : List ℕ) (v : ℕ) → x1 ≡ o ++ v ∷ [] → x2 ≡ x1 ++ p → x3 ≡ x2 ++ q → x4 ≡ x3 ++ r
    → x5 ≡ x4 ++ s → x6 ≡ x5 ++ key → x6 ≡ o ++ (v ∷ (p ++ (q ++ (r ++ (s ++ key)))))
glue o p q r s key x1 x2 x3 x4 x5 x6 v e1 e2 e3 e4 e5 e6 =
    let f2 : x2 ≡ (o ++ v ∷ []) ++ p = e2 ∙ ap (λ x. x ++ p) e1 in
    let f3 : x3 ≡ ((o ++ v ∷ []) ++ p) ++ q = e3 ∙ ap (λ x. x ++ q) f2 in
    let f4 : x4 ≡ (((o ++ v ∷ []) ++ p) ++ q) ++ r = e4 ∙ ap (λ x. x ++ r) f3 in
    let f5 : x5 ≡ ((((o ++ v ∷ []) ++ p) ++ q) ++ r) ++ s = e5 ∙ ap (λ x. x ++ s) f4 in
    let f6 : x6 ≡ (((((o ++ v ∷ []) ++ p) ++ q) ++ r) ++ s) ++ key = e6 ∙ ap (λ x. x ++ key) f5 in
    f6 ∙ simp append_assoc

zeros : (m i : ℕ) → slice_index (replicate m 0) i ≡ 0
zeros m i = elim (cases_lt i m) [
  | inl lt ↦ get_or-replicate m i 0 0 lt
  | inr ge ↦ get_or_past (replicate m 0) i 0 (simp length-replicate ge)
]

pub fresh_head : (head x file : List ℕ) (n m : ℕ) → x ≡ 0 ∷ head → file ≡ take n x ++ replicate m 0 → 1 + length head ≤ n
    → (k : ℕ) → k < length head → slice_index file (1 + k) ≡ slice_index head k
fresh_head head x file n m e f h k hk =
    let s : 1 + k ≡ suc k = omega arith in
    let long : length (0 ∷ head) ≡ 1 + length head = omega arith in
    let all : take n (0 ∷ head) ≡ 0 ∷ head = take_all n (0 ∷ head) (omega arith) in
    let g : file ≡ (0 ∷ head) ++ replicate m 0 = f ∙ ap (λ y. take n y ++ replicate m 0) e ∙ ap (λ y. y ++ replicate m 0) all in
    let a : slice_index ((0 ∷ head) ++ replicate m 0) (suc k) ≡ slice_index (0 ∷ head) (suc k) =
    get_or_append_left (0 ∷ head) (replicate m 0) 0 (suc k) (omega arith) in
    ap (λ y. slice_index y (1 + k)) g ∙ ap (λ i. slice_index ((0 ∷ head) ++ replicate m 0) i) s ∙ a

pub fresh_blank_at : (head x file : List ℕ) (n m : ℕ) → x ≡ 0 ∷ head → file ≡ take n x ++ replicate m 0 → 1 + length head ≤ n
    → (k : ℕ) → 1 + length head ≤ k → slice_index file k ≡ 0
fresh_blank_at head x file n m e f h k hk =
    let long : length (0 ∷ head) ≡ 1 + length head = omega arith in
    let all : take n (0 ∷ head) ≡ 0 ∷ head = take_all n (0 ∷ head) (omega arith) in
    let g : file ≡ (0 ∷ head) ++ replicate m 0 = f ∙ ap (λ y. take n y ++ replicate m 0) e ∙ ap (λ y. y ++ replicate m 0) all in
    let a = get_or-append_right (0 ∷ head) (replicate m 0) (1 + length head) k 0 long hk in
    ap (λ y. slice_index y k) g ∙ a ∙ zeros m (k - (1 + length head))
