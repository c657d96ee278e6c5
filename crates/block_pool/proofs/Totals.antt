-- Sums over views, one of which changes.
use Rattle.std.proofs.Common.{◌≡◌, ◌≢◌, ℕ, zero, suc, ◌+◌, ◌≤◌, List, [], ◌∷◌, ◌++◌, set, refl, ap, sym, arith}
use mathlib.Core.Option.{some, some-injective, some-ne-none}
use lib.ListN.{get_elem?}
use Rattle.block_pool.specs.Counting.{total, times, over}

module _ {A : Type 0} (f : A → ℕ) where
  pub total_set : (views : List A) (id : ℕ) (v w : A) → get_elem? views id ≡ some v → total f (set views id w) + f v ≡ total f views + f w
  total_set [] id v w at = absurd (some-ne-none v (sym at))
  total_set (x ∷ xs) zero v w at = let e : f x ≡ f v = ap f (some-injective x v at) in omega arith
  total_set (x ∷ xs) (suc id) v w at = let e = total_set xs id v w at in omega arith

  pub total_snoc : (views : List A) (w : A) → total f (views ++ w ∷ []) ≡ total f views + f w
  total_snoc [] w = omega arith
  total_snoc (x ∷ xs) w = let e = total_snoc xs w in omega arith

  pub total_above : (views : List A) (id : ℕ) (v : A) → get_elem? views id ≡ some v → f v ≤ total f views
  total_above [] id v at = absurd (some-ne-none v (sym at))
  total_above (x ∷ xs) zero v at = let e : f x ≡ f v = ap f (some-injective x v at) in omega arith
  total_above (x ∷ xs) (suc id) v at = let e = total_above xs id v at in omega arith

  -- two views at different places
  pub total_two : (views : List A) (id other : ℕ) (v w : A) → get_elem? views id ≡ some v → get_elem? views other ≡ some w → id ≢ other → f v + f w ≤ total f views
  total_two [] id other v w at at' ne = absurd (some-ne-none v (sym at))
  total_two (x ∷ xs) zero zero v w at at' ne = absurd (ne refl)
  total_two (x ∷ xs) zero (suc other) v w at at' ne = let e : f x ≡ f v = ap f (some-injective x v at) in let b = total_above xs other w at' in omega arith
  total_two (x ∷ xs) (suc id) zero v w at at' ne = let e : f x ≡ f w = ap f (some-injective x w at') in let b = total_above xs id v at in omega arith
  total_two (x ∷ xs) (suc id) (suc other) v w at at' ne = let e = total_two xs id other v w at at' (λ same. ne (ap suc same)) in omega arith

-- where f is at most g in each view, the views beside one say so together
pub total_le : {A : Type 0} (f g : A → ℕ) (views : List A) → ((id : ℕ) (v : A) → get_elem? views id ≡ some v → f v ≤ g v) → total f views ≤ total g views
total_le f g [] each = omega arith
total_le f g (x ∷ xs) each = let here = each zero x refl in let e = total_le f g xs (λ id v at. each (suc id) v at) in omega arith

pub total_le_at : {A : Type 0} (f g : A → ℕ) (views : List A) (id : ℕ) (v : A) → get_elem? views id ≡ some v
    → ((id : ℕ) (v : A) → get_elem? views id ≡ some v → f v ≤ g v) → total f views + g v ≤ total g views + f v
total_le_at f g [] id v at each = absurd (some-ne-none v (sym at))
total_le_at f g (x ∷ xs) zero v at each = let a : f x ≡ f v = ap f (some-injective x v at) in let b : g x ≡ g v = ap g (some-injective x v at) in let e = total_le f g xs (λ id u there. each (suc id) u there) in omega arith
total_le_at f g (x ∷ xs) (suc id) v at each = let e = total_le_at f g xs id v at (λ id u there. each (suc id) u there) in let here = each zero x refl in omega arith

-- where f is 0 of every other view, the sum is that of one
pub total_zero : {A : Type 0} (f : A → ℕ) (views : List A) → ((id : ℕ) (v : A) → get_elem? views id ≡ some v → f v ≡ 0) → total f views ≡ 0
total_zero f [] each = refl
total_zero f (x ∷ xs) each = let here = each zero x refl in let e = total_zero f xs (λ id v at. each (suc id) v at) in omega arith

pub total_alone : {A : Type 0} (f : A → ℕ) (views : List A) (id : ℕ) (v : A) → get_elem? views id ≡ some v
    → ((other : ℕ) (u : A) → get_elem? views other ≡ some u → other ≢ id → f u ≡ 0) → total f views ≡ f v
total_alone f [] id v at each = absurd (some-ne-none v (sym at))
total_alone f (x ∷ xs) zero v at each = let a : f x ≡ f v = ap f (some-injective x v at) in let e = total_zero f xs (λ other u there. each (suc other) u there (λ e. omega arith)) in omega arith
total_alone f (x ∷ xs) (suc id) v at each = let here = each zero x refl (λ e. omega arith) in let e = total_alone f xs id v at (λ other u there apart. each (suc other) u there (λ e. apart (omega arith))) in omega arith

pub times-append : (x : ℕ) (xs ys : List ℕ) → times x (xs ++ ys) ≡ times x xs + times x ys
times-append x [] ys = omega arith
times-append x (z ∷ zs) ys = let e = times-append x zs ys in omega arith

pub over-append : (n : ℕ) (xs ys : List ℕ) → over n (xs ++ ys) ≡ over n xs + over n ys
over-append n [] ys = omega arith
over-append n (z ∷ zs) ys = let e = over-append n zs ys in omega arith
