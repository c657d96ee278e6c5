-- The longest front of a text that passes a test.
use Rattle.std.proofs.Common.{◌≡◌, ℕ, zero, suc, ◌+◌, ◌-◌, ◌<◌, ◌≤◌, min, Bool, true, false, cond, ◌&&◌, not, ◌==◌, nat_le, List, [], ◌∷◌, length, take, drop, refl, sym, ap, ◌∙◌, subst, arith, inl, inr, codes}
use Rattle.std.specs.List.{prefix_len, list_all, list_any}
use Rattle.std.proofs.lemmas.Bool.{false≢true, cases_lt, cases_Bool, or_cases, eqb-true}
use Rattle.std.proofs.lemmas.Bool.Decides.{nat_tests}
use Rattle.scene_lexer.specs.Bytes.{is_white, is_digit, is_letter}
use Rattle.scene_lexer.specs.Spellings.{longest, is_sign_byte}

and_left : (x y : Bool) → (x && y) ≡ true → x ≡ true
and_left true y h = refl
and_left false y h = h

and_right : (x y : Bool) → (x && y) ≡ true → y ≡ true
and_right true y h = h
and_right false y h = absurd (false≢true h)

nat_le-suc : (m n : ℕ) → nat_le m n ≡ nat_le (suc m) (1 + n)
nat_le-suc m n = grind (arith, nat_tests)

-- a length that passes, where no longer one does
pub longest-is : (p : List ℕ → Bool) (k n : ℕ) (text : List ℕ) → n ≤ k → p (take n text) ≡ true → ((m : ℕ) → n < m → m ≤ k → p (take m text) ≡ false) → 0 < n → longest p k text ≡ n
unfolding longest
longest-is p zero n text within passes longer some = omega arith
longest-is p (suc k) n text within passes longer some = elim (cases_lt n (suc k)) [
  | inl below ↦ rw (longer (suc k) below (omega arith)) (longest-is p k n text (omega arith) passes (λ m low high. longer m low (omega arith)) some)
  | inr above ↦ let e : n ≡ suc k = omega arith in rw (subst (λ i. p (take i text) ≡ true) e passes) (sym e)
]

-- no front passes
pub longest-none : (p : List ℕ → Bool) (k : ℕ) (text : List ℕ) → ((m : ℕ) → 0 < m → m ≤ k → p (take m text) ≡ false) → longest p k text ≡ 0
unfolding longest
longest-none p zero text none = refl
longest-none p (suc k) text none = rw (none (suc k) (omega arith) (omega arith)) (longest-none p k text (λ m low high. none m low (omega arith)))

-- two tests that agree on the fronts of a text
pub longest-same : (p q : List ℕ → Bool) (k b : ℕ) (text : List ℕ) → ((s : List ℕ) → p (b ∷ s) ≡ q (b ∷ s)) → longest p k (b ∷ text) ≡ longest q k (b ∷ text)
unfolding longest
longest-same p q zero b text same = refl
longest-same p q (suc k) b text same = rw (same (take k text)) (ap (λ n. cond (q (b ∷ take k text)) (suc k) n) (longest-same p q k b text same))

pub longest-le : (p : List ℕ → Bool) (k : ℕ) (text : List ℕ) → longest p k text ≤ k
unfolding longest
longest-le p zero text = omega arith
longest-le p (suc k) text = elim (p (take (suc k) text)) as (λ v. cond v (suc k) (longest p k text) ≤ suc k) [
  | true ↦ omega arith
  | false ↦ omega (arith, longest-le p k text)
]

-- the longest front that passes does pass
pub longest-passes : (p : List ℕ → Bool) (k : ℕ) (text : List ℕ) → 0 < longest p k text → p (take (longest p k text) text) ≡ true
unfolding longest
longest-passes p zero text some = absurd (omega arith)
longest-passes p (suc k) text some = elim (cases_Bool (p (take (suc k) text))) [
  | inl e ↦ rw (ap (λ v. cond v (suc k) (longest p k text)) e) e
  | inr e ↦ rw (ap (λ v. cond v (suc k) (longest p k text)) e) (longest-passes p k text (subst (λ v. 0 < cond v (suc k) (longest p k text)) e some))
]

-- a longer front does not pass
pub longest-above : (p : List ℕ → Bool) (k m : ℕ) (text : List ℕ) → longest p k text < m → m ≤ k → p (take m text) ≡ false
unfolding longest
longest-above p zero m text above within = absurd (omega arith)
longest-above p (suc k) m text above within = elim (cases_Bool (p (take (suc k) text))) [
  | inl e ↦ let over : suc k < m = subst (λ v. cond v (suc k) (longest p k text) < m) e above in absurd (omega arith)
  | inr e ↦ elim (cases_lt m (suc k)) [
    | inl below ↦ longest-above p k m text (subst (λ v. cond v (suc k) (longest p k text) < m) e above) (omega arith)
    | inr top ↦ let same : suc k ≡ m = omega arith in subst (λ i. p (take i text) ≡ false) same e
  ]
]

-- whether a front holds only bytes that pass
pub list_all-take : (p : ℕ → Bool) (m : ℕ) (s : List ℕ) → m ≤ length s → list_all p (take m s) ≡ nat_le m (prefix_len p s)
list_all-take p zero s h = grind (arith, nat_tests)
list_all-take p (suc m) [] h = absurd (omega arith)
list_all-take p (suc m) (b ∷ s) h = elim (p b) as (λ v. (v && list_all p (take m s)) ≡ nat_le (suc m) (cond v (1 + prefix_len p s) 0)) [
  | true ↦ list_all-take p m s (omega arith) ∙ nat_le-suc m (prefix_len p s)
  | false ↦ grind (arith, nat_tests)
]

-- how far a front's bytes pass
pub prefix_len-take : (p : ℕ → Bool) (m : ℕ) (s : List ℕ) → prefix_len p (take m s) ≡ min m (prefix_len p s)
prefix_len-take p zero s = omega arith
prefix_len-take p (suc m) [] = omega arith
prefix_len-take p (suc m) (b ∷ s) = elim (p b) as (λ v. cond v (1 + prefix_len p (take m s)) 0 ≡ min (suc m) (cond v (1 + prefix_len p s) 0)) [
  | true ↦ omega (arith, prefix_len-take p m s)
  | false ↦ omega arith
]

-- what follows the run of bytes that pass, in a front
pub drop_run-take : (p : ℕ → Bool) (m : ℕ) (s : List ℕ) → drop (prefix_len p (take m s)) (take m s) ≡ take (m - prefix_len p s) (drop (prefix_len p s) s)
drop_run-take p zero s = let e : 0 - prefix_len p s ≡ 0 = omega arith in rw e refl
drop_run-take p (suc m) [] = let e : suc m - 0 ≡ suc m = omega arith in rw e refl
drop_run-take p (suc m) (b ∷ s) = elim (p b) as (λ v. drop (cond v (1 + prefix_len p (take m s)) 0) (b ∷ take m s) ≡ take (suc m - cond v (1 + prefix_len p s) 0) (drop (cond v (1 + prefix_len p s) 0) (b ∷ s))) [
  | true ↦
      let inner : 1 + prefix_len p (take m s) ≡ suc (prefix_len p (take m s)) = omega arith in
      let outer : 1 + prefix_len p s ≡ suc (prefix_len p s) = omega arith in
      let left : suc m - suc (prefix_len p s) ≡ m - prefix_len p s = omega arith in
      rw (inner, outer, left) (drop_run-take p m s)
  | false ↦ let e : suc m - 0 ≡ suc m = omega arith in rw e refl
]

-- a byte of a list passes what all of the list pass
pub passes-among : (p : ℕ → Bool) (b : ℕ) (among : List ℕ) → list_any (λ k. b == k) among ≡ true → list_all p among ≡ true → p b ≡ true
passes-among p b [] h all = absurd (false≢true h)
passes-among p b (k ∷ ks) h all = elim (or_cases (b == k) (list_any (λ k. b == k) ks) h) [
  | inl e ↦ rw (eqb-true b k e) (and_left (p k) (list_all p ks) all)
  | inr e ↦ passes-among p b ks e (and_right (p k) (list_all p ks) all)
]

pub letter-not_white : (b : ℕ) → is_letter b ≡ true → is_white b ≡ false
letter-not_white b h = grind (arith, nat_tests)

pub letter-not_digit : (b : ℕ) → is_letter b ≡ true → is_digit b ≡ false
letter-not_digit b h = grind (arith, nat_tests)

pub digit-not_letter : (b : ℕ) → is_digit b ≡ true → is_letter b ≡ false
digit-not_letter b h = grind (arith, nat_tests)

pub digit-not_white : (b : ℕ) → is_digit b ≡ true → is_white b ≡ false
digit-not_white b h = grind (arith, nat_tests)

pub sign-not_letter : (b : ℕ) → is_letter b ≡ true → is_sign_byte b ≡ false
sign-not_letter b h = elim (cases_Bool (is_sign_byte b)) [
  | inr e ↦ e
  | inl e ↦ absurd (false≢true (sym (ap not h) ∙ passes-among (λ k. not (is_letter k)) b (codes "{}()<>[],;:?.+-*/=!&|#") e refl))
]

pub sign-not_digit : (b : ℕ) → is_digit b ≡ true → is_sign_byte b ≡ false
sign-not_digit b h = elim (cases_Bool (is_sign_byte b)) [
  | inr e ↦ e
  | inl e ↦ absurd (false≢true (sym (ap not h) ∙ passes-among (λ k. not (is_digit k)) b (codes "{}()<>[],;:?.+-*/=!&|#") e refl))
]

pub sign-not_white : (b : ℕ) → is_white b ≡ true → is_sign_byte b ≡ false
sign-not_white b h = elim (cases_Bool (is_sign_byte b)) [
  | inr e ↦ e
  | inl e ↦ absurd (false≢true (sym (ap not h) ∙ passes-among (λ k. not (is_white k)) b (codes "{}()<>[],;:?.+-*/=!&|#") e refl))
]
