-- Where the number ends that a text begins with.
use Rattle.std.proofs.Common.{◌≡◌, ℕ, zero, suc, ◌+◌, ◌-◌, ◌<◌, ◌≤◌, min, Bool, true, false, cond, ◌&&◌, ◌||◌, ◌==◌, nat_lt, List, [], ◌∷◌, length, take, drop, refl, sym, ap, ◌∙◌, subst, arith, inl, inr}
use Rattle.std.proofs.lemmas.Bool.{cases_lt, cases_Bool, eqb-true, and_cases, false≢true}
use Rattle.std.proofs.lemmas.Bool.Decides.{nat_tests}
use Rattle.std.proofs.lemmas.List.{length-drop}
use Rattle.std.proofs.lemmas.List.Sums.{prefix_len-le-length}
use Rattle.scene_lexer.specs.Bytes.{is_digit}
use Rattle.scene_lexer.specs.Spellings.{longest, is_number, is_number_end, is_fraction, digit_count, after_digits, fraction_length, is_empty, is_digits, sign_length, is_exponent_mark}
use Rattle.scene_lexer.specs.Steps.{exponent_length}
use Rattle.scene_lexer.proofs.LongestLemmas.{longest-is, longest-none, prefix_len-take, drop_run-take}

pub fraction-false : (b : ℕ) (s : List ℕ) → (b == 46) ≡ false → is_fraction (b ∷ s) ≡ false
unfolding is_fraction
fraction-false b s h = rw h refl

-- the greatest length of a number's end at the start of a text
pub record IsEnd (s : List ℕ) (e : ℕ) : Type 0 where
  pub within : e ≤ length s
  pub passes : is_number_end (take e s) ≡ true
  pub above : (m : ℕ) → e < m → m ≤ length s → is_number_end (take m s) ≡ false

abbrev number_parts : ℕ → List ℕ → Bool
number_parts w r = (nat_lt 0 w && is_number_end r) || is_fraction r

-- a number by its digits and what follows them
number-parts : (s r : List ℕ) (w : ℕ) → digit_count s ≡ w → after_digits s ≡ r → is_number s ≡ number_parts w r
unfolding is_number
number-parts s r w p q = ap (λ n. number_parts n (after_digits s)) p ∙ ap (λ t. number_parts w t) q

abbrev fraction_parts : ℕ → List ℕ → Bool
fraction_parts g r = nat_lt 0 g && is_number_end r

fraction-parts : (s r : List ℕ) (g : ℕ) → digit_count s ≡ g → after_digits s ≡ r → is_fraction (46 ∷ s) ≡ fraction_parts g r
unfolding is_fraction
fraction-parts s r g p q = ap (λ n. fraction_parts n (after_digits s)) p ∙ ap (λ t. fraction_parts g t) q

-- the parts of a front
number-front : (s : List ℕ) (m : ℕ) → is_number (take m s) ≡ number_parts (min m (digit_count s)) (take (m - digit_count s) (after_digits s))
number-front s m = number-parts (take m s) _ _ (prefix_len-take is_digit m s) (drop_run-take is_digit m s)

fraction-front : (s : List ℕ) (m : ℕ) → is_fraction (46 ∷ take m s) ≡ fraction_parts (min m (digit_count s)) (take (m - digit_count s) (after_digits s))
fraction-front s m = fraction-parts (take m s) _ _ (prefix_len-take is_digit m s) (drop_run-take is_digit m s)

pub and-false : (b : Bool) → (b && false) ≡ false
and-false true = refl
and-false false = refl

pub lt-some : (n : ℕ) → 0 < n → nat_lt 0 n ≡ true
lt-some n h = grind (arith, nat_tests)

some-lt : (n : ℕ) → nat_lt 0 n ≡ true → 0 < n
some-lt n h = grind (arith, nat_tests)

pub and_left : (x y : Bool) → (x && y) ≡ true → x ≡ true
and_left true y h = refl
and_left false y h = h

pub and_right : (x y : Bool) → (x && y) ≡ true → y ≡ true
and_right true y h = h
and_right false y h = absurd (false≢true h)

-- a number without a fraction
pub longest-whole : (s : List ℕ) (e : ℕ) → 0 < digit_count s → IsEnd (after_digits s) e → ((m : ℕ) → is_fraction (take m (after_digits s)) ≡ false) → longest is_number (length s) s ≡ digit_count s + e
longest-whole s e some is_end none =
    let w = digit_count s in
    let within = prefix_len-le-length is_digit s in
    let rest : length (after_digits s) ≡ length s - w = length-drop w s in
    let n_digits : min (w + e) w ≡ w = omega arith in
    let n_rest : (w + e) - w ≡ e = omega arith in
    let at_n : is_number (take (w + e) s) ≡ true =
    number-front s (w + e) ∙ ap (λ k. number_parts k (take ((w + e) - w) (after_digits s))) n_digits
    ∙ ap (λ k. number_parts w (take k (after_digits s))) n_rest
    ∙ ap (λ v. (nat_lt 0 w && v) || is_fraction (take e (after_digits s))) is_end.passes
    ∙ ap (λ v. (v && true) || is_fraction (take e (after_digits s))) (lt-some w some) in
    let above : (m : ℕ) → w + e < m → m ≤ length s → is_number (take m s) ≡ false =
    λ m low high. number-front s m
    ∙ ap (λ v. (nat_lt 0 (min m w) && v) || is_fraction (take (m - w) (after_digits s))) (is_end.above (m - w) (omega arith) (omega arith))
    ∙ ap (λ v. v || is_fraction (take (m - w) (after_digits s))) (and-false (nat_lt 0 (min m w)))
    ∙ none (m - w) in
    longest-is is_number (length s) (w + e) s (omega (arith, is_end.within)) at_n above (omega arith)

end-dot : (s : List ℕ) → is_number_end (46 ∷ s) ≡ false
unfolding is_number_end
end-dot s = refl

-- a number with a fraction
pub longest-fraction : (s t : List ℕ) (e : ℕ) → after_digits s ≡ 46 ∷ t → 0 < digit_count t → IsEnd (after_digits t) e → longest is_number (length s) s ≡ digit_count s + 1 + digit_count t + e
longest-fraction s t e dot some is_end =
    let w = digit_count s in
    let g = digit_count t in
    let within = prefix_len-le-length is_digit s in
    let within_t = prefix_len-le-length is_digit t in
    let rest : length (after_digits s) ≡ length s - w = length-drop w s in
    let rest_dot : length (after_digits s) ≡ suc (length t) = ap length dot in
    let rest_t : length (after_digits t) ≡ length t - g = length-drop g t in
    let n = w + 1 + g + e in
    let front : (j : ℕ) → is_number (take (w + suc j) s) ≡ fraction_parts (min j g) (take (j - g) (after_digits t)) =
    λ j.
    let back : (w + suc j) - w ≡ suc j = omega arith in
    number-front s (w + suc j)
    ∙ ap (λ k. number_parts (min (w + suc j) w) (take k (after_digits s))) back
    ∙ ap (λ r. number_parts (min (w + suc j) w) (take (suc j) r)) dot
    ∙ ap (λ v. (nat_lt 0 (min (w + suc j) w) && v) || is_fraction (46 ∷ take j t)) (end-dot (take j t))
    ∙ ap (λ v. v || is_fraction (46 ∷ take j t)) (and-false (nat_lt 0 (min (w + suc j) w)))
    ∙ fraction-front t j in
    let n_is : n ≡ w + suc (g + e) = omega arith in
    let n_digits : min (g + e) g ≡ g = omega arith in
    let n_rest : (g + e) - g ≡ e = omega arith in
    let at_n : is_number (take n s) ≡ true =
    ap (λ k. is_number (take k s)) n_is ∙ front (g + e)
    ∙ ap (λ k. fraction_parts k (take ((g + e) - g) (after_digits t))) n_digits
    ∙ ap (λ k. fraction_parts g (take k (after_digits t))) n_rest
    ∙ ap (λ v. nat_lt 0 g && v) is_end.passes
    ∙ ap (λ v. v && true) (lt-some g some) in
    let above : (m : ℕ) → n < m → m ≤ length s → is_number (take m s) ≡ false =
    λ m low high.
    let j = m - w - 1 in
    let m_is : m ≡ w + suc j = omega arith in
    ap (λ k. is_number (take k s)) m_is ∙ front j
    ∙ ap (λ v. nat_lt 0 (min j g) && v) (is_end.above (j - g) (omega arith) (omega arith))
    ∙ and-false (nat_lt 0 (min j g)) in
    longest-is is_number (length s) n s (omega (arith, is_end.within)) at_n above (omega arith)

-- no digits, and no fraction
pub longest-no_number : (s : List ℕ) → digit_count s ≡ 0 → ((m : ℕ) → is_fraction (take m (after_digits s)) ≡ false) → longest is_number (length s) s ≡ 0
longest-no_number s no_digits none =
    longest-none is_number (length s) s (λ m low high.
    let w = digit_count s in
    let no : min m w ≡ 0 = omega arith in
    number-front s m ∙ ap (λ k. number_parts k (take (m - w) (after_digits s))) no ∙ none (m - w))

-- where no fraction can be: at the end of the text, at another byte than a dot, and at a dot without a digit behind it
pub no_fraction-empty : (m : ℕ) → is_fraction (take m []) ≡ false
unfolding is_fraction
no_fraction-empty zero = refl
no_fraction-empty (suc m) = refl

pub no_fraction-other : (b : ℕ) (s : List ℕ) → (b == 46) ≡ false → (m : ℕ) → is_fraction (take m (b ∷ s)) ≡ false
no_fraction-other b s h zero = no_fraction-empty zero
no_fraction-other b s h (suc m) = fraction-false b (take m s) h

pub no_fraction-dot : (s : List ℕ) → digit_count s ≡ 0 → (m : ℕ) → is_fraction (take m (46 ∷ s)) ≡ false
no_fraction-dot s h zero = no_fraction-empty zero
no_fraction-dot s h (suc m) =
    let no : min m (digit_count s) ≡ 0 = omega arith in
    fraction-front s m ∙ ap (λ k. fraction_parts k (take (m - digit_count s) (after_digits s))) no

-- what ends a number, at the start of a text
pub take-empty : (n : ℕ) → take {A = ℕ} n [] ≡ []
take-empty zero = refl
take-empty (suc n) = refl

pub not_empty-take : (m : ℕ) (s : List ℕ) → 0 < m → m ≤ length s → is_empty (take m s) ≡ false
not_empty-take zero s low high = absurd (omega arith)
not_empty-take (suc m) [] low high = absurd (omega arith)
not_empty-take (suc m) (b ∷ s) low high = refl

digits-front : (s : List ℕ) (m : ℕ) → is_digits (take m s) ≡ (nat_lt 0 (min m (digit_count s)) && is_empty (take (m - digit_count s) (after_digits s)))
digits-front s m = ap (λ n. nat_lt 0 n && is_empty (after_digits (take m s))) (prefix_len-take is_digit m s)
    ∙ ap (λ t. nat_lt 0 (min m (digit_count s)) && is_empty t) (drop_run-take is_digit m s)

sign_length-take : (m : ℕ) (s : List ℕ) → sign_length (take (suc m) s) ≡ sign_length s
sign_length-take m [] = refl
sign_length-take m (b ∷ s) = refl

drop-take-sub : (k m : ℕ) (s : List ℕ) → drop k (take m s) ≡ take (m - k) (drop k s)
drop-take-sub zero m s = let e : m - 0 ≡ m = omega arith in rw e refl
drop-take-sub (suc k) zero s = let e : 0 - suc k ≡ 0 = omega arith in rw e refl
drop-take-sub (suc k) (suc m) [] = sym (take-empty (suc m - suc k))
drop-take-sub (suc k) (suc m) (b ∷ s) = let e : suc m - suc k ≡ m - k = omega arith in rw e (drop-take-sub k m s)

-- an exponent's digits in a front
exponent-digits : (s : List ℕ) (m : ℕ) → 0 < m → is_digits (drop (sign_length (take m s)) (take m s)) ≡ is_digits (take (m - sign_length s) (drop (sign_length s) s))
exponent-digits s zero some = absurd (omega arith)
exponent-digits s (suc m) some =
    ap (λ k. is_digits (drop k (take (suc m) s))) (sign_length-take m s)
    ∙ ap is_digits (drop-take-sub (sign_length s) (suc m) s)

no_digits-above : (s : List ℕ) (m : ℕ) → digit_count s < m → m ≤ length s → is_digits (take m s) ≡ false
no_digits-above s m low high =
    digits-front s m
    ∙ ap (λ v. nat_lt 0 (min m (digit_count s)) && v)
    (not_empty-take (m - digit_count s) (after_digits s) (omega arith) (omega (arith, length-drop (digit_count s) s)))
    ∙ and-false (nat_lt 0 (min m (digit_count s)))

no_digits-none : (s : List ℕ) (m : ℕ) → digit_count s ≡ 0 → is_digits (take m s) ≡ false
no_digits-none s m none =
    let no : min m (digit_count s) ≡ 0 = omega arith in
    digits-front s m ∙ ap (λ n. nat_lt 0 n && is_empty (take (m - digit_count s) (after_digits s))) no

digits-whole : (s : List ℕ) → 0 < digit_count s → is_digits (take (digit_count s) s) ≡ true
digits-whole s some =
    let w = digit_count s in
    let all : min w w ≡ w = omega arith in
    let rest : w - w ≡ 0 = omega arith in
    digits-front s w
    ∙ ap (λ n. nat_lt 0 n && is_empty (take (w - w) (after_digits s))) all
    ∙ ap (λ n. nat_lt 0 w && is_empty (take n (after_digits s))) rest
    ∙ ap (λ v. v && true) (lt-some w some)

end-take-none : (s : List ℕ) → is_number_end (take 0 s) ≡ true
unfolding is_number_end
end-take-none s = refl

end-exponent : (b : ℕ) (s : List ℕ) → is_number_end (b ∷ s) ≡ (is_exponent_mark b && is_digits (drop (sign_length s) s))
unfolding is_number_end
end-exponent b s = refl

-- no exponent ends with its mark or its sign, or goes on behind its digits
no_end : (b : ℕ) (s : List ℕ) (m : ℕ) → (0 < digit_count (drop (sign_length s) s) → sign_length s + digit_count (drop (sign_length s) s) < m) → m ≤ length s →
    (is_exponent_mark b && is_digits (drop (sign_length (take m s)) (take m s))) ≡ false
no_end b s zero low high = and-false (is_exponent_mark b)
no_end b s (suc m) low high =
    let t = drop (sign_length s) s in
    ap (λ v. is_exponent_mark b && v) (exponent-digits s (suc m) (omega arith)
    ∙ elim (cases_lt 0 (digit_count t)) [
      | inl some ↦ no_digits-above t (suc m - sign_length s) (omega (arith, low some)) (omega (arith, length-drop (sign_length s) s))
      | inr none ↦ no_digits-none t (suc m - sign_length s) (omega arith)
    ])
    ∙ and-false (is_exponent_mark b)

end-mark : (b : ℕ) (s : List ℕ) → is_exponent_mark b ≡ true → 0 < digit_count (drop (sign_length s) s) → IsEnd (b ∷ s) (suc (sign_length s + digit_count (drop (sign_length s) s)))
end-mark b s mark some =
    let t = drop (sign_length s) s in
    let n = sign_length s + digit_count t in
    let count = prefix_len-le-length is_digit t in
    let rest : length t ≡ length s - sign_length s = length-drop (sign_length s) s in
    let left : n - sign_length s ≡ digit_count t = omega arith in
    record {
      within = omega arith;
      passes = end-exponent b (take n s) ∙ ap (λ v. v && is_digits (drop (sign_length (take n s)) (take n s))) mark
          ∙ exponent-digits s n (omega arith) ∙ ap (λ k. is_digits (take k t)) left ∙ digits-whole t some;
      above = λ m low high. above m low high;
    }
  where
    above : (m : ℕ) → suc (sign_length s + digit_count (drop (sign_length s) s)) < m → m ≤ suc (length s) → is_number_end (take m (b ∷ s)) ≡ false
    above zero low high = absurd (omega arith)
    above (suc m) low high = end-exponent b (take m s) ∙ no_end b s m (λ _. omega arith) (omega arith)

end-nothing : (b : ℕ) (s : List ℕ) → (is_exponent_mark b && nat_lt 0 (digit_count (drop (sign_length s) s))) ≡ false → IsEnd (b ∷ s) 0
end-nothing b s none = record { within = omega arith; passes = end-take-none (b ∷ s); above = λ m low high. above m low high }
  where
    not_lt : (n : ℕ) → nat_lt 0 n ≡ false → n ≡ 0
    not_lt n h = grind (arith, nat_tests)

    above : (m : ℕ) → 0 < m → m ≤ suc (length s) → is_number_end (take m (b ∷ s)) ≡ false
    above zero low high = absurd (omega arith)
    above (suc m) low high = end-exponent b (take m s) ∙ elim (and_cases (is_exponent_mark b) (nat_lt 0 (digit_count (drop (sign_length s) s))) none) [
      | inl no_mark ↦ ap (λ v. v && is_digits (drop (sign_length (take m s)) (take m s))) no_mark
      | inr no_digit ↦ no_end b s m (λ some. let zero_t = not_lt (digit_count (drop (sign_length s) s)) no_digit in absurd (omega arith)) (omega arith)
    ]

pub end-here : (s : List ℕ) → IsEnd s (exponent_length s)
end-here [] = record { within = omega arith; passes = end-take-none []; above = λ m low high. absurd (omega arith) }
end-here (b ∷ s) = elim (cases_Bool (is_exponent_mark b && nat_lt 0 (digit_count (drop (sign_length s) s)))) [
  | inr none ↦ subst (IsEnd (b ∷ s)) (ap (λ v. cond v (suc (sign_length s + digit_count (drop (sign_length s) s))) 0) (sym none)) (end-nothing b s none)
  | inl some ↦ subst (IsEnd (b ∷ s)) (ap (λ v. cond v (suc (sign_length s + digit_count (drop (sign_length s) s))) 0) (sym some))
      (end-mark b s (and_left (is_exponent_mark b) (nat_lt 0 (digit_count (drop (sign_length s) s))) some)
      (some-lt (digit_count (drop (sign_length s) s)) (and_right (is_exponent_mark b) (nat_lt 0 (digit_count (drop (sign_length s) s))) some)))
]

-- the longest number at the start of a text, by its parts
number-cases : (s r : List ℕ) → after_digits s ≡ r → (e : ℕ) → 0 < digit_count s + fraction_length r → IsEnd (drop (fraction_length r) r) e → longest is_number (length s) s ≡ digit_count s + fraction_length r + e
number-cases s [] is e some is_end =
    longest-whole s e (omega arith) (subst (λ r. IsEnd r e) (sym is) is_end) (λ m. ap (λ r. is_fraction (take m r)) is ∙ no_fraction-empty m) ∙ omega arith
number-cases s (b ∷ t) is e some is_end = elim (cases_Bool (b == 46)) [
  | inr other ↦
      let f : fraction_length (b ∷ t) ≡ 0 = ap (λ v. cond (v && nat_lt 0 (digit_count t)) (1 + digit_count t) 0) other in
      let is_end' : IsEnd (b ∷ t) e = subst (λ k. IsEnd (drop k (b ∷ t)) e) f is_end in
      longest-whole s e (omega arith) (subst (λ r. IsEnd r e) (sym is) is_end')
      (λ m. ap (λ r. is_fraction (take m r)) is ∙ no_fraction-other b t other m) ∙ omega arith
  | inl dot ↦ elim (cases_lt 0 (digit_count t)) [
    | inr none ↦
        let zero_t : digit_count t ≡ 0 = omega arith in
        let f : fraction_length (b ∷ t) ≡ 0 = ap (λ v. cond (v && nat_lt 0 (digit_count t)) (1 + digit_count t) 0) dot ∙ ap (λ k. cond (nat_lt 0 k) (1 + k) 0) zero_t in
        let is_end' : IsEnd (b ∷ t) e = subst (λ k. IsEnd (drop k (b ∷ t)) e) f is_end in
        longest-whole s e (omega arith) (subst (λ r. IsEnd r e) (sym is) is_end')
        (λ m. ap (λ r. is_fraction (take m r)) is ∙ ap (λ k. is_fraction (take m (k ∷ t))) (eqb-true b 46 dot) ∙ no_fraction-dot t zero_t m) ∙ omega arith
    | inl digits ↦
        let f : fraction_length (b ∷ t) ≡ 1 + digit_count t = ap (λ v. cond (v && nat_lt 0 (digit_count t)) (1 + digit_count t) 0) dot ∙ ap (λ v. cond v (1 + digit_count t) 0) (lt-some (digit_count t) digits) in
        let suc_f : 1 + digit_count t ≡ suc (digit_count t) = omega arith in
        let is_end' : IsEnd (after_digits t) e = subst (λ k. IsEnd (drop k (b ∷ t)) e) (f ∙ suc_f) is_end in
        longest-fraction s t e (is ∙ ap (λ k. k ∷ t) (eqb-true b 46 dot)) digits is_end' ∙ omega arith
  ]
]

pub longest-number : (s : List ℕ) (e : ℕ) → 0 < digit_count s + fraction_length (after_digits s) → IsEnd (drop (fraction_length (after_digits s)) (after_digits s)) e → longest is_number (length s) s ≡ digit_count s + fraction_length (after_digits s) + e
longest-number s e some is_end = number-cases s (after_digits s) refl e some is_end

no_number-cases : (s r : List ℕ) → after_digits s ≡ r → digit_count s + fraction_length r ≡ 0 → (m : ℕ) → is_fraction (take m (after_digits s)) ≡ false
no_number-cases s [] is none m = ap (λ r. is_fraction (take m r)) is ∙ no_fraction-empty m
no_number-cases s (b ∷ t) is none m = elim (cases_Bool (b == 46)) [
  | inr other ↦ ap (λ r. is_fraction (take m r)) is ∙ no_fraction-other b t other m
  | inl dot ↦ elim (cases_lt 0 (digit_count t)) [
    | inr no_digits ↦ ap (λ r. is_fraction (take m r)) is ∙ ap (λ k. is_fraction (take m (k ∷ t))) (eqb-true b 46 dot) ∙ no_fraction-dot t (omega arith) m
    | inl digits ↦
        let f : fraction_length (b ∷ t) ≡ 1 + digit_count t = ap (λ v. cond (v && nat_lt 0 (digit_count t)) (1 + digit_count t) 0) dot ∙ ap (λ v. cond v (1 + digit_count t) 0) (lt-some (digit_count t) digits) in
        absurd (omega arith)
  ]
]

pub longest-no_digits : (s : List ℕ) → digit_count s + fraction_length (after_digits s) ≡ 0 → longest is_number (length s) s ≡ 0
longest-no_digits s none = longest-no_number s (omega arith) (no_number-cases s (after_digits s) refl none)

-- the longest number is the digits, the fraction and the exponent
pub number_ends : (s : List ℕ) → 0 < digit_count s + fraction_length (after_digits s) →
    longest is_number (length s) s ≡ digit_count s + fraction_length (after_digits s) + exponent_length (drop (fraction_length (after_digits s)) (after_digits s))
number_ends s some = longest-number s (exponent_length (drop (fraction_length (after_digits s)) (after_digits s))) some (end-here (drop (fraction_length (after_digits s)) (after_digits s)))

pub number_parts-are : (s r t : List ℕ) (w f e : ℕ) → w ≡ digit_count s → r ≡ drop w s → f ≡ fraction_length r → t ≡ drop f r → e ≡ exponent_length t → 0 < w + f →
    w + f + e ≡ longest is_number (length s) s
number_parts-are s r t w f e w_is r_is f_is t_is e_is some =
    let behind : r ≡ after_digits s = r_is ∙ ap (λ k. drop k s) w_is in
    let fraction : f ≡ fraction_length (after_digits s) = f_is ∙ ap fraction_length behind in
    let end : e ≡ exponent_length (drop (fraction_length (after_digits s)) (after_digits s)) =
    e_is ∙ ap exponent_length (t_is ∙ ap (λ k. drop k r) fraction ∙ ap (drop (fraction_length (after_digits s))) behind) in
    omega (arith, number_ends s (omega arith))
