-- Digits and the sizes of the numbers that they spell.
use Rattle.std.proofs.Common.{◌≡◌, ℕ, ◌+◌, ◌-◌, ◌*◌, ◌/◌, ◌^◌, ◌<◌, ◌≤◌, min, Bool, true, false, cond, ◌||◌, nat_lt, nat_le, List, ◌++◌, length, take, drop, refl, sym, ap, ◌∙◌, subst, arith, inl, inr, ◌⊎◌, ◌↔◌, get_or, unsigned_abs, Result, Ok, Err, Option, Some, None, SomeIff, ℤ, pos}
use Rattle.std.specs.List.{list_all}
use Rattle.std.proofs.lemmas.Bool.{cases_lt}
use Rattle.std.proofs.lemmas.Bool.Decides.{nat_tests}
use Rattle.std.proofs.lemmas.List.{length-take-le, drop_min, length-append}
use Rattle.std.proofs.lemmas.List.Sums.{prefix_len-le-length, AllPass-from_list_all, fold-append}
use Rattle.std.proofs.lemmas.Nat.{pow-add}
use Rattle.std.proofs.Math.Nat.{pow-le-pow_right, one-le-pow, mul-le-mul_left, mul-le-mul_right}
use Rattle.scene_lexer.specs.Bytes.{is_digit}
use Rattle.scene_lexer.specs.Spellings.{digit_count, after_digits, fraction_length}
use Rattle.scene_lexer.specs.Tokens.{decimal_from, whole_digits, fraction_digits, exponent_part, exponent_size, is_minus_first, size_up, size_down, power_up, power_down, number_of, scaled}
use Rattle.scene_lexer.specs.Steps.{IsScalable}
use Rattle.scene_lexer.specs.declared.token.Place.{Place}
use Rattle.scene_lexer.specs.declared.token.Kind.{Kind}
use Rattle.scene_lexer.specs.declared.token.Kind.TheVariants.{Number}
use Rattle.scene_lexer.specs.declared.token.LexFault.{LexFault}
use Rattle.scene_lexer.specs.declared.token.LexFault.TheVariants.{NumberRange}
use Rattle.scene_lexer.proofs.LongestLemmas.{list_all-take}

pub digits_front : (s : List ℕ) → (list_all is_digit (whole_digits s) ≡ true) × (length (whole_digits s) ≡ digit_count s)
digits_front s =
    let within = prefix_len-le-length is_digit s in
    (list_all-take is_digit (digit_count s) s within ∙ le-self (digit_count s), length-take-le (digit_count s) s within)
  where
    le-self : (n : ℕ) → nat_le n n ≡ true
    le-self n = grind (arith, nat_tests)

pub ten_pow-le : (i j : ℕ) → i ≤ j → 10 ^ i ≤ 10 ^ j
ten_pow-le i j h = pow-le-pow_right (omega arith) h

pub ten_pow-pos : (i : ℕ) → 0 < 10 ^ i
ten_pow-pos i = omega (arith, one-le-pow i 10 (omega arith))

-- one more digit
pub digit_more : (v d s i : ℕ) → v + 1 ≤ (s + 1) * 10 ^ i → d ≤ 9 → v * 10 + d + 1 ≤ (s + 1) * 10 ^ (i + 1)
digit_more v d s i small digit = rw (pow-add 10 i 1) (omega arith)

pub digit_room : (s i n : ℕ) → i < n → (s + 1) * 10 ^ n ≤ 10 ^ 30 → (s + 1) * 10 ^ (i + 1) ≤ 10 ^ 30
digit_room s i n below room = omega (arith, mul-le-mul_left (s + 1) (ten_pow-le (i + 1) n (omega arith)))

pub digit_at : (s : List ℕ) (i : ℕ) → list_all is_digit s ≡ true → i < length s → (48 ≤ get_or s i 0) × (get_or s i 0 ≤ 57)
digit_at s i all below = bounds (get_or s i 0) (AllPass-from_list_all is_digit s all i 0 below)
  where
    bounds : (b : ℕ) → is_digit b ≡ true → (48 ≤ b) × (b ≤ 57)
    bounds b h = grind (arith, nat_tests)

not_less : (m n : ℕ) → n ≤ m → nat_lt m n ≡ false
not_less m n h = grind (arith, nat_tests)

less : (m n : ℕ) → m < n → nat_lt m n ≡ true
less m n h = grind (arith, nat_tests)

at_most : (m n : ℕ) → m ≤ n → nat_le m n ≡ true
at_most m n h = grind (arith, nat_tests)

above : (m n : ℕ) → n < m → nat_le m n ≡ false
above m n h = grind (arith, nat_tests)

abbrev out_of_range : ℕ → ℕ → ℕ → ℤ → Bool
out_of_range count up down raw =
    nat_lt 30 count || (nat_lt 30 (up - down) || (nat_lt 30 (down - up) || nat_le (2 ^ 47) (unsigned_abs raw)))

abbrev number_by : Place → ℕ → ℕ → ℕ → ℕ → Result Kind LexFault
number_by place count n up down =
    let over : Result Kind LexFault = Err (NumberRange place) in
    cond (out_of_range count up down (scaled n up down)) over (Ok (Number (scaled n up down)))

-- a number by its parts
number_of-by : (place : Place) (s : List ℕ) (count n up down : ℕ) → length (whole_digits s ++ fraction_digits s) ≡ count → decimal_from 0 (whole_digits s ++ fraction_digits s) ≡ n →
    power_up s ≡ up → power_down s ≡ down → number_of place s ≡ number_by place count n up down
unfolding number_of
number_of-by place s count n up down p q u d =
    ap (λ v. number_by place v (decimal_from 0 (whole_digits s ++ fraction_digits s)) (power_up s) (power_down s)) p
    ∙ ap (λ v. number_by place count v (power_up s) (power_down s)) q
    ∙ ap (λ v. number_by place count n v (power_down s)) u
    ∙ ap (λ v. number_by place count n up v) d

number_by-long : (place : Place) (count n up down : ℕ) → 30 < count → number_by place count n up down ≡ Err (NumberRange place)
number_by-long place count n up down long = rw (less 30 count long) refl

number_by-scalable : (place : Place) (count n up down : ℕ) → count ≤ 30 → IsScalable n up down → number_by place count n up down ≡ Ok (Number (scaled n up down))
number_by-scalable place count n up down short h =
    rw (not_less 30 count short, not_less 30 (up - down) h.above, not_less 30 (down - up) h.below, above (2 ^ 47) (unsigned_abs (scaled n up down)) h.within) refl

number_by-over : (place : Place) (count n up down : ℕ) → count ≤ 30 → ¬ IsScalable n up down → number_by place count n up down ≡ Err (NumberRange place)
number_by-over place count n up down short over =
    let raw = scaled n up down in
    rw (not_less 30 count short) (elim (cases_lt 30 (up - down)) [
      | inl h ↦ rw (less 30 (up - down) h) refl
      | inr up_ok ↦ rw (not_less 30 (up - down) up_ok) (elim (cases_lt 30 (down - up)) [
        | inl h ↦ rw (less 30 (down - up) h) refl
        | inr down_ok ↦ rw (not_less 30 (down - up) down_ok) (elim (cases_lt (unsigned_abs raw) (2 ^ 47)) [
          | inl h ↦ absurd (over (record { above = up_ok; below = down_ok; within = h }))
          | inr h ↦ rw (at_most (2 ^ 47) (unsigned_abs raw) h) refl
        ])
      ])
    ])

-- an exponent of 100 or more is out of range, whatever its size
cap_up : (n u e f : ℕ) → f ≤ 30 → (u ≡ 0) ⊎ (e ≡ 0) → IsScalable n (min 100 u) (min 100 e + f) → (min 100 u ≡ u) × (min 100 e ≡ e)
cap_up n u e f few one h = elim one [
  | inl none ↦ (omega arith, omega (arith, h.below))
  | inr none ↦ (omega (arith, h.above), omega arith)
]

cap_same : (n u e f : ℕ) → f ≤ 30 → (u ≡ 0) ⊎ (e ≡ 0) → IsScalable n u (e + f) → (min 100 u ≡ u) × (min 100 e ≡ e)
cap_same n u e f few one h = elim one [
  | inl none ↦ (omega arith, omega (arith, h.below))
  | inr none ↦ (omega (arith, h.above), omega arith)
]

one_size : (part : List ℕ) → (size_up part ≡ 0) ⊎ (size_down part ≡ 0)
one_size part = by (is_minus_first part) (exponent_size part)
  where
    by : (v : Bool) (n : ℕ) → (cond v 0 n ≡ 0) ⊎ (cond v n 0 ≡ 0)
    by true n = inl refl
    by false n = inr refl

-- what the code has read of a number
pub record IsParts (s : List ℕ) (w f : List ℕ) (n : ℕ) : Type 0 where
  pub whole : w ≡ whole_digits s
  pub fraction : f ≡ fraction_digits s
  pub units : n ≡ decimal_from (decimal_from 0 w) f

parts-by : (place : Place) (s w f : List ℕ) (n : ℕ) → IsParts s w f n → number_of place s ≡ number_by place (length w + length f) n (power_up s) (power_down s)
parts-by place s w f n h =
    number_of-by place s (length w + length f) n (power_up s) (power_down s)
    (ap (λ v. length (v ++ fraction_digits s)) (sym h.whole) ∙ ap (λ v. length (w ++ v)) (sym h.fraction) ∙ length-append w f)
    (ap (λ v. decimal_from 0 (v ++ fraction_digits s)) (sym h.whole) ∙ ap (λ v. decimal_from 0 (w ++ v)) (sym h.fraction)
    ∙ fold-append (λ m b. m * 10 + (b - 48)) 0 w f ∙ sym h.units)
    refl refl

pub number_of-long : (place : Place) (s w f : List ℕ) → w ≡ whole_digits s → f ≡ fraction_digits s → 30 < length w + length f → number_of place s ≡ Err (NumberRange place)
number_of-long place s w f p q long =
    let n = decimal_from (decimal_from 0 w) f in
    parts-by place s w f n (record { whole = p; fraction = q; units = refl }) ∙ number_by-long place (length w + length f) n (power_up s) (power_down s) long

pub number_of-scalable : (place : Place) (s w f : List ℕ) (n up down : ℕ) (raw : ℤ) → IsParts s w f n → length w + length f ≤ 30 →
    up ≡ min 100 (size_up (exponent_part s)) → down ≡ min 100 (size_down (exponent_part s)) → IsScalable n up (down + length f) → raw ≡ scaled n up (down + length f) → number_of place s ≡ Ok (Number raw)
number_of-scalable place s w f n up down raw h short u d can is =
    let part = exponent_part s in
    let can' : IsScalable n (min 100 (size_up part)) (min 100 (size_down part) + length f) =
    subst (λ v. IsScalable n v (min 100 (size_down part) + length f)) u (subst (λ v. IsScalable n up (v + length f)) d can) in
    let same = cap_up n (size_up part) (size_down part) (length f) (omega arith) (one_size part) can' in
    let exact_up : up ≡ power_up s = u ∙ same.0 in
    let exact_down : down + length f ≡ power_down s = ap (λ v. v + length f) (d ∙ same.1) ∙ ap (λ v. size_down part + length v) h.fraction in
    let exact : IsScalable n (power_up s) (power_down s) = subst (λ v. IsScalable n v (power_down s)) exact_up (subst (λ v. IsScalable n up v) exact_down can) in
    parts-by place s w f n h ∙ number_by-scalable place (length w + length f) n (power_up s) (power_down s) short exact
    ∙ ap (λ v. let r : Result Kind LexFault = Ok (Number v) in r) (sym (is ∙ ap (λ v. scaled n v (down + length f)) exact_up ∙ ap (λ v. scaled n (power_up s) v) exact_down))

pub number_of-over : (place : Place) (s w f : List ℕ) (n up down : ℕ) → IsParts s w f n → length w + length f ≤ 30 →
    up ≡ min 100 (size_up (exponent_part s)) → down ≡ min 100 (size_down (exponent_part s)) → ¬ IsScalable n up (down + length f) → number_of place s ≡ Err (NumberRange place)
number_of-over place s w f n up down h short u d over =
    let part = exponent_part s in
    parts-by place s w f n h ∙ number_by-over place (length w + length f) n (power_up s) (power_down s) short (λ can.
    let can' : IsScalable n (size_up part) (size_down part + length f) = subst (λ v. IsScalable n (size_up part) (size_down part + length v)) (sym h.fraction) can in
    let same = cap_same n (size_up part) (size_down part) (length f) (omega arith) (one_size part) can' in
    over (subst (λ v. IsScalable n v (down + length f)) (sym (u ∙ same.0)) (subst (λ v. IsScalable n (size_up part) (v + length f)) (sym (d ∙ same.1)) can')))

-- scaling up, and down
pub scaled-up : (n up down : ℕ) → down < up → scaled n up down ≡ pos (n * 10 ^ (up - down) * 65536)
scaled-up n up down h =
    let e : down - up ≡ 0 = omega arith in
    rw e (ap pos (half (n * 10 ^ (up - down) * 65536)))
  where
    half : (m : ℕ) → (m + m + 1) / (1 + 1) ≡ m
    half m = omega arith

pub scaled-down : (n up down : ℕ) → up ≤ down → scaled n up down ≡ scaled n 0 (down - up)
scaled-down n up down h =
    let e : up - down ≡ 0 = omega arith in
    let z : 0 - (down - up) ≡ 0 = omega arith in
    let d : (down - up) - 0 ≡ down - up = omega arith in
    rw (e, z, d) refl

pub SomeIff-map : {T : Type 0} (r : Option T) (P Q : Type 0) (v w : T) → P ↔ Q → v ≡ w → SomeIff r P v → SomeIff r Q w
SomeIff-map None P Q v w iff same h = λ q. h (iff.1 q)
SomeIff-map (Some x) P Q v w iff same h = (iff.0 h.0, h.1 ∙ same)

-- a product of a power of ten from the tenth on is too large
pub up_large : (n k : ℕ) → 0 < n → 9 < k → 2 ^ 47 ≤ n * 10 ^ k * 65536
up_large n k some far =
    let ten : 10 ^ 10 ≤ 10 ^ k = ten_pow-le 10 k (omega arith) in
    let one : 1 * 10 ^ k ≤ n * 10 ^ k = mul-le-mul_right (10 ^ k) (let le : 1 ≤ n = omega arith in le) in
    omega arith

pub units_large : (n k : ℕ) → 2 ^ 31 ≤ n → 2 ^ 47 ≤ n * 10 ^ k * 65536
units_large n k large =
    let one : n * 1 ≤ n * 10 ^ k = mul-le-mul_left n (let le : 1 ≤ 10 ^ k = omega (arith, ten_pow-pos k) in le) in
    omega arith

pub up_fits : (n k : ℕ) → n < 2 ^ 31 → k ≤ 9 → n * 10 ^ k ≤ 2 ^ 31 * 10 ^ 9
up_fits n k small near =
    let left : n * 10 ^ k ≤ 2 ^ 31 * 10 ^ k = mul-le-mul_right (10 ^ k) (let le : n ≤ 2 ^ 31 = omega arith in le) in
    let right : 2 ^ 31 * 10 ^ k ≤ 2 ^ 31 * 10 ^ 9 = mul-le-mul_left (2 ^ 31) (ten_pow-le k 9 near) in
    omega arith

-- sizes of the digits' numbers
pub room_first : (w f : ℕ) → w + f ≤ 30 → (0 + 1) * 10 ^ w ≤ 10 ^ 30
room_first w f h = omega (arith, ten_pow-le w 30 (omega arith))

pub room_second : (n w f : ℕ) → w + f ≤ 30 → n + 1 ≤ (0 + 1) * 10 ^ w → (n + 1) * 10 ^ f ≤ 10 ^ 30
room_second n w f h small =
    let top : 10 ^ w * 10 ^ f ≤ 10 ^ 30 = rw (← pow-add 10 w f) (ten_pow-le (w + f) 30 h) in
    let below : n + 1 ≤ 10 ^ w = omega arith in
    omega (arith, mul-le-mul_right (10 ^ f) below)

pub rest_after : (s : List ℕ) (n : ℕ) → drop (min (length s) n) s ≡ drop n s
rest_after s n = let e : min (length s) n ≡ min n (length s) = omega arith in rw e (drop_min n s)

-- the digits behind the dot, and the exponent behind its mark
pub fraction-is : (s b f : List ℕ) (w : ℕ) → b ≡ drop w s → w ≡ digit_count s → f ≡ drop 1 (take (fraction_length b) b) → f ≡ fraction_digits s
fraction-is s b f w b_is w_is f_is =
    let behind : b ≡ after_digits s = b_is ∙ ap (λ k. drop k s) w_is in
    f_is ∙ ap (λ r. drop 1 (take (fraction_length r) r)) behind

pub part-is : (s b e p : List ℕ) (w f m : ℕ) → b ≡ drop w s → w ≡ digit_count s → e ≡ drop f b → f ≡ fraction_length b → p ≡ drop m e → m ≡ min (length e) 1 → p ≡ exponent_part s
part-is s b e p w f m b_is w_is e_is f_is p_is m_is =
    let behind : b ≡ after_digits s = b_is ∙ ap (λ k. drop k s) w_is in
    let end : e ≡ drop (fraction_length (after_digits s)) (after_digits s) = e_is ∙ ap (λ k. drop k b) f_is ∙ ap (λ r. drop (fraction_length r) r) behind in
    p_is ∙ ap (λ k. drop k e) m_is ∙ rest_after e 1 ∙ ap (drop 1) end
