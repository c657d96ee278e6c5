-- What a text begins with, by its first byte: words and numbers.
use Rattle.std.proofs.Common.{◌≡◌, ℕ, zero, suc, ◌+◌, ◌<◌, ◌≤◌, Bool, true, false, cond, ◌&&◌, ◌==◌, nat_lt, nat_le, List, [], ◌∷◌, length, take, drop, refl, sym, ap, ◌∙◌, subst, arith, ◌⊎◌, inl, inr, Result, Ok, Err, slice_index, Some, None}
use Rattle.std.specs.List.{prefix_len}
use Rattle.std.proofs.lemmas.Bool.{false≢true, cases_lt, cases_Bool, eqb-true}
use Rattle.std.proofs.lemmas.Bool.Decides.{nat_tests}
use Rattle.std.proofs.lemmas.List.{length-take-le}
use Rattle.std.proofs.lemmas.List.Sums.{prefix_len-le-length}
use Rattle.scene_lexer.specs.Bytes.{is_white, is_digit, is_letter, is_word_byte, is_word, is_name}
use Rattle.scene_lexer.specs.Spellings.{longest, is_gap, is_number, is_piece, digit_count, after_digits, fraction_length, sign_length, is_exponent_mark, is_plus_or_minus, is_white_space, is_line_comment, is_block_comment}
use Rattle.scene_lexer.specs.Tokens.{kind_of, number_of, front_of, piece_tokens, tokens_at}
use Rattle.scene_lexer.specs.Steps.{IsFound, exponent_length, line_feeds}
use Rattle.scene_lexer.specs.declared.token.Place.{Place}
use Rattle.scene_lexer.specs.declared.token.Token.{Token}
use Rattle.scene_lexer.specs.declared.token.Kind.{Kind}
use Rattle.scene_lexer.specs.declared.token.Kind.TheVariants.{Word}
use Rattle.scene_lexer.specs.declared.token.LexFault.{LexFault}
use Rattle.scene_lexer.specs.declared.token.LexFault.TheVariants.{LongName}
use Rattle.scene_lexer.proofs.LongestLemmas.{longest-le, longest-none, longest-same, longest-passes, letter-not_white, digit-not_white}
use Rattle.scene_lexer.proofs.NumberLength.{number_ends, longest-no_digits, lt-some, and_left, take-empty}
use Rattle.scene_lexer.proofs.PieceLemmas.{gap-false, number-false, piece-word, piece-number, longest-word, longest-dot_number, letter-not_slash, digit-not_slash}
use Rattle.scene_lexer.proofs.TokensLemmas.{kind-word, kind-number, no_feeds-run, feeds-cons, word-short, word-long}

pub gap-false-front : (s : List ℕ) (n : ℕ) → 0 < n → is_white (slice_index s 0) ≡ false → (47 == slice_index s 0) ≡ false → is_gap (take n s) ≡ false
unfolding is_gap is_white_space is_line_comment is_block_comment
gap-false-front s zero some h slash = absurd (omega arith)
gap-false-front [] (suc n) some h slash = refl
gap-false-front (b ∷ s) (suc n) some h slash = gap-false b (take n s) h slash

pub word-false-front : (s : List ℕ) (n : ℕ) → is_letter (slice_index s 0) ≡ false → is_word (take n s) ≡ false
word-false-front s zero h = refl
word-false-front [] (suc n) h = refl
word-false-front (b ∷ s) (suc n) h = rw h refl

token_tokens : (place : Place) (s : List ℕ) (kind : Kind) → is_gap s ≡ false → kind_of place s ≡ Ok kind → piece_tokens place s ≡ Ok (tokens_at place (place.at + length s) (Some kind))
unfolding piece_tokens
token_tokens place s kind no_gap is = rw (no_gap, is) refl

gap_none : (place : Place) (s : List ℕ) → is_gap s ≡ true → piece_tokens place s ≡ Ok []
unfolding piece_tokens
gap_none place s gap = rw gap refl

fault_tokens : (place : Place) (s : List ℕ) (fault : LexFault) → is_gap s ≡ false → kind_of place s ≡ Err fault → piece_tokens place s ≡ Err fault
unfolding piece_tokens
fault_tokens place s fault no_gap is = rw (no_gap, is) refl

-- a front that is a token, a gap or a fault
pub found-token : (place : Place) (s : List ℕ) (n lines : ℕ) (kind : Kind) → front_of s ≡ take n s → n ≤ length s → 0 < n → is_gap (take n s) ≡ false →
    lines ≡ line_feeds (take n s) → kind_of place (take n s) ≡ Ok kind → IsFound place s (record { kind = Some kind; length = n; lines = lines })
found-token place s n lines kind front within some no_gap feeds is = record {
  tokens_are = ap (piece_tokens place) front ∙ token_tokens place (take n s) kind no_gap is ∙ ap (λ k. let r : Result (List Token) LexFault = Ok (tokens_at place (place.at + k) (Some kind)) in r) (length-take-le n s within);
  length_is = sym (ap length front ∙ length-take-le n s within);
  lines_are = feeds ∙ sym (ap line_feeds front);
  some = some;
}

pub found-gap : (place : Place) (s : List ℕ) (n lines : ℕ) → front_of s ≡ take n s → n ≤ length s → 0 < n → is_gap (take n s) ≡ true →
    lines ≡ line_feeds (take n s) → IsFound place s (record { kind = None; length = n; lines = lines })
found-gap place s n lines front within some gap feeds = record {
  tokens_are = ap (piece_tokens place) front ∙ gap_none place (take n s) gap;
  length_is = sym (ap length front ∙ length-take-le n s within);
  lines_are = feeds ∙ sym (ap line_feeds front);
  some = some;
}

pub fault-front : (place : Place) (s t : List ℕ) (fault : LexFault) → front_of s ≡ t → is_gap t ≡ false → kind_of place t ≡ Err fault → piece_tokens place (front_of s) ≡ Err fault
fault-front place s t fault front no_gap is = ap (piece_tokens place) front ∙ fault_tokens place t fault no_gap is

-- words
front-word : (s : List ℕ) → is_letter (slice_index s 0) ≡ true → front_of s ≡ take (prefix_len is_word_byte s) s
unfolding front_of
front-word [] h = absurd (false≢true h)
front-word (b ∷ s) h =
    ap (λ n. take n (b ∷ s)) (longest-same is_piece is_word (length (b ∷ s)) b s (λ t. piece-word b t h) ∙ longest-word b s h)

word-passes : (s : List ℕ) → is_letter (slice_index s 0) ≡ true → is_word (take (prefix_len is_word_byte s) s) ≡ true
word-passes [] h = absurd (false≢true h)
word-passes (b ∷ s) h =
    let e = longest-word b s h in
    subst (λ n. is_word (take n (b ∷ s)) ≡ true) e (longest-passes is_word (length (b ∷ s)) (b ∷ s) (rw e (some b s h)))
  where
    some : (b : ℕ) (s : List ℕ) → is_letter b ≡ true → 0 < prefix_len is_word_byte (b ∷ s)
    some b s h = rw h (omega arith)

word-some : (s : List ℕ) → is_letter (slice_index s 0) ≡ true → 0 < prefix_len is_word_byte s
word-some [] h = absurd (false≢true h)
word-some (b ∷ s) h = rw h (omega arith)

pub word_found : (place : Place) (s : List ℕ) (n : ℕ) (name : List ℕ) → is_letter (slice_index s 0) ≡ true → n ≡ prefix_len is_word_byte s →
    nat_le (length (take n s)) 40 ≡ true → name ≡ take n s → IsFound place s (record { kind = Some (Word name); length = n; lines = 0 })
word_found place s n name letter is short same =
    let passes : is_word (take n s) ≡ true = subst (λ k. is_word (take k s) ≡ true) (sym is) (word-passes s letter) in
    let kind : kind_of place (take n s) ≡ Ok (Word name) =
    kind-word place (take n s) passes ∙ word-short place (take n s) short ∙ ap (λ v. let r : Result Kind LexFault = Ok (Word v) in r) (sym same) in
    let some : 0 < n = rw is (word-some s letter) in
    found-token place s n 0 (Word name) (front-word s letter ∙ ap (λ k. take k s) (sym is)) (rw is (prefix_len-le-length is_word_byte s)) some
    (gap-false-front s n some (letter-not_white (slice_index s 0) letter) (letter-not_slash (slice_index s 0) letter))
    (sym (ap (λ k. line_feeds (take k s)) is ∙ no_feeds-run is_word_byte refl s)) kind

pub word_long : (place : Place) (s : List ℕ) (n : ℕ) → is_letter (slice_index s 0) ≡ true → n ≡ prefix_len is_word_byte s →
    nat_le (length (take n s)) 40 ≡ false → piece_tokens place (front_of s) ≡ Err (LongName place)
word_long place s n letter is long =
    let passes : is_word (take n s) ≡ true = subst (λ k. is_word (take k s) ≡ true) (sym is) (word-passes s letter) in
    let some : 0 < n = rw is (word-some s letter) in
    fault-front place s (take n s) (LongName place) (front-word s letter ∙ ap (λ k. take k s) (sym is))
    (gap-false-front s n some (letter-not_white (slice_index s 0) letter) (letter-not_slash (slice_index s 0) letter))
    (kind-word place (take n s) passes ∙ word-long place (take n s) long)

pub word-is : (s : List ℕ) (n : ℕ) → is_letter (slice_index s 0) ≡ true → n ≡ prefix_len is_word_byte s → is_word (take n s) ≡ true
word-is s n letter is = subst (λ k. is_word (take k s) ≡ true) (sym is) (word-passes s letter)

pub name-short : (s : List ℕ) → is_name s ≡ true → nat_le (length s) 40 ≡ true
name-short s h = and_right (is_word s) (nat_le (length s) 40) h
  where
    and_right : (x y : Bool) → (x && y) ≡ true → y ≡ true
    and_right true y h = h
    and_right false y h = absurd (false≢true h)

pub name-long : (s : List ℕ) → is_word s ≡ true → ¬ (is_name s ≡ true) → nat_le (length s) 40 ≡ false
name-long s word unnamed = elim (cases_Bool (nat_le (length s) 40)) [
  | inr long ↦ long
  | inl short ↦ absurd (unnamed (ap (λ v. v && nat_le (length s) 40) word ∙ short))
]

-- numbers
pub feeds-take-add : (m n : ℕ) (s : List ℕ) → line_feeds (take (m + n) s) ≡ line_feeds (take m s) + line_feeds (take n (drop m s))
feeds-take-add zero n s = let e : 0 + n ≡ n = omega arith in ap (λ k. line_feeds (take k s)) e ∙ omega arith
feeds-take-add (suc m) n [] = rw (take-empty (suc m + n), take-empty n) refl
feeds-take-add (suc m) n (b ∷ s) =
    let e : suc m + n ≡ suc (m + n) = omega arith in
    ap (λ k. line_feeds (take k (b ∷ s))) e
    ∙ feeds-cons b (take (m + n) s)
    ∙ ap (λ k. cond (b == 10) 1 0 + k) (feeds-take-add m n s)
    ∙ omega (arith, feeds-cons b (take m s))

feeds-fraction : (s : List ℕ) → line_feeds (take (fraction_length s) s) ≡ 0
feeds-fraction [] = refl
feeds-fraction (b ∷ s) = elim (cases_Bool (b == 46 && nat_lt 0 (digit_count s))) [
  | inr e ↦ ap (λ v. line_feeds (take (cond v (1 + digit_count s) 0) (b ∷ s))) e
  | inl e ↦
      let more : 1 + digit_count s ≡ suc (digit_count s) = omega arith in
      let dot : b ≡ 46 = eqb-true b 46 (and_left (b == 46) (nat_lt 0 (digit_count s)) e) in
      ap (λ v. line_feeds (take (cond v (1 + digit_count s) 0) (b ∷ s))) e
      ∙ ap (λ k. line_feeds (take k (b ∷ s))) more
      ∙ feeds-cons b (take (digit_count s) s)
      ∙ ap (λ k. cond (k == 10) 1 0 + line_feeds (take (digit_count s) s)) dot
      ∙ omega (arith, no_feeds-run is_digit refl s)
]
  where
    and_left : (x y : Bool) → (x && y) ≡ true → x ≡ true
    and_left true y h = refl
    and_left false y h = h

mark-no_feed : (b : ℕ) → is_exponent_mark b ≡ true → (b == 10) ≡ false
mark-no_feed b h = grind (arith, nat_tests)

sign-no_feed : (b : ℕ) → is_plus_or_minus b ≡ true → (b == 10) ≡ false
sign-no_feed b h = grind (arith, nat_tests)

feeds-exponent_sign : (s : List ℕ) → line_feeds (take (sign_length s) s) ≡ 0
feeds-exponent_sign [] = refl
feeds-exponent_sign (b ∷ s) = elim (cases_Bool (is_plus_or_minus b)) [
  | inr e ↦ ap (λ v. line_feeds (take (cond v 1 0) (b ∷ s))) e
  | inl e ↦ ap (λ v. line_feeds (take (cond v 1 0) (b ∷ s))) e ∙ feeds-cons b [] ∙ ap (λ v. cond v 1 0 + 0) (sign-no_feed b e)
]

feeds-exponent : (s : List ℕ) → line_feeds (take (exponent_length s) s) ≡ 0
feeds-exponent [] = refl
feeds-exponent (b ∷ s) =
    let t = drop (sign_length s) s in
    elim (cases_Bool (is_exponent_mark b && nat_lt 0 (digit_count t))) [
      | inr e ↦ ap (λ v. line_feeds (take (cond v (suc (sign_length s + digit_count t)) 0) (b ∷ s))) e
      | inl e ↦
          ap (λ v. line_feeds (take (cond v (suc (sign_length s + digit_count t)) 0) (b ∷ s))) e
          ∙ feeds-cons b (take (sign_length s + digit_count t) s)
          ∙ ap (λ v. cond v 1 0 + line_feeds (take (sign_length s + digit_count t) s)) (mark-no_feed b (and_left (is_exponent_mark b) (nat_lt 0 (digit_count t)) e))
          ∙ omega (arith, feeds-take-add (sign_length s) (digit_count t) s, feeds-exponent_sign s, no_feeds-run is_digit refl t)
    ]

feeds-number : (s : List ℕ) → 0 < longest is_number (length s) s → line_feeds (take (longest is_number (length s) s) s) ≡ 0
feeds-number s some = elim (cases_lt 0 (digit_count s + fraction_length (after_digits s))) [
  | inr none ↦ absurd (omega (arith, longest-no_digits s (omega arith)))
  | inl digits ↦
      let w = digit_count s in
      let f = fraction_length (after_digits s) in
      let e = exponent_length (drop f (after_digits s)) in
      let add : w + f + e ≡ w + (f + e) = omega arith in
      ap (λ k. line_feeds (take k s)) (number_ends s digits ∙ add)
      ∙ feeds-take-add w (f + e) s
      ∙ omega (arith, no_feeds-run is_digit refl s, feeds-take-add f e (after_digits s), feeds-fraction (after_digits s), feeds-exponent (drop f (after_digits s)))
]

-- a number begins with a digit or a dot
number-head : (b : ℕ) (s : List ℕ) → 0 < longest is_number (length (b ∷ s)) (b ∷ s) → (is_digit b ≡ true) ⊎ (b ≡ 46)
number-head b s some = elim (cases_Bool (is_digit b)) [
  | inl digit ↦ inl digit
  | inr no_digit ↦ elim (cases_Bool (b == 46)) [
    | inl dot ↦ inr (eqb-true b 46 dot)
    | inr no_dot ↦
        let none : longest is_number (length (b ∷ s)) (b ∷ s) ≡ 0 = longest-none is_number (suc (length s)) (b ∷ s) (λ m low high. none_at no_digit no_dot m low) in
        absurd (omega arith)
  ]
]
  where
    none_at : is_digit b ≡ false → (b == 46) ≡ false → (m : ℕ) → 0 < m → is_number (take m (b ∷ s)) ≡ false
    none_at no_digit no_dot zero low = absurd (omega arith)
    none_at no_digit no_dot (suc m) low = number-false b (take m s) no_digit no_dot

-- a number that begins with a dot has a digit more
dot-number-long : (s : List ℕ) → 0 < longest is_number (length (46 ∷ s)) (46 ∷ s) → 1 < longest is_number (length (46 ∷ s)) (46 ∷ s)
dot-number-long s some = elim (cases_lt 0 (fraction_length (46 ∷ s))) [
  | inr none ↦ absurd (omega (arith, longest-no_digits (46 ∷ s) (omega arith)))
  | inl digits ↦ omega (arith, number_ends (46 ∷ s) (omega arith), long (digit_count s) digits)
]
  where
    long : (g : ℕ) → 0 < cond (nat_lt 0 g) (1 + g) 0 → 1 < cond (nat_lt 0 g) (1 + g) 0
    long zero h = let none : 0 < 0 = h in absurd (omega arith)
    long (suc g) h = rw (lt-some (suc g) (omega arith)) (omega arith)

longest-number_piece : (b : ℕ) (s : List ℕ) → 0 < longest is_number (length (b ∷ s)) (b ∷ s) → longest is_piece (length (b ∷ s)) (b ∷ s) ≡ longest is_number (length (b ∷ s)) (b ∷ s)
longest-number_piece b s some = elim (number-head b s some) [
  | inl digit ↦ longest-same is_piece is_number (length (b ∷ s)) b s (λ t. piece-number b t digit)
  | inr dot ↦ subst (λ k. longest is_piece (length (k ∷ s)) (k ∷ s) ≡ longest is_number (length (k ∷ s)) (k ∷ s)) (sym dot)
      (longest-dot_number s (dot-number-long s (subst (λ k. 0 < longest is_number (length (k ∷ s)) (k ∷ s)) dot some)))
]

front-number : (s : List ℕ) → 0 < longest is_number (length s) s → front_of s ≡ take (longest is_number (length s) s) s
unfolding front_of longest
front-number [] some = absurd (omega arith)
front-number (b ∷ s) some = ap (λ n. take n (b ∷ s)) (longest-number_piece b s some)

number-solid : (s : List ℕ) → 0 < longest is_number (length s) s → is_white (slice_index s 0) ≡ false
unfolding longest
number-solid [] some = absurd (omega arith)
number-solid (b ∷ s) some = elim (number-head b s some) [
  | inl digit ↦ digit-not_white b digit
  | inr dot ↦ subst (λ k. is_white k ≡ false) (sym dot) refl
]

number-no_slash : (s : List ℕ) → 0 < longest is_number (length s) s → (47 == slice_index s 0) ≡ false
unfolding longest
number-no_slash [] some = absurd (omega arith)
number-no_slash (b ∷ s) some = elim (number-head b s some) [
  | inl digit ↦ digit-not_slash b digit
  | inr dot ↦ subst (λ k. (47 == k) ≡ false) (sym dot) refl
]

number-kind : (place : Place) (s : List ℕ) (n : ℕ) → is_letter (slice_index s 0) ≡ false → n ≡ longest is_number (length s) s → 0 < n → kind_of place (take n s) ≡ number_of place (take n s)
number-kind place s n letter is some =
    kind-number place (take n s) (word-false-front s n letter)
    (subst (λ k. is_number (take k s) ≡ true) (sym is) (longest-passes is_number (length s) s (rw (← is) some)))

pub number_found : (place : Place) (s : List ℕ) (n : ℕ) (kind : Kind) → is_letter (slice_index s 0) ≡ false → n ≡ longest is_number (length s) s → 0 < n →
    Ok kind ≡ number_of place (take n s) → IsFound place s (record { kind = Some kind; length = n; lines = 0 })
number_found place s n kind letter is some means =
    let long : 0 < longest is_number (length s) s = rw (← is) some in
    let front = front-number s long ∙ ap (λ k. take k s) (sym is) in
    found-token place s n 0 kind front (rw is (longest-le is_number (length s) s)) some (gap-false-front s n some (number-solid s long) (number-no_slash s long))
    (sym (ap (λ k. line_feeds (take k s)) is ∙ feeds-number s long)) (number-kind place s n letter is some ∙ sym means)

pub number_fault : (place : Place) (s : List ℕ) (n : ℕ) (fault : LexFault) → is_letter (slice_index s 0) ≡ false → n ≡ longest is_number (length s) s → 0 < n →
    Err fault ≡ number_of place (take n s) → piece_tokens place (front_of s) ≡ Err fault
number_fault place s n fault letter is some means =
    let long : 0 < longest is_number (length s) s = rw (← is) some in
    fault-front place s (take n s) fault (front-number s long ∙ ap (λ k. take k s) (sym is)) (gap-false-front s n some (number-solid s long) (number-no_slash s long))
    (number-kind place s n letter is some ∙ sym means)
