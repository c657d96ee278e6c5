-- Which spelling is the longest piece at the start of a text, by its first byte.
use Rattle.std.proofs.Common.{◌≡◌, ℕ, zero, suc, ◌+◌, ◌<◌, ◌≤◌, Bool, true, false, cond, ◌||◌, ◌==◌, List, [], ◌∷◌, length, take, refl, sym, ap, ◌∙◌, arith, inl, inr, Option, None, is_some}
use Rattle.std.specs.List.{prefix_len}
use Rattle.std.proofs.lemmas.Bool.{cases_Bool, eqb-true, false≢true}
use Rattle.std.proofs.lemmas.Bool.Decides.{nat_tests}
use Rattle.std.proofs.lemmas.List.Sums.{prefix_len-le-length}
use Rattle.scene_lexer.specs.Bytes.{is_white, is_digit, is_letter, is_word_byte, is_word}
use Rattle.scene_lexer.specs.Spellings.{longest, is_sign_byte, is_white_space, is_line_comment, is_block_comment, is_open_comment, is_text, is_open_text, is_gap, is_sign, is_number, is_piece, two_byte_sign}
use Rattle.scene_lexer.specs.Steps.{two_byte_sign_of}
use Rattle.scene_lexer.proofs.LongestLemmas.{longest-is, longest-le, longest-passes, longest-above, list_all-take, letter-not_white, letter-not_digit, digit-not_letter, digit-not_white, sign-not_letter, sign-not_digit, sign-not_white}
use Rattle.scene_lexer.proofs.NumberLength.{fraction-false}

pub white_space-false : (b : ℕ) (s : List ℕ) → is_white b ≡ false → is_white_space (b ∷ s) ≡ false
unfolding is_white_space
white_space-false b [] h = h
white_space-false b (c ∷ s) h = refl

pub line_comment-false : (b : ℕ) (s : List ℕ) → (47 == b) ≡ false → is_line_comment (b ∷ s) ≡ false
unfolding is_line_comment
line_comment-false b s h = rw h refl

pub block_comment-false : (b : ℕ) (s : List ℕ) → (47 == b) ≡ false → is_block_comment (b ∷ s) ≡ false
unfolding is_block_comment
block_comment-false b s h = rw h refl

pub open_comment-false : (b : ℕ) (s : List ℕ) → (47 == b) ≡ false → is_open_comment (b ∷ s) ≡ false
unfolding is_open_comment
open_comment-false b s h = rw h refl

pub text-false : (b : ℕ) (s : List ℕ) → (34 == b) ≡ false → is_text (b ∷ s) ≡ false
unfolding is_text
text-false b s h = rw h refl

pub open_text-false : (b : ℕ) (s : List ℕ) → (34 == b) ≡ false → is_open_text (b ∷ s) ≡ false
unfolding is_open_text
open_text-false b s h = rw h refl

-- no gap begins with a byte that is neither white nor a slash
pub gap-false : (b : ℕ) (s : List ℕ) → is_white b ≡ false → (47 == b) ≡ false → is_gap (b ∷ s) ≡ false
unfolding is_gap
gap-false b s solid slash = rw (white_space-false b s solid, line_comment-false b s slash, block_comment-false b s slash) refl

-- no sign of two bytes begins with another byte than `<`, `>` and `!`
pub two-none : (b c : ℕ) → (b == 60) ≡ false → (b == 62) ≡ false → (b == 33) ≡ false → is_some (two_byte_sign b c) ≡ false
two-none b c less greater bang = rw (less, greater, bang) (either (c == 61))
  where
    either : (v : Bool) → is_some (cond v None (let none : Option ℕ = None in none)) ≡ false
    either true = refl
    either false = refl

-- a sign of two bytes begins with a sign
pub two-first : (b c : ℕ) → is_some (two_byte_sign b c) ≡ true → is_sign_byte b ≡ true
two-first b c h = elim (cases_Bool (b == 60)) [
  | inl e ↦ ap is_sign_byte (eqb-true b 60 e)
  | inr less ↦ elim (cases_Bool (b == 62)) [
    | inl e ↦ ap is_sign_byte (eqb-true b 62 e)
    | inr greater ↦ elim (cases_Bool (b == 33)) [
      | inl e ↦ ap is_sign_byte (eqb-true b 33 e)
      | inr bang ↦ absurd (false≢true (sym (two-none b c less greater bang) ∙ h))
    ]
  ]
]

pub sign-false : (b : ℕ) (s : List ℕ) → is_sign_byte b ≡ false → is_sign (b ∷ s) ≡ false
unfolding is_sign
sign-false b [] h = h
sign-false b (c ∷ d ∷ s) h = refl
sign-false b (c ∷ []) h = elim (cases_Bool (is_some (two_byte_sign b c))) [
  | inr none ↦ none
  | inl some ↦ absurd (false≢true (sym h ∙ two-first b c some))
]

pub word-false : (b : ℕ) (s : List ℕ) → is_letter b ≡ false → is_word (b ∷ s) ≡ false
word-false b s h = rw h refl

pub number-false : (b : ℕ) (s : List ℕ) → is_digit b ≡ false → (b == 46) ≡ false → is_number (b ∷ s) ≡ false
unfolding is_number
number-false b s h dot = rw h (fraction-false b s dot)

letter-not_dot : (b : ℕ) → is_letter b ≡ true → (b == 46) ≡ false
letter-not_dot b h = grind (arith, nat_tests)

pub letter-not_slash : (b : ℕ) → is_letter b ≡ true → (47 == b) ≡ false
letter-not_slash b h = grind (arith, nat_tests)

letter-not_quote : (b : ℕ) → is_letter b ≡ true → (34 == b) ≡ false
letter-not_quote b h = grind (arith, nat_tests)

pub digit-not_slash : (b : ℕ) → is_digit b ≡ true → (47 == b) ≡ false
digit-not_slash b h = grind (arith, nat_tests)

digit-not_quote : (b : ℕ) → is_digit b ≡ true → (34 == b) ≡ false
digit-not_quote b h = grind (arith, nat_tests)

white-not_dot : (b : ℕ) → is_white b ≡ true → (b == 46) ≡ false
white-not_dot b h = grind (arith, nat_tests)

white-not_slash : (b : ℕ) → is_white b ≡ true → (47 == b) ≡ false
white-not_slash b h = grind (arith, nat_tests)

white-not_quote : (b : ℕ) → is_white b ≡ true → (34 == b) ≡ false
white-not_quote b h = grind (arith, nat_tests)

white-not_letter : (b : ℕ) → is_white b ≡ true → is_letter b ≡ false
white-not_letter b h = grind (arith, nat_tests)

white-not_digit : (b : ℕ) → is_white b ≡ true → is_digit b ≡ false
white-not_digit b h = grind (arith, nat_tests)

or-false : (b : Bool) → (b || false) ≡ b
or-false true = refl
or-false false = refl

-- a letter begins words alone
pub piece-word : (b : ℕ) (s : List ℕ) → is_letter b ≡ true → is_piece (b ∷ s) ≡ is_word (b ∷ s)
unfolding is_piece
piece-word b s h =
    rw (
      gap-false b s (letter-not_white b h) (letter-not_slash b h),
      number-false b s (letter-not_digit b h) (letter-not_dot b h),
      text-false b s (letter-not_quote b h),
      sign-false b s (sign-not_letter b h),
      open_comment-false b s (letter-not_slash b h),
      open_text-false b s (letter-not_quote b h),
    )
    (or-false (is_word (b ∷ s)))

-- a digit begins numbers alone
pub piece-number : (b : ℕ) (s : List ℕ) → is_digit b ≡ true → is_piece (b ∷ s) ≡ is_number (b ∷ s)
unfolding is_piece
piece-number b s h =
    rw (
      gap-false b s (digit-not_white b h) (digit-not_slash b h),
      word-false b s (digit-not_letter b h),
      text-false b s (digit-not_quote b h),
      sign-false b s (sign-not_digit b h),
      open_comment-false b s (digit-not_slash b h),
      open_text-false b s (digit-not_quote b h),
    )
    (or-false (is_number (b ∷ s)))

-- a dot begins numbers and is a sign
pub piece-dot : (s : List ℕ) → is_piece (46 ∷ s) ≡ (is_number (46 ∷ s) || is_sign (46 ∷ s))
unfolding is_piece
piece-dot s =
    rw (gap-false 46 s refl refl, text-false 46 s refl, open_comment-false 46 s refl, open_text-false 46 s refl)
    (ap (λ v. is_number (46 ∷ s) || v) (or-false (is_sign (46 ∷ s))))

-- a quote begins texts alone, with an end or without
pub piece-text : (s : List ℕ) → is_piece (34 ∷ s) ≡ (is_text (34 ∷ s) || is_open_text (34 ∷ s))
unfolding is_piece
piece-text s =
    rw (gap-false 34 s refl refl, number-false 34 s refl refl, sign-false 34 s refl, open_comment-false 34 s refl) refl

-- a slash begins comments, closed and open, and is a sign
pub piece-slash : (s : List ℕ) →
    is_piece (47 ∷ s) ≡ ((is_line_comment (47 ∷ s) || is_block_comment (47 ∷ s)) || (is_sign (47 ∷ s) || is_open_comment (47 ∷ s)))
unfolding is_piece is_gap
piece-slash s =
    rw (white_space-false 47 s refl, number-false 47 s refl refl, text-false 47 s refl, open_text-false 47 s refl)
    (ap (λ v. (is_line_comment (47 ∷ s) || is_block_comment (47 ∷ s)) || (is_sign (47 ∷ s) || v)) (or-false (is_open_comment (47 ∷ s))))

-- any other byte that isn't white begins signs alone
pub piece-sign : (b : ℕ) (s : List ℕ) → is_white b ≡ false → is_letter b ≡ false → is_digit b ≡ false → (b == 46) ≡ false → (47 == b) ≡ false → (34 == b) ≡ false → is_piece (b ∷ s) ≡ is_sign (b ∷ s)
unfolding is_piece
piece-sign b s white letter digit dot slash quote =
    rw (gap-false b s white slash, word-false b s letter, number-false b s digit dot, text-false b s quote, open_comment-false b s slash, open_text-false b s quote)
    (or-false (is_sign (b ∷ s)))

-- a white byte is a gap, and begins nothing else
pub piece-white : (b : ℕ) (s : List ℕ) → is_white b ≡ true → is_piece (b ∷ s) ≡ is_white_space (b ∷ s)
unfolding is_piece is_gap
piece-white b s h =
    rw (
      line_comment-false b s (white-not_slash b h),
      block_comment-false b s (white-not_slash b h),
      word-false b s (white-not_letter b h),
      number-false b s (white-not_digit b h) (white-not_dot b h),
      text-false b s (white-not_quote b h),
      sign-false b s (sign-not_white b h),
      open_comment-false b s (white-not_slash b h),
      open_text-false b s (white-not_quote b h),
    )
    (or-false (is_white_space (b ∷ s) || false) ∙ or-false (is_white_space (b ∷ s)))

-- a word ends where its letters and digits end
pub longest-word : (b : ℕ) (s : List ℕ) → is_letter b ≡ true → longest is_word (length (b ∷ s)) (b ∷ s) ≡ prefix_len is_word_byte (b ∷ s)
longest-word b s h =
    let n = prefix_len is_word_byte s in
    let within = prefix_len-le-length is_word_byte s in
    let at_n : is_word (take (suc n) (b ∷ s)) ≡ true = rw (h, list_all-take is_word_byte n s within) (grind (arith, nat_tests)) in
    let e : prefix_len is_word_byte (b ∷ s) ≡ suc n = ap (λ v. cond (v || is_digit b) (1 + n) 0) h ∙ (omega arith) in
    rw e (longest-is is_word (suc (length s)) (suc n) (b ∷ s) (omega arith) at_n (λ m low high. above m low high) (omega arith))
  where
    above : (m : ℕ) → suc (prefix_len is_word_byte s) < m → m ≤ suc (length s) → is_word (take m (b ∷ s)) ≡ false
    above zero low high = absurd (omega arith)
    above (suc m) low high = rw (h, list_all-take is_word_byte m s (omega arith)) (grind (arith, nat_tests))

-- a sign has at most two bytes
pub long-no_sign : (b m : ℕ) (s : List ℕ) → 2 < m → m ≤ suc (length s) → is_sign (take m (b ∷ s)) ≡ false
unfolding is_sign
long-no_sign b zero s low high = absurd (omega arith)
long-no_sign b (suc zero) s low high = absurd (omega arith)
long-no_sign b (suc (suc zero)) s low high = absurd (omega arith)
long-no_sign b (suc (suc (suc m))) [] low high = absurd (omega arith)
long-no_sign b (suc (suc (suc m))) (c ∷ []) low high = absurd (omega arith)
long-no_sign b (suc (suc (suc m))) (c ∷ d ∷ s) low high = refl

-- and one where its byte begins no sign of two
lone-no_sign : (b m : ℕ) (s : List ℕ) → ((c : ℕ) → is_some (two_byte_sign b c) ≡ false) → 1 < m → m ≤ suc (length s) → is_sign (take m (b ∷ s)) ≡ false
unfolding is_sign
lone-no_sign b zero s lone low high = absurd (omega arith)
lone-no_sign b (suc zero) s lone low high = absurd (omega arith)
lone-no_sign b (suc (suc m)) [] lone low high = absurd (omega arith)
lone-no_sign b (suc (suc zero)) (c ∷ s) lone low high = lone c
lone-no_sign b (suc (suc (suc m))) (c ∷ []) lone low high = absurd (omega arith)
lone-no_sign b (suc (suc (suc m))) (c ∷ d ∷ s) lone low high = refl

lone-above : (b m : ℕ) (s : List ℕ) → two_byte_sign_of (b ∷ s) ≡ None → 1 < m → m ≤ suc (length s) → is_sign (take m (b ∷ s)) ≡ false
unfolding is_sign
lone-above b zero s lone low high = absurd (omega arith)
lone-above b (suc zero) s lone low high = absurd (omega arith)
lone-above b (suc (suc m)) [] lone low high = absurd (omega arith)
lone-above b (suc (suc zero)) (c ∷ s) lone low high = ap is_some lone
lone-above b (suc (suc (suc m))) (c ∷ []) lone low high = absurd (omega arith)
lone-above b (suc (suc (suc m))) (c ∷ d ∷ s) lone low high = refl

pub longest-sign : (b : ℕ) (s : List ℕ) → is_sign_byte b ≡ true → two_byte_sign_of (b ∷ s) ≡ None → longest is_sign (length (b ∷ s)) (b ∷ s) ≡ 1
unfolding is_sign
longest-sign b s h lone = longest-is is_sign (suc (length s)) 1 (b ∷ s) (omega arith) h (λ m low high. lone-above b m s lone low high) (omega arith)

pub longest-two : (b c : ℕ) (s : List ℕ) → is_some (two_byte_sign b c) ≡ true → longest is_sign (length (b ∷ c ∷ s)) (b ∷ c ∷ s) ≡ 2
unfolding is_sign
longest-two b c s h = longest-is is_sign (suc (suc (length s))) 2 (b ∷ c ∷ s) (omega arith) h (λ m low high. long-no_sign b m (c ∷ s) low high) (omega arith)

pub dot-lone : (c : ℕ) → is_some (two_byte_sign 46 c) ≡ false
dot-lone c = two-none 46 c refl refl refl

pub slash-lone : (c : ℕ) → is_some (two_byte_sign 47 c) ≡ false
slash-lone c = two-none 47 c refl refl refl

-- at a dot the number is taken where there is one
pub longest-dot_number : (s : List ℕ) → 1 < longest is_number (length (46 ∷ s)) (46 ∷ s) → longest is_piece (length (46 ∷ s)) (46 ∷ s) ≡ longest is_number (length (46 ∷ s)) (46 ∷ s)
longest-dot_number s h =
    let n = longest is_number (suc (length s)) (46 ∷ s) in
    longest-is is_piece (suc (length s)) n (46 ∷ s) (longest-le is_number (suc (length s)) (46 ∷ s))
    (at n h (longest-passes is_number (suc (length s)) (46 ∷ s) (omega arith)))
    (λ m low high. above m (omega arith) high (longest-above is_number (suc (length s)) m (46 ∷ s) low high))
    (omega arith)
  where
    at : (m : ℕ) → 1 < m → is_number (take m (46 ∷ s)) ≡ true → is_piece (take m (46 ∷ s)) ≡ true
    at zero some h = absurd (omega arith)
    at (suc m) some h = piece-dot (take m s) ∙ ap (λ v. v || is_sign (46 ∷ take m s)) h

    above : (m : ℕ) → 1 < m → m ≤ suc (length s) → is_number (take m (46 ∷ s)) ≡ false → is_piece (take m (46 ∷ s)) ≡ false
    above zero some high h = absurd (omega arith)
    above (suc m) some high h = piece-dot (take m s) ∙ ap (λ v. v || is_sign (46 ∷ take m s)) h ∙ lone-no_sign 46 (suc m) s dot-lone some high

pub longest-dot_sign : (s : List ℕ) → longest is_number (length (46 ∷ s)) (46 ∷ s) ≡ 0 → longest is_piece (length (46 ∷ s)) (46 ∷ s) ≡ 1
unfolding is_sign
longest-dot_sign s h =
    longest-is is_piece (suc (length s)) 1 (46 ∷ s) (omega arith) one
    (λ m low high. above m low high (longest-above is_number (suc (length s)) m (46 ∷ s) (omega arith) high))
    (omega arith)
  where
    or-true : (b : Bool) → (b || true) ≡ true
    or-true true = refl
    or-true false = refl

    one : is_piece (46 ∷ []) ≡ true
    one = piece-dot [] ∙ or-true (is_number (46 ∷ []))

    above : (m : ℕ) → 1 < m → m ≤ suc (length s) → is_number (take m (46 ∷ s)) ≡ false → is_piece (take m (46 ∷ s)) ≡ false
    above zero some high h = absurd (omega arith)
    above (suc m) some high h = piece-dot (take m s) ∙ ap (λ v. v || is_sign (46 ∷ take m s)) h ∙ lone-no_sign 46 (suc m) s dot-lone some high
