-- Signs of one and of two bytes at the start of a text, and bytes that begin nothing.
use Rattle.std.proofs.Common.{◌≡◌, ℕ, zero, suc, ◌+◌, ◌<◌, ◌≤◌, Bool, true, false, cond, ◌||◌, ◌==◌, List, [], ◌∷◌, length, take, refl, sym, ap, ◌∙◌, subst, arith, inl, inr, Result, Ok, Err, slice_index, Some, None, is_some, unwrap_or}
use Rattle.std.proofs.lemmas.Bool.{false≢true, cases_Bool, eqb-true}
use Rattle.scene_lexer.specs.Bytes.{is_white, is_digit, is_letter}
use Rattle.scene_lexer.specs.Spellings.{longest, is_sign_byte, is_white_space, is_line_comment, is_block_comment, is_open_comment, is_gap, is_sign, is_number, is_piece, digit_count, two_byte_sign, opens_comment, opens_line_comment}
use Rattle.scene_lexer.specs.Tokens.{piece_tokens, front_of}
use Rattle.scene_lexer.specs.Steps.{IsFound, line_feeds, two_byte_sign_of}
use Rattle.scene_lexer.specs.declared.token.Place.{Place}
use Rattle.scene_lexer.specs.declared.token.Kind.{Kind}
use Rattle.scene_lexer.specs.declared.token.Kind.TheVariants.{Sign}
use Rattle.scene_lexer.specs.declared.token.LexFault.{LexFault}
use Rattle.scene_lexer.specs.declared.token.LexFault.TheVariants.{BadByte}
use Rattle.scene_lexer.proofs.LongestLemmas.{longest-above, longest-none}
use Rattle.scene_lexer.proofs.NumberLength.{number_ends, and-false}
use Rattle.scene_lexer.proofs.PieceLemmas.{gap-false, piece-dot, piece-slash, piece-sign, longest-sign, longest-two, word-false, text-false, sign-false, two-first, slash-lone}
use Rattle.scene_lexer.proofs.TokensLemmas.{feeds-cons, kind-sign, kind-bad}
use Rattle.scene_lexer.proofs.FoundLemmas.{found-token, fault-front}

longest-agree : (p q : List ℕ → Bool) (k : ℕ) (text : List ℕ) → ((m : ℕ) → 0 < m → m ≤ k → p (take m text) ≡ q (take m text)) → longest p k text ≡ longest q k text
unfolding longest
longest-agree p q zero text same = refl
longest-agree p q (suc k) text same =
    ap (λ v. cond v (suc k) (longest p k text)) (same (suc k) (omega arith) (omega arith))
    ∙ ap (λ n. cond (q (take (suc k) text)) (suc k) n) (longest-agree p q k text (λ m low high. same m low (omega arith)))

-- what is known of a text that begins with none of the other pieces
pub record IsSignAlone (b : ℕ) (s : List ℕ) : Type 0 where
  pub solid : is_white b ≡ false
  pub letter : is_letter b ≡ false
  pub quote : (34 == b) ≡ false
  pub number : longest is_number (length (b ∷ s)) (b ∷ s) ≡ 0
  pub line : opens_line_comment (b ∷ s) ≡ false
  pub comment : opens_comment (b ∷ s) ≡ false

no_number-head : (b : ℕ) (s : List ℕ) → longest is_number (length (b ∷ s)) (b ∷ s) ≡ 0 → is_digit b ≡ false
no_number-head b s none = elim (cases_Bool (is_digit b)) [
  | inr no_digit ↦ no_digit
  | inl digit ↦
      let some : digit_count (b ∷ s) ≡ 1 + digit_count s = ap (λ v. cond v (1 + digit_count s) 0) digit in
      absurd (omega (arith, number_ends (b ∷ s) (omega arith)))
]

line-take : (b j : ℕ) (s : List ℕ) → opens_line_comment (b ∷ s) ≡ false → opens_line_comment (b ∷ take j s) ≡ false
line-take b zero s h = and-false (47 == b)
line-take b (suc j) [] h = and-false (47 == b)
line-take b (suc j) (c ∷ s) h = h

comment-take : (b j : ℕ) (s : List ℕ) → opens_comment (b ∷ s) ≡ false → opens_comment (b ∷ take j s) ≡ false
comment-take b zero s h = and-false (47 == b)
comment-take b (suc j) [] h = and-false (47 == b)
comment-take b (suc j) (c ∷ s) h = h

line-closed : (s : List ℕ) → opens_line_comment s ≡ false → is_line_comment s ≡ false
unfolding is_line_comment
line-closed s h = rw h refl

block-closed : (s : List ℕ) → opens_comment s ≡ false → is_block_comment s ≡ false
unfolding is_block_comment
block-closed s h = rw h refl

open-closed : (s : List ℕ) → opens_comment s ≡ false → is_open_comment s ≡ false
unfolding is_open_comment
open-closed s h = rw h refl

or-false : (b : Bool) → (b || false) ≡ b
or-false true = refl
or-false false = refl

slash-sign : (j : ℕ) (s : List ℕ) → opens_line_comment (47 ∷ s) ≡ false → opens_comment (47 ∷ s) ≡ false → is_piece (47 ∷ take j s) ≡ is_sign (47 ∷ take j s)
slash-sign j s line comment =
    let t = take j s in
    piece-slash t
    ∙ ap (λ v. (v || is_block_comment (47 ∷ t)) || (is_sign (47 ∷ t) || is_open_comment (47 ∷ t))) (line-closed (47 ∷ t) (line-take 47 j s line))
    ∙ ap (λ v. v || (is_sign (47 ∷ t) || is_open_comment (47 ∷ t))) (block-closed (47 ∷ t) (comment-take 47 j s comment))
    ∙ ap (λ v. is_sign (47 ∷ t) || v) (open-closed (47 ∷ t) (comment-take 47 j s comment))
    ∙ or-false (is_sign (47 ∷ t))

sign-agree : (b : ℕ) (s : List ℕ) → IsSignAlone b s → (m : ℕ) → 0 < m → m ≤ suc (length s) → is_piece (take m (b ∷ s)) ≡ is_sign (take m (b ∷ s))
sign-agree b s h zero low high = absurd (omega arith)
sign-agree b s h (suc j) low high = elim (cases_Bool (b == 46)) [
  | inl dot ↦
      let is : b ≡ 46 = eqb-true b 46 dot in
      let no_number : is_number (b ∷ take j s) ≡ false = longest-above is_number (suc (length s)) (suc j) (b ∷ s) (omega (arith, h.number)) high in
      ap (λ k. is_piece (k ∷ take j s)) is ∙ piece-dot (take j s)
      ∙ ap (λ k. is_number (k ∷ take j s) || is_sign (k ∷ take j s)) (sym is) ∙ ap (λ v. v || is_sign (b ∷ take j s)) no_number
  | inr other ↦ elim (cases_Bool (47 == b)) [
    | inl slash ↦
        let is : 47 ≡ b = eqb-true 47 b slash in
        subst (λ k. is_piece (k ∷ take j s) ≡ is_sign (k ∷ take j s)) is
        (slash-sign j s (ap (λ k. opens_line_comment (k ∷ s)) is ∙ h.line) (ap (λ k. opens_comment (k ∷ s)) is ∙ h.comment))
    | inr no_slash ↦ piece-sign b (take j s) h.solid h.letter (no_number-head b s h.number) other no_slash h.quote
  ]
]

longest-signs : (b : ℕ) (s : List ℕ) → IsSignAlone b s → longest is_piece (length (b ∷ s)) (b ∷ s) ≡ longest is_sign (length (b ∷ s)) (b ∷ s)
longest-signs b s h = longest-agree is_piece is_sign (suc (length s)) (b ∷ s) (sign-agree b s h)

sign-no_feed : (b : ℕ) → is_sign_byte b ≡ true → (b == 10) ≡ false
sign-no_feed b sign = elim (cases_Bool (b == 10)) [
  | inr differs ↦ differs
  | inl ten ↦ absurd (false≢true (ap is_sign_byte (sym (eqb-true b 10 ten)) ∙ sign))
]

-- two bytes
two-second : (b c : ℕ) → is_some (two_byte_sign b c) ≡ true → c ≡ 61
two-second b c h = elim (cases_Bool (c == 61)) [
  | inl e ↦ eqb-true c 61 e
  | inr e ↦
      let none : is_some (two_byte_sign b c) ≡ false = ap (λ v. is_some {T = ℕ} (cond v (cond (b == 60) (Some 128) (cond (b == 62) (Some 129) (cond (b == 33) (Some 130) None))) None)) e in
      absurd (false≢true (sym none ∙ h))
]

front-two : (b c : ℕ) (s : List ℕ) → IsSignAlone b (c ∷ s) → is_some (two_byte_sign b c) ≡ true → front_of (b ∷ c ∷ s) ≡ b ∷ c ∷ []
unfolding front_of
front-two b c s h two = ap (λ k. take k (b ∷ c ∷ s)) (longest-signs b (c ∷ s) h ∙ longest-two b c s two)

two-no_slash : (b c : ℕ) → is_some (two_byte_sign b c) ≡ true → (47 == b) ≡ false
two-no_slash b c two = elim (cases_Bool (47 == b)) [
  | inr other ↦ other
  | inl slash ↦ absurd (false≢true (sym (slash-lone c) ∙ ap (λ k. is_some (two_byte_sign k c)) (eqb-true 47 b slash) ∙ two))
]

is_sign-two : (b c : ℕ) → is_sign (b ∷ c ∷ []) ≡ is_some (two_byte_sign b c)
unfolding is_sign
is_sign-two b c = refl

is_sign-one : (b : ℕ) → is_sign (b ∷ []) ≡ is_sign_byte b
unfolding is_sign
is_sign-one b = refl

pub two_found : (place : Place) (b c code : ℕ) (s : List ℕ) → IsSignAlone b (c ∷ s) → two_byte_sign b c ≡ Some code → IsFound place (b ∷ c ∷ s) (record { kind = Some (Sign code); length = 2; lines = 0 })
two_found place b c code s h is =
    let two : is_some (two_byte_sign b c) ≡ true = ap is_some is in
    let feeds : line_feeds (b ∷ c ∷ []) ≡ 0 =
    feeds-cons b (c ∷ []) ∙ ap (λ v. cond v 1 0 + line_feeds (c ∷ [])) (sign-no_feed b (two-first b c two)) ∙ ap (λ k. 0 + line_feeds (k ∷ [])) (two-second b c two) ∙ ap (λ k. 0 + k) (feeds-cons 61 []) in
    found-token place (b ∷ c ∷ s) 2 0 (Sign code) (front-two b c s h two) (omega arith) (omega arith)
    (gap-false b (c ∷ []) h.solid (two-no_slash b c two)) (sym feeds)
    (kind-sign place (b ∷ c ∷ []) (word-false b (c ∷ []) h.letter)
    (longest-above is_number (suc (suc (length s))) 2 (b ∷ c ∷ s) (omega (arith, h.number)) (omega arith))
    (text-false b (c ∷ []) h.quote) (is_sign-two b c ∙ two)
    ∙ ap (λ o. let r : Result Kind LexFault = Ok (Sign (unwrap_or o 0)) in r) is)

-- one byte
front-one : (b : ℕ) (s : List ℕ) → IsSignAlone b s → two_byte_sign_of (b ∷ s) ≡ None → is_sign_byte b ≡ true → front_of (b ∷ s) ≡ b ∷ []
unfolding front_of
front-one b s h lone sign = ap (λ k. take k (b ∷ s)) (longest-signs b s h ∙ longest-sign b s sign lone)

no_gap-one : (b : ℕ) → is_white b ≡ false → is_gap (b ∷ []) ≡ false
unfolding is_gap is_white_space is_line_comment is_block_comment
no_gap-one b solid = rw (solid, and-false (47 == b)) refl

pub one_found : (place : Place) (b : ℕ) (s : List ℕ) → IsSignAlone b s → two_byte_sign_of (b ∷ s) ≡ None → is_sign_byte b ≡ true → IsFound place (b ∷ s) (record { kind = Some (Sign b); length = 1; lines = 0 })
one_found place b s h lone sign =
    found-token place (b ∷ s) 1 0 (Sign b) (front-one b s h lone sign) (omega arith) (omega arith) (no_gap-one b h.solid)
    (sym (feeds-cons b [] ∙ ap (λ v. cond v 1 0 + 0) (sign-no_feed b sign)))
    (kind-sign place (b ∷ []) (word-false b [] h.letter) (longest-above is_number (suc (length s)) 1 (b ∷ s) (omega (arith, h.number)) (omega arith))
    (text-false b [] h.quote) (is_sign-one b ∙ sign))

-- no piece at all
front-bad : (b : ℕ) (s : List ℕ) → IsSignAlone b s → is_sign_byte b ≡ false → front_of (b ∷ s) ≡ []
unfolding front_of
front-bad b s h sign = ap (λ k. take k (b ∷ s)) (longest-signs b s h ∙ longest-none is_sign (suc (length s)) (b ∷ s) none)
  where
    none : (m : ℕ) → 0 < m → m ≤ suc (length s) → is_sign (take m (b ∷ s)) ≡ false
    none zero low high = absurd (omega arith)
    none (suc m) low high = sign-false b (take m s) sign

no_gap-none : is_gap [] ≡ false
unfolding is_gap is_white_space is_line_comment is_block_comment
no_gap-none = refl

pub bad_front : (place : Place) (b : ℕ) (s : List ℕ) → IsSignAlone b s → is_sign_byte b ≡ false → piece_tokens place (front_of (b ∷ s)) ≡ Err (BadByte place)
bad_front place b s h sign = fault-front place (b ∷ s) [] (BadByte place) (front-bad b s h sign) no_gap-none (kind-bad place)

-- the same of a text by its first byte
pub alone : (b : ℕ) (s : List ℕ) → is_white b ≡ false → is_letter b ≡ false → (b ≡ 34 → ⊥) → longest is_number (length (b ∷ s)) (b ∷ s) ≡ 0 →
    opens_line_comment (b ∷ s) ≡ false → opens_comment (b ∷ s) ≡ false → IsSignAlone b s
alone b s solid letter quote number line comment = record {
  solid = solid;
  letter = letter;
  quote = elim (cases_Bool (34 == b)) [ inr other ↦ other | inl same ↦ absurd (quote (sym (eqb-true 34 b same))) ];
  number = number;
  line = line;
  comment = comment;
}

pub sign_found : (place : Place) (s : List ℕ) → 0 < length s → is_white (slice_index s 0) ≡ false → is_letter (slice_index s 0) ≡ false → (slice_index s 0 ≡ 34 → ⊥) → longest is_number (length s) s ≡ 0 →
    opens_line_comment s ≡ false → opens_comment s ≡ false → two_byte_sign_of s ≡ None → is_sign_byte (slice_index s 0) ≡ true → IsFound place s (record { kind = Some (Sign (slice_index s 0)); length = 1; lines = 0 })
sign_found place [] some solid letter quote number line comment lone sign = absurd (omega arith)
sign_found place (b ∷ s) some solid letter quote number line comment lone sign = one_found place b s (alone b s solid letter quote number line comment) lone sign

pub pair_found : (place : Place) (s : List ℕ) (code : ℕ) → 0 < length s → is_white (slice_index s 0) ≡ false → is_letter (slice_index s 0) ≡ false → (slice_index s 0 ≡ 34 → ⊥) → longest is_number (length s) s ≡ 0 →
    opens_line_comment s ≡ false → opens_comment s ≡ false → two_byte_sign_of s ≡ Some code → IsFound place s (record { kind = Some (Sign code); length = 2; lines = 0 })
pair_found place [] code some solid letter quote number line comment is = absurd (omega arith)
pair_found place (b ∷ []) code some solid letter quote number line comment is = cc
pair_found place (b ∷ c ∷ s) code some solid letter quote number line comment is = two_found place b c code s (alone b (c ∷ s) solid letter quote number line comment) is

pub bad_found : (place : Place) (s : List ℕ) → 0 < length s → is_white (slice_index s 0) ≡ false → is_letter (slice_index s 0) ≡ false → (slice_index s 0 ≡ 34 → ⊥) → longest is_number (length s) s ≡ 0 →
    opens_line_comment s ≡ false → opens_comment s ≡ false → is_sign_byte (slice_index s 0) ≡ false → piece_tokens place (front_of s) ≡ Err (BadByte place)
bad_found place [] some solid letter quote number line comment sign = absurd (omega arith)
bad_found place (b ∷ s) some solid letter quote number line comment sign = bad_front place b s (alone b s solid letter quote number line comment) sign
