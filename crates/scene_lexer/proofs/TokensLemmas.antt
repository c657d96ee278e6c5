-- The tokens of a text, piece by piece.
use Rattle.std.proofs.Common.{◌≡◌, ℕ, zero, suc, ◌+◌, ◌-◌, ◌<◌, ◌≤◌, Bool, true, false, cond, ◌==◌, nat_le, List, [], ◌∷◌, ◌++◌, length, take, drop, refl, sym, ap, ◌∙◌, arith, inl, inr, Result, Ok, Err}
use Rattle.std.specs.List.{prefix_len}
use Rattle.std.proofs.lemmas.Bool.{false≢true, cases_Bool, eqb-true}
use Rattle.std.proofs.lemmas.List.{append_assoc, length-take-le}
use Rattle.std.proofs.lemmas.List.Sums.{sum_by-cons}
use Rattle.scene_lexer.specs.Bytes.{is_word}
use Rattle.scene_lexer.specs.Spellings.{is_sign, is_number, is_number_end, is_fraction, is_text, is_open_text, is_open_comment}
use Rattle.scene_lexer.specs.Tokens.{tokens_from, piece_tokens, kind_of, number_of, word_of, sign_code, unescaped, within_quotes, front_of, joined, line_after}
use Rattle.scene_lexer.specs.Steps.{line_feeds}
use Rattle.scene_lexer.specs.declared.token.Place.{Place}
use Rattle.scene_lexer.specs.declared.token.Token.{Token}
use Rattle.scene_lexer.specs.declared.token.Kind.TheVariants.{Word, Text, Sign}
use Rattle.scene_lexer.specs.declared.token.LexFault.{LexFault}
use Rattle.scene_lexer.specs.declared.token.LexFault.TheVariants.{BadByte, OpenComment, OpenString, LongName}

abbrev pub place_at : ℕ → ℕ → ℕ → Place
place_at file at line = record { file = file; at = at; line = line }

pub feeds-cons : (b : ℕ) (s : List ℕ) → line_feeds (b ∷ s) ≡ cond (b == 10) 1 0 + line_feeds s
feeds-cons b s = sum_by-cons (λ b. cond (b == 10) 1 0) b s

after-line : (line : ℕ) (v : Bool) (n : ℕ) → cond v (line + 1) line + n ≡ line + (cond v 1 0 + n)
after-line line true n = omega arith
after-line line false n = omega arith

line_over : (line b : ℕ) (s : List ℕ) → line_after line b + line_feeds s ≡ line + line_feeds (b ∷ s)
line_over line b s = after-line line (b == 10) (line_feeds s) ∙ ap (λ n. line + n) (sym (feeds-cons b s))

-- what is passed over
pub tokens-skip : (file n at line : ℕ) (s : List ℕ) → n ≤ length s → tokens_from file n at line s ≡ tokens_from file 0 (at + n) (line + line_feeds (take n s)) (drop n s)
unfolding tokens_from
tokens-skip file zero at line s within = ap (λ n. tokens_from file 0 n line s) (omega arith) ∙ ap (λ n. tokens_from file 0 (at + 0) n s) (omega arith)
tokens-skip file (suc n) at line [] within = absurd (omega arith)
tokens-skip file (suc n') at line (b ∷ s) within = tokens-skip file n' (at + 1) (line_after line b) s (omega arith)
    ∙ ap (λ n. tokens_from file 0 n (line_after line b + line_feeds (take n' s)) (drop n' s)) (omega arith)
    ∙ ap (λ n. tokens_from file 0 (at + suc n') n (drop n' s)) (line_over line b (take n' s))

-- one piece
pub tokens-piece : (file at line n : ℕ) (s : List ℕ) → 0 < n → n ≤ length s → front_of s ≡ take n s →
    tokens_from file 0 at line s ≡ joined (piece_tokens (place_at file at line) (take n s)) (tokens_from file 0 (at + n) (line + line_feeds (take n s)) (drop n s))
unfolding tokens_from
tokens-piece file at line n [] some within front = absurd (omega arith)
tokens-piece file at line zero (b ∷ s) some within front = absurd (omega arith)
tokens-piece file at line (suc n) (b ∷ s) some within front =
    ap (λ f. joined (piece_tokens (place_at file at line) f) (tokens_from file (length f - 1) (at + 1) (line_after line b) s)) front
    ∙ ap (λ k. joined (piece_tokens (place_at file at line) (take (suc n) (b ∷ s))) (tokens_from file k (at + 1) (line_after line b) s)) (omega (arith, length-take-le (suc n) (b ∷ s) within))
    ∙ ap (joined (piece_tokens (place_at file at line) (take (suc n) (b ∷ s)))) (tokens-skip file (suc n) at line (b ∷ s) within)

-- one gap, token or fault after the tokens so far
pub joined-gap : (tokens : List Token) (rest : Result (List Token) LexFault) → joined (Ok tokens) (joined (Ok []) rest) ≡ joined (Ok tokens) rest
unfolding joined
joined-gap tokens (Ok more) = refl
joined-gap tokens (Err fault) = refl

pub joined-more : (tokens more : List Token) (rest : Result (List Token) LexFault) → joined (Ok tokens) (joined (Ok more) rest) ≡ joined (Ok (tokens ++ more)) rest
unfolding joined
joined-more tokens more (Ok rest) = ap (λ v. let r : Result (List Token) LexFault = Ok v in r) (sym (append_assoc tokens more rest))
joined-more tokens more (Err fault) = refl

pub joined-fault : (tokens : List Token) (fault : LexFault) (rest : Result (List Token) LexFault) → joined (Ok tokens) (joined (Err fault) rest) ≡ Err fault
unfolding joined
joined-fault tokens fault (Ok more) = refl
joined-fault tokens fault (Err more) = refl

-- what the spellings mean
pub kind-word : (place : Place) (s : List ℕ) → is_word s ≡ true → kind_of place s ≡ word_of place s
unfolding kind_of
kind-word place s h = rw h refl

pub kind-number : (place : Place) (s : List ℕ) → is_word s ≡ false → is_number s ≡ true → kind_of place s ≡ number_of place s
unfolding kind_of
kind-number place s word h = rw (word, h) refl

pub kind-text : (place : Place) (s : List ℕ) → is_word s ≡ false → is_number s ≡ false → is_text s ≡ true → kind_of place s ≡ Ok (Text (unescaped 0 (within_quotes s)))
unfolding kind_of
kind-text place s word number h = rw (word, number, h) refl

pub kind-sign : (place : Place) (s : List ℕ) → is_word s ≡ false → is_number s ≡ false → is_text s ≡ false → is_sign s ≡ true → kind_of place s ≡ Ok (Sign (sign_code s))
unfolding kind_of
kind-sign place s word number text h = rw (word, number, text, h) refl

pub kind-open_comment : (place : Place) (s : List ℕ) → is_word s ≡ false → is_number s ≡ false → is_text s ≡ false → is_sign s ≡ false → is_open_comment s ≡ true → kind_of place s ≡ Err (OpenComment place)
unfolding kind_of
kind-open_comment place s word number text sign h = rw (word, number, text, sign, h) refl

pub kind-open_text : (place : Place) (s : List ℕ) → is_word s ≡ false → is_number s ≡ false → is_text s ≡ false → is_sign s ≡ false → is_open_comment s ≡ false → is_open_text s ≡ true → kind_of place s ≡ Err (OpenString place)
unfolding kind_of
kind-open_text place s word number text sign comment h = rw (word, number, text, sign, comment, h) refl

pub kind-bad : (place : Place) → kind_of place [] ≡ Err (BadByte place)
unfolding kind_of is_number is_fraction is_number_end is_text is_sign is_open_comment is_open_text
kind-bad place = refl

pub word-short : (place : Place) (s : List ℕ) → nat_le (length s) 40 ≡ true → word_of place s ≡ Ok (Word s)
unfolding word_of
word-short place s h = rw h refl

pub word-long : (place : Place) (s : List ℕ) → nat_le (length s) 40 ≡ false → word_of place s ≡ Err (LongName place)
unfolding word_of
word-long place s h = rw h refl

-- bytes that no line ends with
pub no_feeds-run : (p : ℕ → Bool) → p 10 ≡ false → (s : List ℕ) → line_feeds (take (prefix_len p s) s) ≡ 0
no_feeds-run p h [] = refl
no_feeds-run p h (b ∷ s) = elim (cases_Bool (p b)) [
  | inr e ↦ ap (λ v. line_feeds (take (cond v (1 + prefix_len p s) 0) (b ∷ s))) e
  | inl e ↦
      let not_ten : (b == 10) ≡ false = elim (cases_Bool (b == 10)) [
        | inr other ↦ other
        | inl ten ↦ absurd (false≢true (sym h ∙ ap p (sym (eqb-true b 10 ten)) ∙ e))
      ] in
      let more : 1 + prefix_len p s ≡ suc (prefix_len p s) = omega arith in
      ap (λ v. line_feeds (take (cond v (1 + prefix_len p s) 0) (b ∷ s))) e
      ∙ ap (λ k. line_feeds (take k (b ∷ s))) more
      ∙ feeds-cons b (take (prefix_len p s) s)
      ∙ ap (λ v. cond v 1 0 + line_feeds (take (prefix_len p s) s)) not_ten
      ∙ omega (arith, no_feeds-run p h s)
]
