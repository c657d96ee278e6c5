-- One turn of the lexer: a white byte, a token or a fault.
use Rattle.std.proofs.Common.{◌≡◌, ℕ, zero, suc, ◌+◌, ◌-◌, ◌<◌, ◌≤◌, Bool, true, false, cond, ◌&&◌, ◌==◌, List, [], ◌∷◌, ◌++◌, length, take, drop, refl, sym, ap, ◌∙◌, subst, arith, inl, inr, Result, Ok, Err, slice_index, Option, Some, None, is_ok, OnOk, OnErr, is_some, ◌≢◌}
use Rattle.std.proofs.lemmas.Bool.{false≢true, cases_Bool, eqb-true, eq-eqb}
use Rattle.std.proofs.lemmas.List.{length-take-le, length-drop, drop-drop, drop_more, drop_all, append-nil}
use Rattle.std.proofs.lemmas.List.Sums.{count_by-le-length}
use Rattle.std.proofs.lemmas.List.Elements.{All-push}
use Rattle.std.proofs.lemmas.List.Quantifiers.{all_pairs_push}
use Rattle.scene_lexer.specs.Bytes.{is_white}
use Rattle.scene_lexer.specs.Spellings.{longest, is_white_space, is_line_comment, is_block_comment, is_gap, is_piece}
use Rattle.scene_lexer.specs.Tokens.{tokens_from, tokens_of, tokens_at, piece_tokens, token_list, kind_of, front_of, joined, line_after, mark_length, Ascend}
use Rattle.scene_lexer.specs.Steps.{IsFound, found_tokens, line_feeds}
use Rattle.scene_lexer.specs.declared.found.Found.{Found}
use Rattle.scene_lexer.specs.declared.token.Place.{Place}
use Rattle.scene_lexer.specs.declared.token.Token.{Token}
use Rattle.scene_lexer.specs.declared.token.Kind.{Kind}
use Rattle.scene_lexer.specs.declared.token.LexFault.{LexFault}
use Rattle.scene_lexer.proofs.LongestLemmas.{longest-is, longest-le, longest-same}
use Rattle.scene_lexer.proofs.PieceLemmas.{piece-white, gap-false}
use Rattle.scene_lexer.proofs.TokensLemmas.{place_at, tokens-skip, tokens-piece, joined-gap, joined-more, joined-fault, feeds-cons}

-- the tokens so far and those of the rest are the text's
abbrev pub IsRead : ℕ → ℕ → ℕ → List Token → List ℕ → Type 0
IsRead file at line tokens text = joined (Ok tokens) (tokens_from file 0 at line (drop at text)) ≡ tokens_of file text

joined-none : (rest : Result (List Token) LexFault) → joined (Ok []) rest ≡ rest
unfolding joined
joined-none (Ok more) = refl
joined-none (Err fault) = refl

joined-end : (tokens : List Token) → joined (Ok tokens) (Ok []) ≡ Ok tokens
unfolding joined
joined-end tokens = ap (λ v. let r : Result (List Token) LexFault = Ok v in r) (append-nil tokens)

and_left : (x y : Bool) → (x && y) ≡ true → x ≡ true
and_left true y h = refl
and_left false y h = h

and_right : (x y : Bool) → (x && y) ≡ true → y ≡ true
and_right true y h = h
and_right false y h = absurd (false≢true h)

-- a mark ends no line
mark-feeds : (text : List ℕ) → line_feeds (take (mark_length text) text) ≡ 0
mark-feeds [] = refl
mark-feeds (a ∷ []) = elim (239 == a) as (λ v. line_feeds (take (cond (v && false) 3 0) (a ∷ [])) ≡ 0) [ true ↦ refl | false ↦ refl ]
mark-feeds (a ∷ b ∷ []) = elim (239 == a) as (λ v. line_feeds (take (cond (v && ((187 == b) && false)) 3 0) (a ∷ b ∷ [])) ≡ 0) [
  | true ↦ elim (187 == b) as (λ v. line_feeds (take (cond (v && false) 3 0) (a ∷ b ∷ [])) ≡ 0) [ true ↦ refl | false ↦ refl ]
  | false ↦ refl
]
mark-feeds (a ∷ b ∷ c ∷ text) = elim (cases_Bool ((239 == a) && ((187 == b) && ((191 == c) && true)))) [
  | inr e ↦ ap (λ v. line_feeds (take (cond v 3 0) (a ∷ b ∷ c ∷ text))) e
  | inl e ↦
      let first : 239 ≡ a = eqb-true 239 a (and_left (239 == a) _ e) in
      let others = and_right (239 == a) _ e in
      let second : 187 ≡ b = eqb-true 187 b (and_left (187 == b) _ others) in
      let third : 191 ≡ c = eqb-true 191 c (and_left (191 == c) _ (and_right (187 == b) _ others)) in
      ap (λ v. line_feeds (take (cond v 3 0) (a ∷ b ∷ c ∷ text))) e
      ∙ ap (λ k. line_feeds (k ∷ b ∷ c ∷ [])) (sym first)
      ∙ ap (λ k. line_feeds (239 ∷ k ∷ c ∷ [])) (sym second)
      ∙ ap (λ k. line_feeds (239 ∷ 187 ∷ k ∷ [])) (sym third)
]

mark-within : (text : List ℕ) → mark_length text ≤ length text
mark-within [] = omega arith
mark-within (a ∷ []) = elim (239 == a) as (λ v. cond (v && false) 3 0 ≤ 1) [ true ↦ omega arith | false ↦ omega arith ]
mark-within (a ∷ b ∷ []) = elim (239 == a) as (λ v. cond (v && ((187 == b) && false)) 3 0 ≤ 2) [
  | true ↦ elim (187 == b) as (λ v. cond (v && false) 3 0 ≤ 2) [ true ↦ omega arith | false ↦ omega arith ]
  | false ↦ omega arith
]
mark-within (a ∷ b ∷ c ∷ text) = elim ((239 == a) && ((187 == b) && ((191 == c) && true))) as (λ v. cond v 3 0 ≤ suc (suc (suc (length text)))) [ true ↦ omega arith | false ↦ omega arith ]

pub start_read : (file n : ℕ) (text : List ℕ) (tokens : List Token) → n ≡ mark_length text → tokens ≡ [] → IsRead file n 1 tokens text
unfolding tokens_of
start_read file n text tokens mark empty =
    ap (λ t. joined (Ok t) (tokens_from file 0 n 1 (drop n text))) empty
    ∙ joined-none (tokens_from file 0 n 1 (drop n text))
    ∙ ap (λ k. tokens_from file 0 k 1 (drop k text)) mark
    ∙ sym (tokens-skip file (mark_length text) 0 1 text (mark-within text)
    ∙ ap (λ k. tokens_from file 0 k (1 + line_feeds (take (mark_length text) text)) (drop (mark_length text) text)) start
    ∙ ap (λ k. tokens_from file 0 (mark_length text) k (drop (mark_length text) text)) lines)
  where
    start : 0 + mark_length text ≡ mark_length text
    start = omega arith

    lines : 1 + line_feeds (take (mark_length text) text) ≡ 1
    lines = omega (arith, mark-feeds text)

pub start_within : (n : ℕ) (text : List ℕ) → n ≡ mark_length text → n ≤ length text
start_within n text mark = rw mark (mark-within text)

-- the front is as long as it is, and lies within the text
front-length : (s : List ℕ) → length (front_of s) ≡ longest is_piece (length s) s
unfolding front_of
front-length s = length-take-le (longest is_piece (length s) s) s (longest-le is_piece (length s) s)

front-is : (s : List ℕ) → front_of s ≡ take (length (front_of s)) s
unfolding front_of
front-is s = ap (λ n. take n s) (sym (front-length s))

front-le : (s : List ℕ) → length (front_of s) ≤ length s
front-le s = rw (front-length s) (longest-le is_piece (length s) s)

-- one white byte
long-no_white : (b m : ℕ) (s : List ℕ) → 1 < m → m ≤ suc (length s) → is_white_space (take m (b ∷ s)) ≡ false
unfolding is_white_space
long-no_white b zero s low high = absurd (omega arith)
long-no_white b (suc zero) s low high = absurd (omega arith)
long-no_white b (suc (suc m)) [] low high = absurd (omega arith)
long-no_white b (suc (suc m)) (c ∷ s) low high = refl

longest-white : (b : ℕ) (s : List ℕ) → is_white b ≡ true → longest is_white_space (length (b ∷ s)) (b ∷ s) ≡ 1
unfolding is_white_space
longest-white b s h = longest-is is_white_space (suc (length s)) 1 (b ∷ s) (omega arith) h (λ m low high. long-no_white b m s low high) (omega arith)

front-white : (b : ℕ) (s : List ℕ) → is_white b ≡ true → front_of (b ∷ s) ≡ take 1 (b ∷ s)
unfolding front_of
front-white b s h = ap (λ n. take n (b ∷ s)) (longest-same is_piece is_white_space (length (b ∷ s)) b s (λ t. piece-white b t h) ∙ longest-white b s h)

gap_tokens : (place : Place) (b : ℕ) → is_white b ≡ true → piece_tokens place (b ∷ []) ≡ Ok []
unfolding piece_tokens is_gap is_white_space
gap_tokens place b h = rw h refl

line-white : (line b : ℕ) → line + line_feeds (b ∷ []) ≡ line_after line b
line-white line b = ap (λ n. line + n) (feeds-cons b []) ∙ by (b == 10)
  where
    by : (v : Bool) → line + (cond v 1 0 + 0) ≡ cond v (line + 1) line
    by true = omega arith
    by false = omega arith

tokens-white : (file at line b : ℕ) (s : List ℕ) → is_white b ≡ true → tokens_from file 0 at line (b ∷ s) ≡ joined (Ok []) (tokens_from file 0 (at + 1) (line_after line b) s)
tokens-white file at line b s h =
    tokens-piece file at line 1 (b ∷ s) (omega arith) (omega arith) (front-white b s h)
    ∙ ap (λ r. joined r (tokens_from file 0 (at + 1) (line + line_feeds (b ∷ [])) s)) (gap_tokens (place_at file at line) b h)
    ∙ ap (λ k. joined (Ok []) (tokens_from file 0 (at + 1) k s)) (line-white line b)

pub white_read : (file at line next : ℕ) (tokens : List Token) (text : List ℕ) → at < length text → is_white (slice_index text at) ≡ true → next ≡ line_after line (slice_index text at) →
    IsRead file at line tokens text → IsRead file (at + 1) next tokens text
white_read file at line next tokens text below white is read =
    let b = slice_index text at in
    let rest = tokens_from file 0 (at + 1) next (drop (at + 1) text) in
    sym (sym read
    ∙ ap (λ s. joined (Ok tokens) (tokens_from file 0 at line s)) (drop_more text at 0 below)
    ∙ ap (joined (Ok tokens)) (tokens-white file at line b (drop (at + 1) text) white)
    ∙ ap (λ k. joined (Ok tokens) (joined (Ok []) (tokens_from file 0 (at + 1) k (drop (at + 1) text)))) (sym is)
    ∙ joined-gap tokens rest)

pub line_feed : (line next b : ℕ) → b ≡ 10 → next ≡ line + 1 → next ≡ line_after line b
line_feed line next b feed is = is ∙ ap (λ v. cond v (line + 1) line) (sym (eq-eqb b 10 feed))

pub no_line_feed : (line next b : ℕ) → (b ≡ 10 → ⊥) → next ≡ line → next ≡ line_after line b
no_line_feed line next b other is = is ∙ elim (cases_Bool (b == 10)) [
  | inl feed ↦ absurd (other (eqb-true b 10 feed))
  | inr e ↦ ap (λ v. cond v (line + 1) line) (sym e)
]

-- one piece
pub found_within : (place : Place) (at : ℕ) (text : List ℕ) (found : Found) → at ≤ length text → IsFound place (drop at text) found → (at + found.length ≤ length text) × (found.lines ≤ found.length)
found_within place at text found within h =
    let le = front-le (drop at text) in
    let count = count_by-le-length (λ b. b == 10) (front_of (drop at text)) in
    (omega (arith, h.length_is, length-drop at text), omega (arith, h.length_is, h.lines_are))

pub piece_read : (file at line : ℕ) (tokens : List Token) (text : List ℕ) (found : Found) → at ≤ length text → IsFound (place_at file at line) (drop at text) found →
    IsRead file at line tokens text → IsRead file (at + found.length) (line + found.lines) (tokens ++ found_tokens (place_at file at line) found) text
piece_read file at line tokens text found within h read =
    let s = drop at text in
    let n = found.length in
    let place = place_at file at line in
    let more = found_tokens place found in
    let front : front_of s ≡ take n s = front-is s ∙ ap (λ k. take k s) (sym h.length_is) in
    let feeds : line_feeds (take n s) ≡ found.lines = ap line_feeds (sym front) ∙ sym h.lines_are in
    let inside = found_within place at text found within h in
    let rest = tokens_from file 0 (at + n) (line + found.lines) (drop (at + n) text) in
    sym (sym read
    ∙ ap (joined (Ok tokens)) (tokens-piece file at line n s h.some (omega (arith, length-drop at text, inside.0)) front)
    ∙ ap (λ f. joined (Ok tokens) (joined (piece_tokens place f) (tokens_from file 0 (at + n) (line + line_feeds (take n s)) (drop n s)))) (sym front)
    ∙ ap (λ r. joined (Ok tokens) (joined r (tokens_from file 0 (at + n) (line + line_feeds (take n s)) (drop n s)))) h.tokens_are
    ∙ ap (λ k. joined (Ok tokens) (joined (Ok more) (tokens_from file 0 (at + n) (line + k) (drop n s)))) feeds
    ∙ ap (λ t. joined (Ok tokens) (joined (Ok more) (tokens_from file 0 (at + n) (line + found.lines) t))) (drop-drop n at text)
    ∙ joined-more tokens more rest)

-- a fault
tokens-fault : (file at line : ℕ) (tokens : List Token) (b : ℕ) (s : List ℕ) (fault : LexFault) → piece_tokens (place_at file at line) (front_of (b ∷ s)) ≡ Err fault →
    joined (Ok tokens) (tokens_from file 0 at line (b ∷ s)) ≡ Err fault
unfolding tokens_from
tokens-fault file at line tokens b s fault h =
    let rest = tokens_from file (length (front_of (b ∷ s)) - 1) (at + 1) (line_after line b) s in
    ap (λ r. joined (Ok tokens) (joined r rest)) h ∙ joined-fault tokens fault rest

pub fault_read : (file at line : ℕ) (tokens : List Token) (text : List ℕ) (fault : LexFault) → at < length text →
    piece_tokens (place_at file at line) (front_of (drop at text)) ≡ Err fault → IsRead file at line tokens text → tokens_of file text ≡ Err fault
fault_read file at line tokens text fault below h read =
    let b = slice_index text at in
    let s = drop (at + 1) text in
    let more = drop_more text at 0 below in
    let here : piece_tokens (place_at file at line) (front_of (b ∷ s)) ≡ Err fault = ap (λ t. piece_tokens (place_at file at line) (front_of t)) (sym more) ∙ h in
    sym read ∙ ap (λ t. joined (Ok tokens) (tokens_from file 0 at line t)) more
    ∙ tokens-fault file at line tokens b s fault here

-- the end
pub end_read : (file at line : ℕ) (tokens : List Token) (text : List ℕ) → length text ≤ at → IsRead file at line tokens text → tokens_of file text ≡ Ok tokens
unfolding tokens_from
end_read file at line tokens text past read =
    sym read ∙ ap (λ s. joined (Ok tokens) (tokens_from file 0 at line s)) (drop_all at text past) ∙ joined-end tokens

-- spans
pub ascend_none : (at : ℕ) (tokens : List Token) → tokens ≡ [] → Ascend at tokens
ascend_none at tokens empty = subst (Ascend at) (sym empty) (record {
  some = λ k d below. absurd (omega arith);
  apart = λ i j d low below. absurd (omega arith);
  within = λ k d below. absurd (omega arith);
})

pub ascend_more : (at next : ℕ) (tokens : List Token) → Ascend at tokens → at ≤ next → Ascend next tokens
ascend_more at next tokens h below = record {
  some = h.some;
  apart = h.apart;
  within = λ k d inside. omega (arith, h.within k d inside);
}

ascend_push : (at next : ℕ) (tokens : List Token) (token : Token) → Ascend at tokens → token.place.at ≡ at → token.to ≡ next → at < next → Ascend next (tokens ++ token ∷ [])
ascend_push at next tokens token h from to below = record {
  some = All-push (λ t. t.place.at < t.to) tokens token h.some (omega arith);
  apart = all_pairs_push (λ a b. a.to ≤ b.place.at) tokens token h.apart (λ k d inside. omega (arith, h.within k d inside));
  within = All-push (λ t. t.to ≤ next) tokens token (λ k d inside. omega (arith, h.within k d inside)) (omega arith);
}

pub ascend_add : (at next : ℕ) (tokens : List Token) (place : Place) (kind : Option Kind) → Ascend at tokens → place.at ≡ at → at < next → Ascend next (tokens ++ tokens_at place next kind)
ascend_add at next tokens place None h from below = subst (Ascend next) (sym (append-nil tokens)) (ascend_more at next tokens h (omega arith))
ascend_add at next tokens place (Some kind) h from below =
    ascend_push at next tokens (record { kind = kind; place = place; to = next }) h from refl below

pub ok-then : {A E : Type 0} (r : Result A E) (P : Type 0) → is_ok r ≡ true → OnOk r P → P
ok-then (Ok x) P e h = h
ok-then (Err x) P e h = absurd (false≢true e)

pub err-then : {A E : Type 0} (r : Result A E) (P : Type 0) → is_ok r ≡ false → OnErr r P → P
err-then (Ok x) P e h = absurd (false≢true (sym e))
err-then (Err x) P e h = h

-- ---- what needs memory: a text that isn't gaps alone

token_list-some : (place : Place) (to : ℕ) (kind : Result Kind LexFault) → token_list place to kind ≢ Ok []
token_list-some place to (Ok kind) is = absurd (cc is)
token_list-some place to (Err fault) is = absurd (cc is)

-- a text or an open text isn't a gap
pub text_piece : (place : Place) (s : List ℕ) → slice_index s 0 ≡ 34 → piece_tokens place (front_of s) ≢ Ok []
unfolding piece_tokens front_of is_gap is_white_space is_line_comment is_block_comment
text_piece place [] quote is = absurd (omega (arith, quote))
text_piece place (b ∷ s) quote is = by (longest is_piece (length (b ∷ s)) (b ∷ s)) is
  where
    by : (n : ℕ) → piece_tokens place (take n (b ∷ s)) ≢ Ok []
    by zero none = absurd (token_list-some place (place.at + 0) (kind_of place []) none)
    by (suc n) none =
        let gap : is_gap (b ∷ take n s) ≡ false = subst (λ k. is_gap (k ∷ take n s) ≡ false) (sym quote) (gap-false 34 (take n s) refl refl) in
        token_list-some place (place.at + length (b ∷ take n s)) (kind_of place (b ∷ take n s))
        (sym (ap (λ v. cond v (Ok []) (token_list place (place.at + length (b ∷ take n s)) (kind_of place (b ∷ take n s)))) gap) ∙ none)

-- a piece with a token isn't a gap
pub kind_piece : (place : Place) (s : List ℕ) (found : Found) → IsFound place s found → is_some found.kind ≡ true → piece_tokens place (front_of s) ≢ Ok []
kind_piece place s found h some none = by found.kind some (sym h.tokens_are ∙ none)
  where
    by : (kind : Option Kind) → is_some kind ≡ true → (let r : Result (List Token) LexFault = Ok (tokens_at place (place.at + found.length) kind) in r) ≢ Ok []
    by None some is = absurd (false≢true some)
    by (Some kind) some is = absurd (cc is)

joined-empty : (tokens : List Token) (piece rest : Result (List Token) LexFault) → joined (Ok tokens) (joined piece rest) ≡ Ok [] → piece ≡ Ok []
unfolding joined
joined-empty tokens (Err fault) rest is = absurd (cc is)
joined-empty tokens (Ok piece) (Err fault) is = absurd (cc is)
joined-empty [] (Ok []) (Ok more) is = refl
joined-empty [] (Ok (token ∷ piece)) (Ok more) is = absurd (cc is)
joined-empty (token ∷ tokens) (Ok piece) (Ok more) is = absurd (cc is)

pub token_read : (file at line : ℕ) (tokens : List Token) (text : List ℕ) → at < length text → piece_tokens (place_at file at line) (front_of (drop at text)) ≢ Ok [] →
    IsRead file at line tokens text → tokens_of file text ≢ Ok []
unfolding tokens_from
token_read file at line tokens text below some read none =
    let b = slice_index text at in
    let s = drop (at + 1) text in
    let more = drop_more text at 0 below in
    let rest = tokens_from file (length (front_of (b ∷ s)) - 1) (at + 1) (line_after line b) s in
    let empty : piece_tokens (place_at file at line) (front_of (b ∷ s)) ≡ Ok [] =
    joined-empty tokens (piece_tokens (place_at file at line) (front_of (b ∷ s))) rest
    (sym (ap (λ t. joined (Ok tokens) (tokens_from file 0 at line t)) more) ∙ read ∙ none) in
    some (ap (λ t. piece_tokens (place_at file at line) (front_of t)) more ∙ empty)
