-- Comments at the start of a text.
use Rattle.std.proofs.Common.{◌≡◌, ℕ, zero, suc, ◌+◌, ◌-◌, ◌<◌, ◌≤◌, Bool, true, false, cond, ◌&&◌, ◌||◌, ◌==◌, nat_le, List, [], ◌∷◌, length, take, drop, refl, sym, ap, ◌∙◌, subst, arith, inl, inr, Result, Ok, Err, Some, None, is_none, get_or}
use Rattle.std.specs.List.{prefix_len, list_all}
use Rattle.std.proofs.lemmas.Bool.{false≢true, cases_Bool, eqb-true}
use Rattle.std.proofs.lemmas.Bool.Decides.{nat_tests}
use Rattle.std.proofs.lemmas.List.{length-drop, drop-drop, take_all, drop_more, drop_all}
use Rattle.std.proofs.lemmas.List.Sums.{prefix_len-le-length}
use Rattle.scene_lexer.specs.Spellings.{longest, is_white_space, is_line_comment, is_block_comment, is_open_comment, is_gap, is_sign, is_piece, opens_comment, closes_comment, opens_line_comment, is_in_line, mark_tail, depth_after, comment_rest, ends_there}
use Rattle.scene_lexer.specs.Tokens.{piece_tokens, front_of, tokens_at}
use Rattle.scene_lexer.specs.Steps.{IsClosedComment, IsFound, line_feeds}
use Rattle.scene_lexer.specs.declared.found.Found.{Found}
use Rattle.scene_lexer.specs.declared.token.Place.{Place}
use Rattle.scene_lexer.specs.declared.token.Token.{Token}
use Rattle.scene_lexer.specs.declared.token.LexFault.{LexFault}
use Rattle.scene_lexer.specs.declared.token.LexFault.TheVariants.{OpenComment}
use Rattle.scene_lexer.proofs.LongestLemmas.{longest-is, list_all-take}
use Rattle.scene_lexer.proofs.NumberLength.{and_left, and_right, and-false}
use Rattle.scene_lexer.proofs.PieceLemmas.{piece-slash, word-false, number-false, text-false}
use Rattle.scene_lexer.proofs.ScanLemmas.{comment_scan, scan-at, scan-above, ends_or_open, opens-one, closes-one}
use Rattle.scene_lexer.proofs.TokensLemmas.{no_feeds-run, feeds-cons, kind-open_comment}
use Rattle.scene_lexer.proofs.FoundLemmas.{found-gap, fault-front, feeds-take-add}

or-false : (b : Bool) → (b || false) ≡ b
or-false true = refl
or-false false = refl

opens-is : (s : List ℕ) → opens_comment s ≡ true → s ≡ 47 ∷ 42 ∷ drop 2 s
opens-is [] h = absurd (false≢true h)
opens-is (b ∷ []) h = absurd (false≢true (sym (opens-one b) ∙ h))
opens-is (b ∷ c ∷ s) h =
    let first : 47 ≡ b = eqb-true 47 b (and_left (47 == b) ((42 == c) && true) h) in
    let second : 42 ≡ c = eqb-true 42 c (and_left (42 == c) true (and_right (47 == b) ((42 == c) && true) h)) in
    ap (λ k. k ∷ c ∷ s) (sym first) ∙ ap (λ k. 47 ∷ k ∷ s) (sym second)

line-opens-is : (s : List ℕ) → opens_line_comment s ≡ true → s ≡ 47 ∷ 47 ∷ drop 2 s
line-opens-is [] h = absurd (false≢true h)
line-opens-is (b ∷ []) h = absurd (false≢true (sym (and-false (47 == b)) ∙ h))
line-opens-is (b ∷ c ∷ s) h =
    let first : 47 ≡ b = eqb-true 47 b (and_left (47 == b) ((47 == c) && true) h) in
    let second : 47 ≡ c = eqb-true 47 c (and_left (47 == c) true (and_right (47 == b) ((47 == c) && true) h)) in
    ap (λ k. k ∷ c ∷ s) (sym first) ∙ ap (λ k. 47 ∷ k ∷ s) (sym second)

no_sign-comment : (t : List ℕ) → is_sign (47 ∷ 42 ∷ t) ≡ false
unfolding is_sign
no_sign-comment [] = refl
no_sign-comment (b ∷ t) = refl

no_sign-line : (t : List ℕ) → is_sign (47 ∷ 47 ∷ t) ≡ false
unfolding is_sign
no_sign-line [] = refl
no_sign-line (b ∷ t) = refl

no_line-comment : (t : List ℕ) → is_line_comment (47 ∷ 42 ∷ t) ≡ false
unfolding is_line_comment
no_line-comment t = refl

block-is : (t : List ℕ) → is_block_comment (47 ∷ 42 ∷ t) ≡ ends_there (comment_rest 0 1 t)
unfolding is_block_comment
block-is t = refl

open-is : (t : List ℕ) → is_open_comment (47 ∷ 42 ∷ t) ≡ is_none (comment_rest 0 1 t)
unfolding is_open_comment
open-is t = refl

-- at `/*` stand comments alone, closed or open
piece-comment : (t : List ℕ) → is_piece (47 ∷ 42 ∷ t) ≡ ends_or_open (comment_rest 0 1) t
piece-comment t = piece-slash (42 ∷ t)
    ∙ ap (λ v. (v || is_block_comment (47 ∷ 42 ∷ t)) || (is_sign (47 ∷ 42 ∷ t) || is_open_comment (47 ∷ 42 ∷ t))) (no_line-comment t)
    ∙ ap (λ v. is_block_comment (47 ∷ 42 ∷ t) || (v || is_open_comment (47 ∷ 42 ∷ t))) (no_sign-comment t)
    ∙ ap (λ v. v || is_open_comment (47 ∷ 42 ∷ t)) (block-is t)
    ∙ ap (λ v. ends_there (comment_rest 0 1 t) || v) (open-is t)

longest-comment : (t : List ℕ) (n : ℕ) → n ≤ length t → comment_rest 0 1 t ≡ Some (drop n t) → longest is_piece (length (47 ∷ 42 ∷ t)) (47 ∷ 42 ∷ t) ≡ suc (suc n)
longest-comment t n within h =
    longest-is is_piece (suc (suc (length t))) (suc (suc n)) (47 ∷ 42 ∷ t) (omega arith)
    (piece-comment (take n t) ∙ ap (λ v. v || is_none (comment_rest 0 1 (take n t))) (scan-at (comment_rest 0 1) comment_scan t n within h))
    above (omega arith)
  where
    above : (m : ℕ) → suc (suc n) < m → m ≤ suc (suc (length t)) → is_piece (take m (47 ∷ 42 ∷ t)) ≡ false
    above zero low high = absurd (omega arith)
    above (suc zero) low high = absurd (omega arith)
    above (suc (suc m)) low high = piece-comment (take m t) ∙ scan-above (comment_rest 0 1) comment_scan t n m (omega arith) (omega arith) h

longest-open : (t : List ℕ) → comment_rest 0 1 t ≡ None → longest is_piece (length (47 ∷ 42 ∷ t)) (47 ∷ 42 ∷ t) ≡ suc (suc (length t))
longest-open t h =
    longest-is is_piece (suc (suc (length t))) (suc (suc (length t))) (47 ∷ 42 ∷ t) (omega arith)
    (piece-comment (take (length t) t) ∙ ap (ends_or_open (comment_rest 0 1)) (take_all (length t) t (omega arith)) ∙ ap (λ o. ends_there o || is_none o) h)
    (λ m low high. absurd (omega arith)) (omega arith)

gap-comment : (t : List ℕ) → ends_there (comment_rest 0 1 t) ≡ true → is_gap (47 ∷ 42 ∷ t) ≡ true
unfolding is_gap is_white_space
gap-comment t h = ap (λ v. v || is_block_comment (47 ∷ 42 ∷ t)) (no_line-comment t) ∙ block-is t ∙ h

no_gap-open : (t : List ℕ) → comment_rest 0 1 t ≡ None → is_gap (47 ∷ 42 ∷ t) ≡ false
unfolding is_gap is_white_space
no_gap-open t h = ap (λ v. v || is_block_comment (47 ∷ 42 ∷ t)) (no_line-comment t) ∙ block-is t ∙ ap ends_there h

front-comment : (t : List ℕ) (n : ℕ) → n ≤ length t → comment_rest 0 1 t ≡ Some (drop n t) → front_of (47 ∷ 42 ∷ t) ≡ take (suc (suc n)) (47 ∷ 42 ∷ t)
unfolding front_of
front-comment t n within h = ap (λ k. take k (47 ∷ 42 ∷ t)) (longest-comment t n within h)

front-open : (t : List ℕ) → comment_rest 0 1 t ≡ None → front_of (47 ∷ 42 ∷ t) ≡ 47 ∷ 42 ∷ t
unfolding front_of
front-open t h = ap (λ k. take k (47 ∷ 42 ∷ t)) (longest-open t h) ∙ ap (λ s. 47 ∷ 42 ∷ s) (take_all (length t) t (omega arith))

pub comment_found : (place : Place) (text : List ℕ) (found : Found) → opens_comment text ≡ true → IsClosedComment text found → IsFound place text found
comment_found place text found opens h =
    let t = drop 2 text in
    let is = opens-is text opens in
    let n = found.length - 2 in
    let n_is : found.length ≡ suc (suc n) = omega (arith, h.marks) in
    let size : length text ≡ suc (suc (length t)) = ap length is in
    let within : n ≤ length t = omega (arith, h.within) in
    let two : found.length ≡ 2 + n = omega (arith, h.marks) in
    let closed : comment_rest 0 1 t ≡ Some (drop n t) = h.closed ∙ ap (λ k. Some (drop k text)) two ∙ ap Some (sym (drop-drop n 2 text)) in
    let front : front_of text ≡ take found.length text =
    ap front_of is ∙ front-comment t n within closed ∙ ap (λ k. take k (47 ∷ 42 ∷ t)) (sym n_is) ∙ ap (take found.length) (sym is) in
    let gap : is_gap (take found.length text) ≡ true =
    ap (λ k. is_gap (take k text)) n_is ∙ ap (λ s. is_gap (take (suc (suc n)) s)) is ∙ gap-comment (take n t) (scan-at (comment_rest 0 1) comment_scan t n within closed) in
    let plain = found-gap place text found.length found.lines front h.within (omega (arith, h.marks)) gap h.lines_are in
    record {
      tokens_are = plain.tokens_are ∙ ap (λ k. let r : Result (List Token) LexFault = Ok (tokens_at place (place.at + found.length) k) in r) (sym h.no_token);
      length_is = plain.length_is;
      lines_are = plain.lines_are;
      some = plain.some;
    }

pub comment_open : (place : Place) (text : List ℕ) → opens_comment text ≡ true → comment_rest 0 1 (drop 2 text) ≡ None → piece_tokens place (front_of text) ≡ Err (OpenComment place)
comment_open place text opens h =
    let t = drop 2 text in
    let is = opens-is text opens in
    ap (λ s. piece_tokens place (front_of s)) is
    ∙ fault-front place (47 ∷ 42 ∷ t) (47 ∷ 42 ∷ t) (OpenComment place) (front-open t h) (no_gap-open t h)
    (kind-open_comment place (47 ∷ 42 ∷ t) (word-false 47 (42 ∷ t) refl) (number-false 47 (42 ∷ t) refl refl) (text-false 47 (42 ∷ t) refl) (no_sign-comment t)
    (open-is t ∙ ap is_none h))

-- comments to the end of the line
line-is : (t : List ℕ) → is_line_comment (47 ∷ 47 ∷ t) ≡ list_all is_in_line t
unfolding is_line_comment
line-is t = refl

no_block-line : (t : List ℕ) → is_block_comment (47 ∷ 47 ∷ t) ≡ false
unfolding is_block_comment
no_block-line t = refl

no_open-line : (t : List ℕ) → is_open_comment (47 ∷ 47 ∷ t) ≡ false
unfolding is_open_comment
no_open-line t = refl

piece-line : (t : List ℕ) → is_piece (47 ∷ 47 ∷ t) ≡ list_all is_in_line t
piece-line t = piece-slash (47 ∷ t)
    ∙ ap (λ v. (is_line_comment (47 ∷ 47 ∷ t) || v) || (is_sign (47 ∷ 47 ∷ t) || is_open_comment (47 ∷ 47 ∷ t))) (no_block-line t)
    ∙ ap (λ v. (is_line_comment (47 ∷ 47 ∷ t) || false) || (v || is_open_comment (47 ∷ 47 ∷ t))) (no_sign-line t)
    ∙ ap (λ v. (is_line_comment (47 ∷ 47 ∷ t) || false) || v) (no_open-line t)
    ∙ or-false (is_line_comment (47 ∷ 47 ∷ t) || false) ∙ or-false (is_line_comment (47 ∷ 47 ∷ t)) ∙ line-is t

le-self : (n : ℕ) → nat_le n n ≡ true
le-self n = grind (arith, nat_tests)

le-above : (m n : ℕ) → n < m → nat_le m n ≡ false
le-above m n h = grind (arith, nat_tests)

longest-line : (t : List ℕ) → longest is_piece (length (47 ∷ 47 ∷ t)) (47 ∷ 47 ∷ t) ≡ suc (suc (prefix_len is_in_line t))
longest-line t =
    let n = prefix_len is_in_line t in
    let within = prefix_len-le-length is_in_line t in
    longest-is is_piece (suc (suc (length t))) (suc (suc n)) (47 ∷ 47 ∷ t) (omega arith)
    (piece-line (take n t) ∙ list_all-take is_in_line n t within ∙ le-self n)
    above (omega arith)
  where
    above : (m : ℕ) → suc (suc (prefix_len is_in_line t)) < m → m ≤ suc (suc (length t)) → is_piece (take m (47 ∷ 47 ∷ t)) ≡ false
    above zero low high = absurd (omega arith)
    above (suc zero) low high = absurd (omega arith)
    above (suc (suc m)) low high = piece-line (take m t) ∙ list_all-take is_in_line m t (omega arith) ∙ le-above m (prefix_len is_in_line t) (omega arith)

front-line : (t : List ℕ) → front_of (47 ∷ 47 ∷ t) ≡ take (suc (suc (prefix_len is_in_line t))) (47 ∷ 47 ∷ t)
unfolding front_of
front-line t = ap (λ k. take k (47 ∷ 47 ∷ t)) (longest-line t)

gap-line : (t : List ℕ) → list_all is_in_line t ≡ true → is_gap (47 ∷ 47 ∷ t) ≡ true
unfolding is_gap is_white_space
gap-line t h = ap (λ v. v || is_block_comment (47 ∷ 47 ∷ t)) (line-is t ∙ h)

line-whole : (place : Place) (t : List ℕ) → IsFound place (47 ∷ 47 ∷ t) (record { kind = None; length = suc (suc (prefix_len is_in_line t)); lines = 0 })
line-whole place t =
    let n = prefix_len is_in_line t in
    let within = prefix_len-le-length is_in_line t in
    found-gap place (47 ∷ 47 ∷ t) (suc (suc n)) 0 (front-line t) (omega arith) (omega arith)
    (gap-line (take n t) (list_all-take is_in_line n t within ∙ le-self n))
    (sym (feeds-cons 47 (47 ∷ take n t) ∙ ap (λ k. 0 + k) (feeds-cons 47 (take n t)) ∙ omega (arith, no_feeds-run is_in_line refl t)))

pub line_found : (place : Place) (text : List ℕ) (n : ℕ) → opens_line_comment text ≡ true → n ≡ prefix_len is_in_line text → IsFound place text (record { kind = None; length = n; lines = 0 })
line_found place text n opens is =
    let t = drop 2 text in
    let whole = line-opens-is text opens in
    let two : 1 + (1 + prefix_len is_in_line t) ≡ suc (suc (prefix_len is_in_line t)) = omega arith in
    let n_is : n ≡ suc (suc (prefix_len is_in_line t)) = is ∙ ap (prefix_len is_in_line) whole ∙ two in
    subst (λ k. IsFound place text (record { kind = None; length = k; lines = 0 })) (sym n_is)
    (subst (λ s. IsFound place s (record { kind = None; length = suc (suc (prefix_len is_in_line t)); lines = 0 })) (sym whole) (line-whole place t))

-- one step through a comment
pub mark-within : (s : List ℕ) → 0 < length s → 1 + mark_tail s ≤ length s
mark-within [] some = absurd (omega arith)
mark-within (b ∷ []) some =
    let none : mark_tail (b ∷ []) ≡ 0 = ap (λ v. cond (v || closes_comment (b ∷ [])) 1 0) (opens-one b) ∙ ap (λ v. cond v 1 0) (closes-one b) in
    omega arith
mark-within (b ∷ c ∷ s) some = elim (opens_comment (b ∷ c ∷ s) || closes_comment (b ∷ c ∷ s)) as (λ v. 1 + cond v 1 0 ≤ suc (suc (length s))) [ true ↦ omega arith | false ↦ omega arith ]

comment-skip : (k d : ℕ) (s : List ℕ) → k ≤ length s → comment_rest k d s ≡ comment_rest 0 d (drop k s)
unfolding comment_rest
comment-skip zero d s h = refl
comment-skip (suc k) d [] h = absurd (omega arith)
comment-skip (suc k) d (b ∷ s) h = comment-skip k d s (omega arith)

comment-step : (d : ℕ) (s : List ℕ) → 0 < length s → comment_rest 0 (suc d) s ≡ comment_rest 0 (depth_after d s) (drop (1 + mark_tail s) s)
unfolding comment_rest
comment-step d [] some = absurd (omega arith)
comment-step d (b ∷ s) some =
    let e : 1 + mark_tail (b ∷ s) ≡ suc (mark_tail (b ∷ s)) = omega arith in
    let within = mark-within (b ∷ s) some in
    comment-skip (mark_tail (b ∷ s)) (depth_after d (b ∷ s)) s (omega arith) ∙ ap (λ k. comment_rest 0 (depth_after d (b ∷ s)) (drop k (b ∷ s))) (sym e)

-- a mark ends no line
mark-feeds : (b : ℕ) (s : List ℕ) → line_feeds (take (1 + mark_tail (b ∷ s)) (b ∷ s)) ≡ cond (b == 10) 1 0
mark-feeds b s = elim (cases_Bool (opens_comment (b ∷ s) || closes_comment (b ∷ s))) [
  | inr e ↦ ap (λ v. line_feeds (take (1 + cond v 1 0) (b ∷ s))) e ∙ feeds-cons b [] ∙ omega arith
  | inl e ↦ ap (λ v. line_feeds (take (1 + cond v 1 0) (b ∷ s))) e ∙ elim (cases_Bool (opens_comment (b ∷ s))) [
    | inl opens ↦ ap (λ l. line_feeds (take 2 l)) (opens-is (b ∷ s) opens) ∙ feeds-two 47 42 refl refl ∙ sym (head 47 (opens-is (b ∷ s) opens) refl)
    | inr shut ↦
        let closes : closes_comment (b ∷ s) ≡ true = sym (ap (λ v. v || closes_comment (b ∷ s)) shut) ∙ e in
        ap (λ l. line_feeds (take 2 l)) (closes-is (b ∷ s) closes) ∙ feeds-two 42 47 refl refl ∙ sym (head 42 (closes-is (b ∷ s) closes) refl)
  ]
]
  where
    feeds-two : (x y : ℕ) → (x == 10) ≡ false → (y == 10) ≡ false → line_feeds (x ∷ y ∷ []) ≡ 0
    feeds-two x y p q = feeds-cons x (y ∷ []) ∙ ap (λ v. cond v 1 0 + line_feeds (y ∷ [])) p ∙ ap (λ k. 0 + k) (feeds-cons y []) ∙ ap (λ v. 0 + (cond v 1 0 + 0)) q

    head : (x : ℕ) {t : List ℕ} → b ∷ s ≡ x ∷ t → (x == 10) ≡ false → (let n : ℕ = cond (b == 10) 1 0 in n) ≡ 0
    head x same h = let first : b ≡ x = cc same in ap (λ k. cond (k == 10) 1 0) first ∙ ap (λ v. cond v 1 0) h

    closes-is : (s : List ℕ) → closes_comment s ≡ true → s ≡ 42 ∷ 47 ∷ drop 2 s
    closes-is [] h = absurd (false≢true h)
    closes-is (b ∷ []) h = absurd (false≢true (sym (closes-one b) ∙ h))
    closes-is (b ∷ c ∷ s) h =
        let first : 42 ≡ b = eqb-true 42 b (and_left (42 == b) ((47 == c) && true) h) in
        let second : 47 ≡ c = eqb-true 47 c (and_left (47 == c) true (and_right (42 == b) ((47 == c) && true) h)) in
        ap (λ k. k ∷ c ∷ s) (sym first) ∙ ap (λ k. 42 ∷ k ∷ s) (sym second)

-- how far the comments of a text are read, and what is known there
pub record IsInComment (text : List ℕ) (at depth lines : ℕ) : Type 0 where
  pub scan : comment_rest 0 depth (drop at text) ≡ comment_rest 0 1 (drop 2 text)
  pub within : at ≤ length text
  pub marks : 2 ≤ at
  pub deep : depth ≤ at
  pub lines_are : lines ≡ line_feeds (take at text)

pub comment_start : (text : List ℕ) → opens_comment text ≡ true → IsInComment text 2 1 0
comment_start text opens =
    let is = opens-is text opens in
    record {
      scan = refl;
      within = omega (arith, ap length is);
      marks = omega arith;
      deep = omega arith;
      lines_are = sym (ap (λ s. line_feeds (take 2 s)) is ∙ feeds-cons 47 (42 ∷ []) ∙ ap (λ k. 0 + k) (feeds-cons 42 []));
    }

pub comment_more : (text rest : List ℕ) (at depth lines next size more : ℕ) → IsInComment text at depth lines → at < length text → 0 < depth → rest ≡ drop at text →
    next ≡ depth_after (depth - 1) rest → size ≡ 1 + mark_tail rest → more ≡ cond (get_or text at 0 == 10) 1 0 → IsInComment text (at + size) next (lines + more)
comment_more text rest at depth lines next size more h below nested is n_is s_is m_is =
    let b = get_or text at 0 in
    let r = drop (at + 1) text in
    let here : rest ≡ b ∷ r = is ∙ drop_more text at 0 below in
    let some : 0 < length rest = omega (arith, ap length here) in
    let within = mark-within rest some in
    let pred : depth ≡ suc (depth - 1) = omega arith in
    let left : length rest ≡ length text - at = ap length is ∙ length-drop at text in
    record {
      scan = ap (λ d. comment_rest 0 d (drop (at + size) text)) n_is
          ∙ ap (comment_rest 0 (depth_after (depth - 1) rest)) (sym (drop-drop size at text) ∙ ap (drop size) (sym is) ∙ ap (λ k. drop k rest) s_is)
          ∙ sym (comment-step (depth - 1) rest some) ∙ ap (λ d. comment_rest 0 d rest) (sym pred) ∙ ap (comment_rest 0 depth) is ∙ h.scan;
      within = omega (arith, h.within);
      marks = omega (arith, h.marks);
      deep = omega (arith, h.deep, deeper (depth - 1) rest);
      lines_are = sym (feeds-take-add at size text ∙ ap (λ k. k + line_feeds (take size (drop at text))) (sym h.lines_are)
          ∙ ap (λ k. lines + line_feeds (take k (drop at text))) s_is ∙ ap (λ l. lines + line_feeds (take (1 + mark_tail rest) l)) (sym is)
          ∙ ap (λ l. lines + line_feeds (take (1 + mark_tail l) l)) here ∙ ap (λ k. lines + k) (mark-feeds b r ∙ sym m_is));
    }
  where
    deeper : (d : ℕ) (s : List ℕ) → depth_after d s ≤ suc d + (1 + mark_tail s)
    deeper d s = by (opens_comment s) (closes_comment s)
      where
        by : (o c : Bool) → cond o (suc (suc d)) (cond c d (suc d)) ≤ suc d + (1 + cond (o || c) 1 0)
        by true c = omega arith
        by false true = omega arith
        by false false = omega arith

pub comment_end : (text : List ℕ) (at depth lines : ℕ) → IsInComment text at depth lines → depth ≡ 0 → IsClosedComment text (record { kind = None; length = at; lines = lines })
unfolding comment_rest
comment_end text at depth lines h shut = record {
  closed = sym h.scan ∙ ap (λ d. comment_rest 0 d (drop at text)) shut;
  marks = h.marks;
  within = h.within;
  lines_are = h.lines_are;
  no_token = refl;
}

pub comment_out : (text : List ℕ) (at depth lines : ℕ) → IsInComment text at depth lines → 0 < depth → length text ≤ at → comment_rest 0 1 (drop 2 text) ≡ None
unfolding comment_rest
comment_out text at depth lines h nested past =
    let pred : depth ≡ suc (depth - 1) = omega arith in
    sym h.scan ∙ ap (comment_rest 0 depth) (drop_all at text past) ∙ ap (λ d. comment_rest 0 d []) pred
