-- Texts at the start of a text.
use Rattle.std.proofs.Common.{◌≡◌, ℕ, zero, suc, ◌+◌, ◌-◌, ◌<◌, ◌≤◌, Bool, true, false, cond, ◌||◌, ◌==◌, List, [], ◌∷◌, ◌++◌, length, take, drop, refl, sym, ap, ◌∙◌, arith, inl, inr, Result, Ok, Err, slice_index, get_or, Option, Some, None, is_some, is_none, unwrap_or, if◌then◌else◌}
use Rattle.std.proofs.lemmas.Bool.{cases_Bool, eqb-true}
use Rattle.std.proofs.lemmas.List.{length-drop, drop-drop, drop-take, take-take, take_all, drop_more, drop_all, length-take-le, append_assoc, append-nil}
use Rattle.scene_lexer.specs.Spellings.{longest, is_gap, is_text, is_open_text, is_piece, escape, escape_of, escape_tail, text_rest, ends_there}
use Rattle.scene_lexer.specs.Tokens.{kind_of, piece_tokens, front_of, unescaped, within_quotes}
use Rattle.scene_lexer.specs.Steps.{IsFound, line_feeds}
use Rattle.scene_lexer.specs.declared.token.Place.{Place}
use Rattle.scene_lexer.specs.declared.token.Kind.{Kind}
use Rattle.scene_lexer.specs.declared.token.Kind.TheVariants.{Text}
use Rattle.scene_lexer.specs.declared.token.LexFault.{LexFault}
use Rattle.scene_lexer.specs.declared.token.LexFault.TheVariants.{OpenString}
use Rattle.scene_lexer.proofs.LongestLemmas.{longest-is}
use Rattle.scene_lexer.proofs.PieceLemmas.{piece-text, gap-false, word-false, number-false, sign-false, open_comment-false}
use Rattle.scene_lexer.proofs.ScanLemmas.{text_scan, scan-at, scan-above, ends_or_open, escape_tail-one}
use Rattle.scene_lexer.proofs.TokensLemmas.{feeds-cons, kind-text, kind-open_text}
use Rattle.scene_lexer.proofs.FoundLemmas.{found-token, fault-front, feeds-take-add}

text-is : (t : List ℕ) → is_text (34 ∷ t) ≡ ends_there (text_rest 0 t)
unfolding is_text
text-is t = refl

open-is : (t : List ℕ) → is_open_text (34 ∷ t) ≡ is_none (text_rest 0 t)
unfolding is_open_text
open-is t = refl

piece-quote : (t : List ℕ) → is_piece (34 ∷ t) ≡ ends_or_open (text_rest 0) t
piece-quote t = piece-text t ∙ ap (λ v. v || is_open_text (34 ∷ t)) (text-is t) ∙ ap (λ v. ends_there (text_rest 0 t) || v) (open-is t)

longest-text : (t : List ℕ) (n : ℕ) → n ≤ length t → text_rest 0 t ≡ Some (drop n t) → longest is_piece (length (34 ∷ t)) (34 ∷ t) ≡ suc n
longest-text t n within h =
    longest-is is_piece (suc (length t)) (suc n) (34 ∷ t) (omega arith)
    (piece-quote (take n t) ∙ ap (λ v. v || is_none (text_rest 0 (take n t))) (scan-at (text_rest 0) text_scan t n within h))
    above (omega arith)
  where
    above : (m : ℕ) → suc n < m → m ≤ suc (length t) → is_piece (take m (34 ∷ t)) ≡ false
    above zero low high = absurd (omega arith)
    above (suc m) low high = piece-quote (take m t) ∙ scan-above (text_rest 0) text_scan t n m (omega arith) (omega arith) h

longest-open : (t : List ℕ) → text_rest 0 t ≡ None → longest is_piece (length (34 ∷ t)) (34 ∷ t) ≡ suc (length t)
longest-open t h =
    longest-is is_piece (suc (length t)) (suc (length t)) (34 ∷ t) (omega arith)
    (piece-quote (take (length t) t) ∙ ap (ends_or_open (text_rest 0)) (take_all (length t) t (omega arith)) ∙ ap (λ o. ends_there o || is_none o) h)
    (λ m low high. absurd (omega arith)) (omega arith)

front-text : (t : List ℕ) (n : ℕ) → n ≤ length t → text_rest 0 t ≡ Some (drop n t) → front_of (34 ∷ t) ≡ take (suc n) (34 ∷ t)
unfolding front_of
front-text t n within h = ap (λ k. take k (34 ∷ t)) (longest-text t n within h)

front-open : (t : List ℕ) → text_rest 0 t ≡ None → front_of (34 ∷ t) ≡ 34 ∷ t
unfolding front_of
front-open t h = ap (λ k. take k (34 ∷ t)) (longest-open t h) ∙ ap (λ s. 34 ∷ s) (take_all (length t) t (omega arith))

quote-is : (s : List ℕ) → slice_index s 0 ≡ 34 → s ≡ 34 ∷ drop 1 s
quote-is [] h = absurd (omega arith)
quote-is (b ∷ s) h = ap (λ k. k ∷ s) h

text-kind : (place : Place) (t : List ℕ) (n : ℕ) → n ≤ length t → text_rest 0 t ≡ Some (drop n t) → kind_of place (34 ∷ take n t) ≡ Ok (Text (unescaped 0 (within_quotes (34 ∷ take n t))))
text-kind place t n within h =
    kind-text place (34 ∷ take n t) (word-false 34 (take n t) refl) (number-false 34 (take n t) refl refl)
    (text-is (take n t) ∙ scan-at (text_rest 0) text_scan t n within h)

-- the bytes between the quotes
inner-is : (t : List ℕ) (n : ℕ) → 0 < n → n ≤ length t → within_quotes (34 ∷ take n t) ≡ take (n - 1) t
inner-is t n some within =
    let size : suc (length (take n t)) - 1 ≡ suc (n - 1) = omega (arith, length-take-le n t within) in
    ap (λ k. drop 1 (take k (34 ∷ take n t))) size ∙ take-take (n - 1) n t (omega arith)

-- how far a text is read, and what is known there
pub record IsInText (text : List ℕ) (at : ℕ) (bytes : List ℕ) (lines : ℕ) : Type 0 where
  pub scan : text_rest 0 (drop at text) ≡ text_rest 0 (drop 1 text)
  pub read : (j : ℕ) → unescaped 0 (take (at - 1 + j) (drop 1 text)) ≡ bytes ++ unescaped 0 (take j (drop at text))
  pub within : at ≤ length text
  pub quote : 1 ≤ at
  pub lines_are : lines ≡ line_feeds (take at text)

pub text_start : (text bytes : List ℕ) → slice_index text 0 ≡ 34 → bytes ≡ [] → IsInText text 1 bytes 0
text_start text bytes quote empty =
    let is = quote-is text quote in
    record {
      scan = refl;
      read = λ j. let e : 1 - 1 + j ≡ j = omega arith in ap (λ k. unescaped 0 (take k (drop 1 text))) e ∙ ap (λ b. b ++ unescaped 0 (take j (drop 1 text))) (sym empty);
      within = omega (arith, ap length is);
      quote = omega arith;
      lines_are = sym (ap (λ s. line_feeds (take 1 s)) is ∙ feeds-cons 34 []);
    }

-- one step through a text
pub escape-within : (s : List ℕ) → 0 < length s → 1 + escape_tail s ≤ length s
escape-within [] some = absurd (omega arith)
escape-within (b ∷ []) some = let e = escape_tail-one b in omega arith
escape-within (b ∷ c ∷ s) some = elim (is_some (escape (b ∷ c ∷ s))) as (λ v. 1 + cond v 1 0 ≤ suc (suc (length s))) [ true ↦ omega arith | false ↦ omega arith ]

text-skip : (k : ℕ) (s : List ℕ) → text_rest k s ≡ text_rest 0 (drop k s)
unfolding text_rest
text-skip zero s = refl
text-skip (suc k) [] = refl
text-skip (suc k) (b ∷ s) = text-skip k s

text-step : (b : ℕ) (s : List ℕ) → (b == 34) ≡ false → text_rest 0 (b ∷ s) ≡ text_rest 0 (drop (escape_tail (b ∷ s)) s)
unfolding text_rest
text-step b s h = ap (λ v. cond v (Some s) (text_rest (escape_tail (b ∷ s)) s)) h ∙ text-skip (escape_tail (b ∷ s)) s

unescaped-skip : (k : ℕ) (s : List ℕ) → unescaped k s ≡ unescaped 0 (drop k s)
unfolding unescaped
unescaped-skip zero s = refl
unescaped-skip (suc k) [] = refl
unescaped-skip (suc k) (b ∷ s) = unescaped-skip k s

escape-take : (b m : ℕ) (s : List ℕ) → escape_tail (b ∷ s) ≤ m → escape (b ∷ take m s) ≡ escape (b ∷ s)
unfolding escape
escape-take b zero [] h = refl
escape-take b (suc m) [] h = refl
escape-take b (suc m) (c ∷ s) h = refl
escape-take b zero (c ∷ s) h = none (if b == 92 then escape_of c else None) h
  where
    none : (o : Option ℕ) → (let tail : ℕ = cond (is_some o) 1 0 in tail) ≤ 0 → (let empty : Option ℕ = None in empty) ≡ o
    none None h = refl
    none (Some x) h = absurd (omega arith)

unescaped-step : (b j : ℕ) (s : List ℕ) → unescaped 0 (b ∷ take (escape_tail (b ∷ s) + j) s) ≡ unwrap_or (escape (b ∷ s)) b ∷ unescaped 0 (take j (drop (escape_tail (b ∷ s)) s))
unfolding unescaped
unescaped-step b j s =
    let k = escape_tail (b ∷ s) in
    let same = escape-take b (k + j) s (omega arith) in
    ap (λ o. unwrap_or o b ∷ unescaped (cond (is_some o) 1 0) (take (k + j) s)) same
    ∙ ap (λ l. unwrap_or (escape (b ∷ s)) b ∷ l) (unescaped-skip k (take (k + j) s) ∙ ap (unescaped 0) (drop-take k j s))

-- an escape ends no line
escape-feeds : (b : ℕ) (s : List ℕ) → line_feeds (take (1 + escape_tail (b ∷ s)) (b ∷ s)) ≡ cond (b == 10) 1 0
unfolding escape
escape-feeds b [] = feeds-cons b [] ∙ omega arith
escape-feeds b (c ∷ s) = elim (cases_Bool (b == 92)) [
  | inr other ↦ ap (λ v. line_feeds (take (1 + cond (is_some (cond v (escape_of c) None)) 1 0) (b ∷ c ∷ s))) other ∙ feeds-cons b [] ∙ omega arith
  | inl slash ↦ ap (λ v. line_feeds (take (1 + cond (is_some (cond v (escape_of c) None)) 1 0) (b ∷ c ∷ s))) slash
      ∙ elim (cases_Bool (c == 10)) [
        | inl ten ↦ ap (λ k. line_feeds (take (1 + cond (is_some (escape_of k)) 1 0) (b ∷ k ∷ s))) (eqb-true c 10 ten) ∙ feeds-cons b [] ∙ omega arith
        | inr no_ten ↦ either (is_some (escape_of c)) no_ten
      ]
]
  where
    either : (v : Bool) → (c == 10) ≡ false → line_feeds (take (1 + cond v 1 0) (b ∷ c ∷ s)) ≡ cond (b == 10) 1 0
    either true h = feeds-cons b (c ∷ []) ∙ ap (λ k. cond (b == 10) 1 0 + k) (feeds-cons c [] ∙ ap (λ v. cond v 1 0 + 0) h) ∙ omega arith
    either false h = feeds-cons b [] ∙ omega arith

pub text_more : (text rest bytes after : List ℕ) (at lines byte size more : ℕ) → IsInText text at bytes lines → at < length text → (get_or text at 0 ≡ 34 → ⊥) → rest ≡ drop at text →
    byte ≡ unwrap_or (escape rest) (slice_index rest 0) → size ≡ 1 + escape_tail rest → after ≡ bytes ++ byte ∷ [] → more ≡ cond (get_or text at 0 == 10) 1 0 → IsInText text (at + size) after (lines + more)
text_more text rest bytes after at lines byte size more h below no_quote is b_is s_is a_is m_is =
    let b = get_or text at 0 in
    let r = drop (at + 1) text in
    let there : drop at text ≡ b ∷ r = drop_more text at 0 below in
    let here : rest ≡ b ∷ r = is ∙ there in
    let k = escape_tail (b ∷ r) in
    let size_is : size ≡ 1 + k = s_is ∙ ap (λ s. 1 + escape_tail s) here in
    let byte_is : byte ≡ unwrap_or (escape (b ∷ r)) b = b_is ∙ ap (λ s. unwrap_or (escape s) (slice_index s 0)) here in
    let left : length (b ∷ r) ≡ length text - at = ap length (sym there) ∙ length-drop at text in
    let within = escape-within (b ∷ r) (omega arith) in
    let other : (b == 34) ≡ false = elim (cases_Bool (b == 34)) [ inr e ↦ e | inl e ↦ absurd (no_quote (eqb-true b 34 e)) ] in
    let beyond : drop k r ≡ drop (at + size) text = drop-drop k (at + 1) text ∙ ap (λ n. drop n text) (omega arith) in
    record {
      scan = ap (text_rest 0) (sym beyond) ∙ sym (text-step b r other) ∙ ap (text_rest 0) (sym there) ∙ h.scan;
      read = λ j.
          let n : at + size - 1 + j ≡ at - 1 + suc (k + j) = omega (arith, h.quote) in
          ap (λ m. unescaped 0 (take m (drop 1 text))) n ∙ h.read (suc (k + j)) ∙ ap (λ s. bytes ++ unescaped 0 (take (suc (k + j)) s)) there
          ∙ ap (λ l. bytes ++ l) (unescaped-step b j r) ∙ ap (λ x. bytes ++ x ∷ unescaped 0 (take j (drop k r))) (sym byte_is)
          ∙ ap (λ s. bytes ++ byte ∷ unescaped 0 (take j s)) beyond
          ∙ sym (append_assoc bytes (byte ∷ []) (unescaped 0 (take j (drop (at + size) text)))) ∙ ap (λ l. l ++ unescaped 0 (take j (drop (at + size) text))) (sym a_is);
      within = omega (arith, h.within);
      quote = omega (arith, h.quote);
      lines_are = sym (feeds-take-add at size text ∙ ap (λ n. n + line_feeds (take size (drop at text))) (sym h.lines_are)
          ∙ ap (λ n. lines + line_feeds (take n (drop at text))) size_is ∙ ap (λ s. lines + line_feeds (take (1 + k) s)) there
          ∙ ap (λ n. lines + n) (escape-feeds b r ∙ sym m_is));
    }

pub text_found : (place : Place) (text bytes : List ℕ) (at lines : ℕ) → slice_index text 0 ≡ 34 → IsInText text at bytes lines → at < length text → get_or text at 0 ≡ 34 →
    IsFound place text (record { kind = Some (Text bytes); length = at + 1; lines = lines })
unfolding text_rest unescaped
text_found place text bytes at lines opens h below quote =
    let t = drop 1 text in
    let is = quote-is text opens in
    let r = drop (at + 1) text in
    let there : drop at text ≡ 34 ∷ r = drop_more text at 0 below ∙ ap (λ k. k ∷ r) quote in
    let size : length text ≡ suc (length t) = ap length is in
    let one_at : at + 1 ≡ 1 + at = omega arith in
    let suc_at : suc at ≡ at + 1 = omega arith in
    let before : at - 1 ≡ at - 1 + 0 = omega arith in
    let closed : text_rest 0 t ≡ Some (drop at t) =
    sym h.scan ∙ ap (text_rest 0) there ∙ ends r ∙ ap Some (ap (λ n. drop n text) one_at ∙ sym (drop-drop at 1 text)) in
    let within : at ≤ length t = omega arith in
    let front : front_of text ≡ take (at + 1) text =
    ap front_of is ∙ front-text t at within closed ∙ ap (λ k. take k (34 ∷ t)) suc_at ∙ ap (take (at + 1)) (sym is) in
    let whole : take (at + 1) text ≡ 34 ∷ take at t = ap (take (at + 1)) is ∙ ap (λ k. take k (34 ∷ t)) (sym suc_at) in
    let inner : unescaped 0 (within_quotes (34 ∷ take at t)) ≡ bytes =
    ap (unescaped 0) (inner-is t at h.quote within) ∙ ap (λ n. unescaped 0 (take n t)) before ∙ h.read 0 ∙ no_more bytes (drop at text) in
    found-token place text (at + 1) lines (Text bytes) front (omega arith) (omega arith)
    (ap is_gap whole ∙ gap-false 34 (take at t) refl refl)
    (h.lines_are ∙ sym (feeds-take-add at 1 text ∙ ap (λ s. line_feeds (take at text) + line_feeds (take 1 s)) there ∙ ap (λ n. line_feeds (take at text) + n) (feeds-cons 34 []) ∙ omega arith))
    (ap (kind_of place) whole ∙ text-kind place t at within closed ∙ ap (λ b. let r : Result Kind LexFault = Ok (Text b) in r) inner)
  where
    no_more : (b s : List ℕ) → b ++ unescaped 0 (take 0 s) ≡ b
    no_more b s = append-nil b

    ends : (r : List ℕ) → text_rest 0 (34 ∷ r) ≡ Some r
    ends r = refl

pub text_open : (place : Place) (text bytes : List ℕ) (at lines : ℕ) → slice_index text 0 ≡ 34 → IsInText text at bytes lines → length text ≤ at → piece_tokens place (front_of text) ≡ Err (OpenString place)
unfolding text_rest
text_open place text bytes at lines opens h past =
    let t = drop 1 text in
    let is = quote-is text opens in
    let none : text_rest 0 t ≡ None = sym h.scan ∙ ap (text_rest 0) (drop_all at text past) in
    ap (λ s. piece_tokens place (front_of s)) is
    ∙ fault-front place (34 ∷ t) (34 ∷ t) (OpenString place) (front-open t none) (gap-false 34 t refl refl)
    (kind-open_text place (34 ∷ t) (word-false 34 t refl) (number-false 34 t refl refl) (text-is t ∙ ap ends_there none) (sign-false 34 t refl)
    (open_comment-false 34 t refl) (open-is t ∙ ap is_none none))
