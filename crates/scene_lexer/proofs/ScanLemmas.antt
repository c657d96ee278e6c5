-- What follows the quote that ends a text, and the mark that ends a comment: in a front of a text, and in a longer one.
use Rattle.std.proofs.Common.{◌≡◌, ℕ, zero, suc, ◌+◌, ◌-◌, ◌<◌, ◌≤◌, Bool, true, false, cond, ◌||◌, ◌==◌, List, [], ◌∷◌, ◌++◌, length, take, drop, refl, sym, ap, ◌∙◌, subst, arith, inl, inr, Option, Some, None, is_none}
use Rattle.std.proofs.lemmas.Bool.{cases_Bool}
use Rattle.std.proofs.lemmas.List.{length-drop}
use Rattle.scene_lexer.specs.Spellings.{escape, escape_tail, text_rest, opens_comment, closes_comment, depth_after, mark_tail, comment_rest, ends_there}
use Rattle.scene_lexer.proofs.NumberLength.{and-false, not_empty-take, take-empty}

none-some : {t : List ℕ} → (let none : Option (List ℕ) = None in none) ≡ Some t → ⊥
none-some h = cc

-- texts
pub text_rest-less : (k : ℕ) (s t : List ℕ) → text_rest k s ≡ Some t → length t < length s
unfolding text_rest
text_rest-less zero [] t h = cc
text_rest-less (suc k) [] t h = cc
text_rest-less (suc k) (b ∷ s) t h = omega (arith, text_rest-less k s t h)
text_rest-less zero (b ∷ s) t h = elim (cases_Bool (b == 34)) [
  | inl e ↦
      let is : Some s ≡ Some t = subst (λ v. cond v (Some s) (text_rest (escape_tail (b ∷ s)) s) ≡ Some t) e h in
      let same : s ≡ t = cc is in
      omega (arith, ap length same)
  | inr e ↦ omega (arith, text_rest-less (escape_tail (b ∷ s)) s t (subst (λ v. cond v (Some s) (text_rest (escape_tail (b ∷ s)) s) ≡ Some t) e h))
]

pub escape_tail-one : (b : ℕ) → escape_tail (b ∷ []) ≡ 0
unfolding escape
escape_tail-one b = refl

pub escape_tail-same : (b c : ℕ) (s t : List ℕ) → escape_tail (b ∷ c ∷ s) ≡ escape_tail (b ∷ c ∷ t)
unfolding escape
escape_tail-same b c s t = refl

pub text_rest-more : (k : ℕ) (xs ys t : List ℕ) → text_rest k xs ≡ Some t → text_rest k (xs ++ ys) ≡ Some (t ++ ys)
unfolding text_rest
text_rest-more zero [] ys t h = cc
text_rest-more (suc k) [] ys t h = cc
text_rest-more (suc k) (b ∷ xs) ys t h = text_rest-more k xs ys t h
text_rest-more zero (b ∷ []) ys t h = elim (cases_Bool (b == 34)) [
  | inl e ↦
      let is : Some [] ≡ Some t = subst (λ v. cond v (Some []) None ≡ Some t) e h in
      let same : [] ≡ t = cc is in
      ap (λ v. cond v (Some ys) (text_rest (escape_tail (b ∷ ys)) ys)) e ∙ ap (λ l. Some (l ++ ys)) same
  | inr e ↦ absurd (omega (arith, text_rest-less 0 [] t (subst (λ v. cond v (Some []) None ≡ Some t) e h)))
]
text_rest-more zero (b ∷ c ∷ xs) ys t h = elim (cases_Bool (b == 34)) [
  | inl e ↦
      let is : Some (c ∷ xs) ≡ Some t = subst (λ v. cond v (Some (c ∷ xs)) (text_rest (escape_tail (b ∷ c ∷ xs)) (c ∷ xs)) ≡ Some t) e h in
      let same : c ∷ xs ≡ t = cc is in
      ap (λ v. cond v (Some (c ∷ (xs ++ ys))) (text_rest (escape_tail (b ∷ c ∷ (xs ++ ys))) (c ∷ (xs ++ ys)))) e ∙ ap (λ l. Some (l ++ ys)) same
  | inr e ↦
      ap (λ v. cond v (Some (c ∷ (xs ++ ys))) (text_rest (escape_tail (b ∷ c ∷ (xs ++ ys))) (c ∷ (xs ++ ys)))) e
      ∙ ap (λ k. text_rest k (c ∷ (xs ++ ys))) (escape_tail-same b c (xs ++ ys) xs)
      ∙ text_rest-more (escape_tail (b ∷ c ∷ xs)) (c ∷ xs) ys t (subst (λ v. cond v (Some (c ∷ xs)) (text_rest (escape_tail (b ∷ c ∷ xs)) (c ∷ xs)) ≡ Some t) e h)
]

text_rest-behind : (b : ℕ) (s : List ℕ) (n : ℕ) → n ≤ length s → text_rest (escape_tail (b ∷ s)) s ≡ Some (drop n s) → text_rest (escape_tail (b ∷ s)) (take n s) ≡ Some [] →
    text_rest (escape_tail (b ∷ take n s)) (take n s) ≡ Some []
text_rest-behind b s zero within h front = absurd (omega (arith, text_rest-less (escape_tail (b ∷ s)) s s h))
text_rest-behind b [] (suc n) within h front = absurd (omega arith)
text_rest-behind b (c ∷ s) (suc n) within h front = ap (λ k. text_rest k (c ∷ take n s)) (escape_tail-same b c (take n s) s) ∙ front

pub text_rest-front : (k : ℕ) (s : List ℕ) (n : ℕ) → n ≤ length s → text_rest k s ≡ Some (drop n s) → text_rest k (take n s) ≡ Some []
unfolding text_rest
text_rest-front k s zero within h = absurd (omega (arith, text_rest-less k s s h))
text_rest-front zero [] (suc n) within h = cc
text_rest-front (suc k) [] (suc n) within h = cc
text_rest-front (suc k) (b ∷ s) (suc n) within h = text_rest-front k s n (omega arith) h
text_rest-front zero (b ∷ s) (suc n) within h = elim (cases_Bool (b == 34)) [
  | inl e ↦
      let is : Some s ≡ Some (drop n s) = subst (λ v. cond v (Some s) (text_rest (escape_tail (b ∷ s)) s) ≡ Some (drop n s)) e h in
      let same : s ≡ drop n s = cc is in
      let none : n ≡ 0 = omega (arith, length-drop n s, ap length same) in
      ap (λ v. cond v (Some (take n s)) (text_rest (escape_tail (b ∷ take n s)) (take n s))) e ∙ ap (λ m. Some (take m s)) none
  | inr e ↦
      ap (λ v. cond v (Some (take n s)) (text_rest (escape_tail (b ∷ take n s)) (take n s))) e
      ∙ text_rest-behind b s n (omega arith) (subst (λ v. cond v (Some s) (text_rest (escape_tail (b ∷ s)) s) ≡ Some (drop n s)) e h)
      (text_rest-front (escape_tail (b ∷ s)) s n (omega arith) (subst (λ v. cond v (Some s) (text_rest (escape_tail (b ∷ s)) s) ≡ Some (drop n s)) e h))
]

-- comments
pub opens-one : (b : ℕ) → opens_comment (b ∷ []) ≡ false
opens-one b = and-false (47 == b)

pub closes-one : (b : ℕ) → closes_comment (b ∷ []) ≡ false
closes-one b = and-false (42 == b)

mark_tail-one : (b : ℕ) → mark_tail (b ∷ []) ≡ 0
mark_tail-one b = ap (λ v. cond (v || closes_comment (b ∷ [])) 1 0) (opens-one b) ∙ ap (λ v. cond v 1 0) (closes-one b)

depth_after-one : (depth b : ℕ) → depth_after depth (b ∷ []) ≡ suc depth
depth_after-one depth b =
    ap (λ v. cond v (suc (suc depth)) (cond (closes_comment (b ∷ [])) depth (suc depth))) (opens-one b)
    ∙ ap (λ v. cond v depth (suc depth)) (closes-one b)

-- at the end of a list nothing is closed
comment_rest-end : (depth b : ℕ) → comment_rest (mark_tail (b ∷ [])) (depth_after depth (b ∷ [])) [] ≡ None
unfolding comment_rest
comment_rest-end depth b =
    ap (λ k. comment_rest k (depth_after depth (b ∷ [])) []) (mark_tail-one b) ∙ ap (λ d. comment_rest 0 d []) (depth_after-one depth b)

pub comment_rest-le : (k d : ℕ) (s t : List ℕ) → comment_rest k d s ≡ Some t → length t + k ≤ length s
unfolding comment_rest
comment_rest-le zero zero s t h = let same : s ≡ t = cc h in omega (arith, ap length same)
comment_rest-le (suc k) d [] t h = cc
comment_rest-le (suc k) d (b ∷ s) t h = omega (arith, comment_rest-le k d s t h)
comment_rest-le zero (suc d) [] t h = cc
comment_rest-le zero (suc d) (b ∷ s) t h = omega (arith, comment_rest-le (mark_tail (b ∷ s)) (depth_after d (b ∷ s)) s t h)

pub comment_rest-more : (k d : ℕ) (xs ys t : List ℕ) → comment_rest k d xs ≡ Some t → comment_rest k d (xs ++ ys) ≡ Some (t ++ ys)
unfolding comment_rest
comment_rest-more zero zero xs ys t h = let same : xs ≡ t = cc h in ap (λ l. Some (l ++ ys)) same
comment_rest-more (suc k) d [] ys t h = cc
comment_rest-more (suc k) d (b ∷ xs) ys t h = comment_rest-more k d xs ys t h
comment_rest-more zero (suc d) [] ys t h = cc
comment_rest-more zero (suc d) (b ∷ []) ys t h =
    let none : None ≡ Some t = sym (comment_rest-end d b) ∙ h in absurd (none-some none)
comment_rest-more zero (suc d) (b ∷ c ∷ xs) ys t h = comment_rest-more (mark_tail (b ∷ c ∷ xs)) (depth_after d (b ∷ c ∷ xs)) (c ∷ xs) ys t h

comment_rest-less : (d : ℕ) (s t : List ℕ) → comment_rest 0 (suc d) s ≡ Some t → length t < length s
unfolding comment_rest
comment_rest-less d [] t h = cc
comment_rest-less d (b ∷ s) t h = omega (arith, comment_rest-le (mark_tail (b ∷ s)) (depth_after d (b ∷ s)) s t h)

no_mark : (opens closes : Bool) (d : ℕ) → (let tail : ℕ = cond (opens || closes) 1 0 in tail) ≡ 0 → cond opens (suc (suc d)) (cond closes d (suc d)) ≡ suc d
no_mark true closes d h = absurd (omega arith)
no_mark false true d h = absurd (omega arith)
no_mark false false d h = refl

comment_rest-behind : (b d : ℕ) (s : List ℕ) (n : ℕ) → n ≤ length s → comment_rest (mark_tail (b ∷ s)) (depth_after d (b ∷ s)) s ≡ Some (drop n s) →
    comment_rest (mark_tail (b ∷ s)) (depth_after d (b ∷ s)) (take n s) ≡ Some [] →
    comment_rest (mark_tail (b ∷ take n s)) (depth_after d (b ∷ take n s)) (take n s) ≡ Some []
comment_rest-behind b d s zero within h front =
    let no_tail : mark_tail (b ∷ s) ≡ 0 = omega (arith, comment_rest-le (mark_tail (b ∷ s)) (depth_after d (b ∷ s)) s s h) in
    let here : comment_rest 0 (suc d) s ≡ Some s =
    ap (λ e. comment_rest 0 e s) (sym (no_mark (opens_comment (b ∷ s)) (closes_comment (b ∷ s)) d no_tail))
    ∙ ap (λ k. comment_rest k (depth_after d (b ∷ s)) s) (sym no_tail) ∙ h in
    absurd (omega (arith, comment_rest-less d s s here))
comment_rest-behind b d [] (suc n) within h front = absurd (omega arith)
comment_rest-behind b d (c ∷ s) (suc n) within h front = front

pub comment_rest-front : (k d : ℕ) (s : List ℕ) (n : ℕ) → n ≤ length s → comment_rest k d s ≡ Some (drop n s) → comment_rest k d (take n s) ≡ Some []
unfolding comment_rest
comment_rest-front zero zero s n within h =
    let same : s ≡ drop n s = cc h in
    let none : n ≡ 0 = omega (arith, length-drop n s, ap length same) in
    ap (λ m. Some (take m s)) none
comment_rest-front (suc k) d s zero within h = absurd (omega (arith, comment_rest-le (suc k) d s s h))
comment_rest-front (suc k) d [] (suc n) within h = cc
comment_rest-front (suc k) d (b ∷ s) (suc n) within h = comment_rest-front k d s n (omega arith) h
comment_rest-front zero (suc d) [] n within h = cc
comment_rest-front zero (suc d) (b ∷ s) zero within h = absurd (omega (arith, comment_rest-le (mark_tail (b ∷ s)) (depth_after d (b ∷ s)) s (b ∷ s) h))
comment_rest-front zero (suc d) (b ∷ s) (suc n) within h =
    comment_rest-behind b d s n (omega arith) h (comment_rest-front (mark_tail (b ∷ s)) (depth_after d (b ∷ s)) s n (omega arith) h)

-- what such a scan says of a text and its fronts
pub record IsScan (scan : List ℕ → Option (List ℕ)) : Type 0 where
  pub more : (xs ys t : List ℕ) → scan xs ≡ Some t → scan (xs ++ ys) ≡ Some (t ++ ys)
  pub front : (s : List ℕ) (n : ℕ) → n ≤ length s → scan s ≡ Some (drop n s) → scan (take n s) ≡ Some []

pub text_scan : IsScan (text_rest 0)
text_scan = record { more = text_rest-more 0; front = text_rest-front 0 }

pub comment_scan : IsScan (comment_rest 0 1)
comment_scan = record { more = comment_rest-more 0 1; front = comment_rest-front 0 1 }

take-split : (n j : ℕ) (s : List ℕ) → n ≤ j → take j s ≡ take n s ++ take (j - n) (drop n s)
take-split zero j s h = let e : j - 0 ≡ j = omega arith in ap (λ k. take k s) (sym e)
take-split (suc n) zero s h = absurd (omega arith)
take-split (suc n) (suc j) [] h = sym (take-empty (suc j - suc n))
take-split (suc n) (suc j) (b ∷ s) h = let e : suc j - suc n ≡ j - n = omega arith in ap (λ t. b ∷ t) (take-split n j s (omega arith) ∙ ap (λ k. take n s ++ take k (drop n s)) (sym e))

-- ended at the last byte, or not at all
abbrev pub ends_or_open : (List ℕ → Option (List ℕ)) → List ℕ → Bool
ends_or_open scan s = ends_there (scan s) || is_none (scan s)

pub scan-at : (scan : List ℕ → Option (List ℕ)) → IsScan scan → (s : List ℕ) (n : ℕ) → n ≤ length s → scan s ≡ Some (drop n s) → ends_there (scan (take n s)) ≡ true
scan-at scan is s n within h = ap ends_there (is.front s n within h)

pub scan-above : (scan : List ℕ → Option (List ℕ)) → IsScan scan → (s : List ℕ) (n j : ℕ) → n < j → j ≤ length s → scan s ≡ Some (drop n s) → ends_or_open scan (take j s) ≡ false
scan-above scan is s n j below within h =
    let e : scan (take j s) ≡ Some (take (j - n) (drop n s)) =
    ap scan (take-split n j s (omega arith)) ∙ is.more (take n s) (take (j - n) (drop n s)) [] (is.front s n (omega arith) h) in
    ap (λ o. ends_there o || is_none o) e
    ∙ ap (λ v. v || false) (not_empty-take (j - n) (drop n s) (omega arith) (omega (arith, length-drop n s)))
