-- The longest front that is a number is the whole text, or the text is none.
use Rattle.std.proofs.Common.{◌≡◌, ◌≢◌, ℕ, ◌<◌, ◌≤◌, List, [], ◌∷◌, length, take, true, false, refl, sym, ap, ◌∙◌, subst, arith, take_all}
use Rattle.scene_lexer.specs.Spellings.{is_number, is_number_end, is_fraction, longest}
use Rattle.scene_lexer.proofs.LongestLemmas.{longest-passes, longest-above, longest-le}
use Rattle.scene_lexer.proofs.value.number_value.Goals as goal
use Rattle.scene_lexer.proofs.value.number_value.Goals.{then-length-eq0-via-then-length-eq0, then-length-eq0-via-else-length-eq0+then-length-text}

whole : (n : ℕ) (s : List ℕ) → n ≡ longest is_number (length s) s → 0 < n → n ≡ length s → is_number s ≡ true
whole n s is some all =
    let passes : is_number (take (longest is_number (length s) s) s) ≡ true = longest-passes is_number (length s) s (subst (λ k. 0 < k) is some) in
    let same : take (longest is_number (length s) s) s ≡ s = ap (λ k. take k s) (sym is ∙ all) ∙ take_all (length s) s (omega arith) in
    subst (λ t. is_number t ≡ true) same passes

other : (n : ℕ) (s : List ℕ) → n ≡ longest is_number (length s) s → n ≢ length s → is_number s ≡ false
other n s is less =
    let le : longest is_number (length s) s ≤ length s = longest-le is_number (length s) s in
    let fails : is_number (take (length s) s) ≡ false = longest-above is_number (length s) (length s) s (omega arith) (omega arith) in
    subst (λ t. is_number t ≡ false) (take_all (length s) s (omega arith)) fails

number_empty : is_number [] ≡ false
unfolding is_number is_number_end is_fraction
number_empty = refl

none : (n : ℕ) (s : List ℕ) → n ≡ longest is_number (length s) s → n ≡ 0 → is_number s ≡ false
none n [] is zero = number_empty
none n (b ∷ s) is zero = other n (b ∷ s) is (omega arith)

pub returns-then-length-eq0 : goal.returns-then-length-eq0
returns-then-length-eq0 c =
    let s = c.args.text.now in
    elim c.then-length-eq0.branch [
      | then-length-eq0-via-then-length-eq0 w ↦ let e : is_number s ≡ false = none c.number_length-length.result s c.number_length-length.ensures.length w.if-length-eq0.true in rw e
      | then-length-eq0-via-else-length-eq0+then-length-text w ↦ let e : is_number s ≡ false = other c.number_length-length.result s c.number_length-length.ensures.length w.if-length-text.true in rw e
    ]

pub returns : goal.returns
returns c =
    let s = c.args.text.now in
    let e : is_number s ≡ true = whole c.number_length-length.result s c.number_length-length.ensures.length (omega arith) c.if-length-text.false in
    rw e c.value_of.ensures
