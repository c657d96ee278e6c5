-- A search that asks a piece, and one that goes on, and on again.
use lib.Dec.{eqb}
use Rattle.std.proofs.Common.{ℕ, ◌+◌, ◌<◌, ◌≤◌, ◌≡◌, ◌&&◌, ◌||◌, Bool, true, false, Option, Some, None, List, [], ◌∷◌, zero, suc, ◌⊎◌, IfSome, slice_get, nat_eq, nat_lt, refl, ap, sym, subst, ◌∙◌, ⊎_elim, inl, inr, arith}
use Rattle.std.proofs.Math.Nat.{eq-or-lt_of_le}
use Rattle.std.proofs.lemmas.Bool.{and_from, and_parts, eq-eqb, eqb-true, false≢true, ltb-true, or_cases, or_left, or_right, cases_lt}
use Rattle.std.proofs.lemmas.Option.{none-some, same_Some}
use Rattle.shapes.specs.declared.ray.Ray.{Ray}
use Rattle.csg_hits.specs.declared.asking.Found.{Found}
use Rattle.csg_hits.specs.declared.asking.Search.{Search}
use Rattle.csg_hits.specs.declared.piece.Piece.{Piece}
use Rattle.csg_hits.specs.Outlooks.{IsFirstIn, IsQuiet}
use Rattle.csg_hits.specs.Pieces.{Pieces, any_strikes, is_piece_struck, owner, owner_of, piece_struck, strikes_for, strikes_of}
use Rattle.csg_hits.specs.Searches.{IsAsked, IsBeaten, IsFurther, IsStrike, IsWith, is_before}
use Rattle.csg_hits.specs.Sides.{Crossing}
use Rattle.csg_hits.specs.Surfaces.{leaf_on}

-- ---- going on

strike_over : (s : Pieces) (a b : Search) (found : Found) → IsFurther s a b → IsStrike s b found → IsStrike s a found
strike_over s a b found f h = record {
  low = omega (arith, h.low, f.from);
  high = omega (arith, h.high, f.end);
  struck = let P : Ray → Type 0 = λ x. any_strikes (leaf_on s.leaves x found.strike.t) a.shadow found.object found.strike.leaf s.pieces ≡ true in
      let Q : Bool → Type 0 = λ x. any_strikes (leaf_on s.leaves b.path.ray found.strike.t) x found.object found.strike.leaf s.pieces ≡ true in
      subst P f.ray (subst Q f.shadow h.struck);
}

pub further : (s : Pieces) (a b c : Search) → IsFurther s a b → IsFurther s b c → IsFurther s a c
further s a b c f g = record {
  ray = g.ray ∙ f.ray;
  from = g.from ∙ f.from;
  shadow = g.shadow ∙ f.shadow;
  end = omega (arith, f.end, g.end);
  asked = λ piece h. g.asked piece (f.asked piece h);
  none = λ e. let k = g.none e in let m = f.none k.0 in (m.0, k.1 ∙ m.1);
  found = λ x e. ⊎_elim (λ k. f.found x k) (λ k. inr (strike_over s a b x f k)) (g.found x e);
}

-- ---- one piece more

-- the first strike of a piece that a search looks for
pub record IsFirst (s : Pieces) (search : Search) (piece : ℕ) (found : Found) : Type 0 where
  pub object : found.object ≡ owner s piece
  pub first : IsFirstIn (λ t. is_piece_struck s search.path.ray search.shadow t piece) search.from search.path.end found.strike

-- the piece's strike is one of its object
own_strike : (s : Pieces) (leaf : ℕ → Crossing) (shadow : Bool) (n piece object : ℕ) (o : Option Piece) (xs : List Piece) → slice_get xs piece ≡ o → object ≡ owner_of o → piece_struck leaf shadow n o ≡ true → any_strikes leaf shadow object n xs ≡ true
own_strike s leaf shadow n piece object None xs at e h = absurd (false≢true h)
own_strike s leaf shadow n piece object (Some x) xs at e h = any_there xs piece at
  where
    passes : strikes_for leaf shadow object n x ≡ true
    passes = and_from (eqb object x.object) (strikes_of leaf shadow x n) (eq-eqb object x.object e) h

    any_there : (ys : List Piece) (k : ℕ) → slice_get ys k ≡ Some x → any_strikes leaf shadow object n ys ≡ true
    any_there [] k f = absurd (none-some x f)
    any_there (y ∷ ys) zero f =
        let P : Piece → Type 0 = λ z. strikes_for leaf shadow object n z ≡ true in
        or_left (strikes_for leaf shadow object n y) (any_strikes leaf shadow object n ys) (subst P (sym (same_Some y x f)) passes)
    any_there (y ∷ ys) (suc k) f = or_right (strikes_for leaf shadow object n y) (any_strikes leaf shadow object n ys) (any_there ys k f)

strike_of : (s : Pieces) (search : Search) (piece : ℕ) (found : Found) → IsFirst s search piece found → IsStrike s search found
strike_of s search piece found h = record {
  low = h.first.low;
  high = h.first.high;
  struck = own_strike s (leaf_on s.leaves search.path.ray found.strike.t) search.shadow found.strike.leaf piece found.object (slice_get s.pieces piece) s.pieces refl h.object h.first.struck.0;
}

-- ---- which of two strikes comes first

never : (x y z : Bool) → ((x || y) || z) ≡ false → (x ≡ false) × (y ≡ false) × (z ≡ false)
never true y z e = absurd (false≢true (sym e))
never false true z e = absurd (false≢true (sym e))
never false false z e = (refl, refl, e)

not_less : (a b : ℕ) → nat_lt a b ≡ false → b ≤ a
not_less a b e = ⊎_elim
    (λ lt. let k : nat_lt a b ≡ true = grind arith in absurd (false≢true (sym e ∙ k)))
    (λ ge. ge)
    (cases_lt a b)

same_not_less : (a b c d : ℕ) → (nat_eq a b && nat_lt c d) ≡ false → a ≡ b → d ≤ c
same_not_less a b c d e same = let k : nat_eq a b ≡ true = grind arith in not_less c d (ap (λ (x : Bool). x && nat_lt c d) (sym k) ∙ e)

-- a strike that isn't before the best one
behind : (best found : Found) → is_before (Some best) found ≡ false → (best.strike.t ≤ found.strike.t) × (best.object ≤ found.object) × (found.object ≡ best.object → best.strike.leaf ≤ found.strike.leaf)
behind best found e =
    let m = never (nat_lt found.strike.t best.strike.t) (nat_lt found.object best.object) (nat_eq found.object best.object && nat_lt found.strike.leaf best.strike.leaf) e in
    (not_less found.strike.t best.strike.t m.0, not_less found.object best.object m.1, same_not_less found.object best.object found.strike.leaf best.strike.leaf m.2)

-- what the best one beats, one before it at the same number beats too
over : (best found : Found) (object leaf : ℕ) → found.strike.t ≡ best.strike.t → is_before (Some best) found ≡ true → best.object ≤ object → (object ≡ best.object → best.strike.leaf ≤ leaf)
    → (found.object ≤ object) × (object ≡ found.object → found.strike.leaf ≤ leaf)
over best found object leaf same e low least = ⊎_elim
    (λ h. ⊎_elim
    (λ k. absurd (let lt = ltb-true found.strike.t best.strike.t k in omega arith))
    (λ k. let lt = ltb-true found.object best.object k in (omega arith, λ q. absurd (omega arith)))
    (or_cases (nat_lt found.strike.t best.strike.t) (nat_lt found.object best.object) h))
    (λ h. let m = and_parts (nat_eq found.object best.object) (nat_lt found.strike.leaf best.strike.leaf) h in
    let q : found.object ≡ best.object = eqb-true found.object best.object m.0 in
    let lt = ltb-true found.strike.leaf best.strike.leaf m.1 in
    (omega arith, λ r. let l = least (r ∙ q) in omega arith))
    (or_cases (nat_lt found.strike.t best.strike.t || nat_lt found.object best.object) (nat_eq found.object best.object && nat_lt found.strike.leaf best.strike.leaf) e)

-- ---- a search with a piece's strike

bool : (b : Bool) → (b ≡ true) ⊎ (b ≡ false)
bool true = inl refl
bool false = inr refl

module _ (s : Pieces) (old new : Search) (piece : ℕ) (found : Found) (one : IsFirst s old piece found) (w : IsWith old found new) where
  -- what is struck for the new search is struck for the old one
  back : (k t leaf : ℕ) → is_piece_struck s new.path.ray new.shadow t k leaf ≡ true → is_piece_struck s old.path.ray old.shadow t k leaf ≡ true
  back k t leaf h =
      let R : Ray → Type 0 = λ r. is_piece_struck s r old.shadow t k leaf ≡ true in
      let S : Bool → Type 0 = λ d. is_piece_struck s new.path.ray d t k leaf ≡ true in
      subst R w.ray (subst S w.shadow h)

  -- the strike is at no higher number than the best one
  not_later : (best : Found) → old.best ≡ Some best → found.strike.t ≤ best.strike.t
  not_later best e =
      let P : Option Found → Type 0 = λ o. IfSome o (λ b. old.path.end ≡ b.strike.t + 1) in
      let k : old.path.end ≡ best.strike.t + 1 = subst P e old.ends in omega (arith, one.first.high)

  beaten_by : (o : Option Found) → old.best ≡ o → is_before o found ≡ true → (t object leaf : ℕ) → t < found.strike.t + 1 → IsBeaten o t object leaf → IsBeaten (Some found) t object leaf
  beaten_by None at e t object leaf lt h = absurd h
  beaten_by (Some best) at e t object leaf lt h =
      let late = not_later best at in
      let same : found.strike.t ≡ best.strike.t = omega (arith, h.0) in
      let m = over best found object leaf same e h.1 h.2 in
      (h.0 ∙ sym same, m.0, m.1)

  kept : (k : ℕ) → IsAsked s old k → IsAsked s new k
  kept k h = λ t leaf low lt struck. ⊎_elim
      (λ e. let P : Option Found → Type 0 = λ o. IsBeaten o t (owner s k) leaf in
      let far : t < found.strike.t + 1 = omega (arith, w.taken_end e) in
      subst P (sym (w.taken_best e)) (beaten_by old.best refl e t (owner s k) leaf far (h t leaf (omega (arith, w.from)) (omega (arith, one.first.high)) (back k t leaf struck))))
      (λ e. let P : Option Found → Type 0 = λ o. IsBeaten o t (owner s k) leaf in
      subst P (sym (w.left_best e)) (h t leaf (omega (arith, w.from)) (omega (arith, w.left_end e)) (back k t leaf struck)))
      (bool (is_before old.best found))

  pub further_with : IsFurther s old new
  further_with = record {
    ray = w.ray;
    from = w.from;
    shadow = w.shadow;
    end = ⊎_elim (λ e. omega (arith, w.taken_end e, one.first.high)) (λ e. omega (arith, w.left_end e)) (bool (is_before old.best found));
    asked = kept;
    none = λ n. ⊎_elim (λ e. absurd (none-some found (sym n ∙ w.taken_best e))) (λ e. (sym (w.left_best e) ∙ n, w.left_end e)) (bool (is_before old.best found));
    found = λ x at. ⊎_elim
        (λ e. let P : Found → Type 0 = λ y. IsStrike s old y in inr (subst P (same_Some found x (sym (w.taken_best e) ∙ at)) (strike_of s old piece found one)))
        (λ e. inl (sym (w.left_best e) ∙ at))
        (bool (is_before old.best found));
  }

  -- a strike of the piece isn't before its first one
  from_first : (t leaf : ℕ) → old.from ≤ t → is_piece_struck s old.path.ray old.shadow t piece leaf ≡ true → found.strike.t ≤ t
  from_first t leaf low h = ⊎_elim (λ lt. absurd (false≢true (sym (one.first.before t low lt leaf) ∙ h))) (λ ge. ge) (cases_lt t found.strike.t)

  least_leaf : (t leaf : ℕ) → t ≡ found.strike.t → is_piece_struck s old.path.ray old.shadow t piece leaf ≡ true → found.strike.leaf ≤ leaf
  least_leaf t leaf e h = let P : ℕ → Type 0 = λ u. is_piece_struck s old.path.ray old.shadow u piece leaf ≡ true in one.first.struck.1 leaf (subst P e h)

  left_over : (o : Option Found) → old.best ≡ o → is_before o found ≡ false → (t leaf : ℕ) → old.from ≤ t → t < old.path.end → is_piece_struck s old.path.ray old.shadow t piece leaf ≡ true → IsBeaten o t (owner s piece) leaf
  left_over None at e t leaf low lt h = absurd (false≢true (sym e))
  left_over (Some best) at e t leaf low lt h =
      let m = behind best found e in
      let P : Option Found → Type 0 = λ o. IfSome o (λ b. old.path.end ≡ b.strike.t + 1) in
      let k : old.path.end ≡ best.strike.t + 1 = subst P at old.ends in
      let ge = from_first t leaf low h in
      let same : t ≡ found.strike.t = omega (arith, m.0) in
      let l = least_leaf t leaf same h in
      (omega (arith, m.0), omega (arith, m.1, one.object), λ q. let r = m.2 (one.object ∙ q) in omega arith)

  pub asked_with : IsAsked s new piece
  asked_with = λ t leaf low lt struck.
      let h = back piece t leaf struck in
      let P : Option Found → Type 0 = λ o. IsBeaten o t (owner s piece) leaf in
      let begun : old.from ≤ t = omega (arith, w.from) in
      ⊎_elim
      (λ e. let ge = from_first t leaf begun h in
      let same : t ≡ found.strike.t = omega (arith, w.taken_end e) in
      let l = least_leaf t leaf same h in
      subst P (sym (w.taken_best e)) (same, omega (arith, one.object), λ q. l))
      (λ e. subst P (sym (w.left_best e)) (left_over old.best refl e t leaf begun (omega (arith, w.left_end e)) h))
      (bool (is_before old.best found))

-- a piece without a strike
pub asked_none : (s : Pieces) (search : Search) (piece : ℕ) → IsQuiet (λ t. is_piece_struck s search.path.ray search.shadow t piece) search.from search.path.end → IsAsked s search piece
asked_none s search piece quiet = λ t leaf low lt h. absurd (false≢true (sym (quiet t low lt leaf) ∙ h))

-- one piece more of all
pub one_more_asked : (s : Pieces) (old new : Search) (piece : ℕ) → IsFurther s old new → ((n : ℕ) → n < piece → IsAsked s old n) → IsAsked s new piece → (n : ℕ) → n < piece + 1 → IsAsked s new n
one_more_asked s old new piece f all now n lt =
    let P : ℕ → Type 0 = λ k. IsAsked s new k in
    let here : n ≡ piece → P n = λ e. subst P (sym e) now in
    let there : n < piece → P n = λ less. f.asked n (all n less) in
    let le : n ≤ piece = omega arith in
    ⊎_elim here there (eq-or-lt_of_le le)
