-- Rows of plain colours.
use Rattle.std.proofs.Common.{◌≡◌, ◌≢◌, ℕ, ◌+◌, ◌<◌, ℤ, pos, ◌<ℤ◌, Option, Some, None, IfSome, List, length, get_or, set, subst, sym, ap, ◌∙◌, arith, below_more, get_or-set_other, get_or-set_same}
use Rattle.std.proofs.lemmas.List.{get_or_default}
use Rattle.fix_math.specs.Matrices.{row_at}
use Rattle.frame_trace.specs.Pictures.{View, IsPlain, IsColour, IsSmooth, difference}
use Rattle.frame_trace.specs.Ready.{AreKept, Compares, HasRoom, IsDeep, IsKept, StandsAt, StandsAround}
use Rattle.frame_trace.specs.declared.format.Antialias.{Antialias}
use Rattle.frame_trace.specs.declared.rows.Rows.{Rows}
use Rattle.frame_trace.specs.declared.rows.Span.{Span}

pub read_at : (colours : List (List ℤ)) (k : ℕ) (colour : List ℤ) → k < length colours → colour ≡ get_or colours k colour → colour ≡ row_at colours k
read_at colours k colour within read = read ∙ get_or_default colours k colour _ within

pub same_difference : (a b x y : List ℤ) → a ≡ x → b ≡ y → difference a b ≡ difference x y
same_difference a b x y e f = ap (λ c. difference c b) e ∙ ap (λ c. difference x c) f

-- one colour more of a row
pub kept_more : (v : View) (from row i : ℕ) (colours : List (List ℤ)) (colour : List ℤ) → i < length colours → ((k : ℕ) → k < i → IsKept v (from + k) row (row_at colours k))
    → IsKept v (from + i) row colour → (k : ℕ) → k < i + 1 → IsKept v (from + k) row (row_at (set colours i colour) k)
kept_more v from row i colours colour within kept here =
    below_more (λ k. IsKept v (from + k) row (row_at (set colours i colour) k)) i
    (λ k h. let ne : k ≢ i = omega arith in rw get_or-set_other (kept k h))
    (rw get_or-set_same here)

pub kept_colour : (v : View) (column row : ℕ) (colour result : List ℤ) → result ≡ colour → IsKept v column row colour → IsKept v column row result
kept_colour v column row colour result is kept = let Q : List ℤ → Type 0 = λ c. IsKept v column row c in subst Q (sym is) kept

-- ---- formats

pub colour_none : (o : Option Antialias) (v : View) (column row : ℕ) (colour : List ℤ) → o ≡ None → IsPlain v column row colour → IsColour o v column row colour
colour_none o v column row colour is plain = let Q : Option Antialias → Type 0 = λ p. IsColour p v column row colour in subst Q (sym is) plain

pub colour_some : (o : Option Antialias) (a : Antialias) (v : View) (column row : ℕ) (colour : List ℤ) → o ≡ Some a → IsSmooth v a column row colour → IsColour o v column row colour
colour_some o a v column row colour is smooth = let Q : Option Antialias → Type 0 = λ p. IsColour p v column row colour in subst Q (sym is) smooth

pub deep_some : (o : Option Antialias) (a : Antialias) → o ≡ Some a → IfSome o IsDeep → IsDeep a
deep_some o a is deep = let Q : Option Antialias → Type 0 = λ p. IfSome p IsDeep in subst Q is deep

pub compares_some : (o : Option Antialias) (a : Antialias) → o ≡ Some a → pos 0 <ℤ a.threshold → Compares o
compares_some o a is some = let Q : Option Antialias → Type 0 = λ p. Compares p in subst Q (sym is) some

-- ---- rooms

pub turned_room : (old new : Rows) → new.above ≡ old.here → new.here ≡ old.below → new.below ≡ old.above → (count : ℕ) → HasRoom old count → HasRoom new count
turned_room old new above here below count room = record {
  above = rw above room.here;
  here = rw here room.below;
  below = rw below room.above;
}

-- what stands around a row stands at the next one
pub turned_rows : (v : View) (span : Span) (row : ℕ) (old new : Rows) → new.above ≡ old.here → new.here ≡ old.below → StandsAround v span row old → StandsAt v span (row + 1) new
turned_rows v span row old new above here around = record {
  above = λ r next. let same : row ≡ r = omega arith in let Q : ℕ → Type 0 = λ n. AreKept v span n new.above.items in subst Q same (rw above around.here);
  here = λ below. rw here (around.below below);
}
