-- Two rows of strikes that are equal have the same first one.
use Rattle.std.proofs.Common.{ℕ, ◌<◌, ◌≤◌, ◌≡◌, Bool, Option, Some, None, IfSome, IfNone, sym, ◌∙◌, arith}
use Rattle.csg_hits.specs.declared.search.Strike.{Strike}
use Rattle.csg_hits.specs.Outlooks.{IsFirstIn, IsQuiet}

pub same_first : (v w : ℕ → ℕ → Bool) (from end : ℕ) → ((t : ℕ) → from ≤ t → t < end → (n : ℕ) → w t n ≡ v t n) → (o : Option Strike) → IfSome o (IsFirstIn v from end) → IfSome o (IsFirstIn w from end)
same_first v w from end e None h = tt
same_first v w from end e (Some k) h = record {
  low = h.low;
  high = h.high;
  struck = (e k.t h.low h.high k.leaf ∙ h.struck.0, λ m q. h.struck.1 m (sym (e k.t h.low h.high m) ∙ q));
  before = λ s a b n. e s a (omega (arith, h.high)) n ∙ h.before s a b n;
}

pub same_quiet : (v w : ℕ → ℕ → Bool) (from end : ℕ) → ((t : ℕ) → from ≤ t → t < end → (n : ℕ) → w t n ≡ v t n) → (o : Option Strike) → IfNone o (IsQuiet v from end) → IfNone o (IsQuiet w from end)
same_quiet v w from end e (Some k) h = tt
same_quiet v w from end e None h = λ s a b n. e s a b n ∙ h s a b n

pub where_none : {A : Type 0} (o : Option A) (Q : Type 0) → Q → IfNone o Q
where_none None Q q = q
where_none (Some x) Q q = tt
