-- What a sink has once more bytes follow.
use Rattle.std.proofs.Common.{◌≡◌, ◌≤◌, ℕ, ◌+◌, List, [], ◌++◌, length, take, Option, Some, None, inl, inr, refl, sym, ap, ◌∙◌, subst, arith, length-append}
use Rattle.std.proofs.lemmas.List.{append-nil, append_assoc, take-append-le}
use Rattle.std.proofs.Math.Seq.{take-append-add, take-nil}
use Rattle.shelf.specs.Causes.{Rose}
use Rattle.shelf.specs.Stream.{with_bytes, GrewByFront, GrewByLess}
use Rattle.povfix.specs.Lines.{Says}

pub with_nothing : (told : Option (List ℕ)) → told ≡ with_bytes told []
with_nothing None = refl
with_nothing (Some bytes) = ap (λ b. Some b) (sym (append-nil bytes))

pub with_both : (told : Option (List ℕ)) (front rest : List ℕ) → with_bytes (with_bytes told front) rest ≡ with_bytes told (front ++ rest)
with_both None front rest = refl
with_both (Some bytes) front rest = ap (λ b. Some b) (append_assoc bytes front rest)

pub rose_from : (a b n : ℕ) → a ≤ b → Rose b n → Rose a n
rose_from a b n le rose = omega (arith, le, rose)

pub rose_to : (a b n : ℕ) → Rose a b → b ≤ n → Rose a n
rose_to a b n rose le = omega (arith, rose, le)

-- a part of what follows is one of the whole
front_behind : (before now : Option (List ℕ)) (front rest : List ℕ) → GrewByFront (with_bytes before front) now rest → GrewByFront before now (front ++ rest)
front_behind before now front rest grew = record {
  count = length front + grew.count;
  within = omega (arith, length-append front rest, grew.within);
  grown = grew.grown ∙ with_both before front (take grew.count rest) ∙ ap (with_bytes before) (sym (take-append-add front rest grew.count));
}

-- bytes that follow others
pub says_behind : (before mid now : Option (List ℕ)) (fb fm fn : ℕ) (front rest : List ℕ) → mid ≡ with_bytes before front → fb ≤ fm → Says mid now fm fn rest → Says before now fb fn (front ++ rest)
says_behind before mid now fb fm fn front rest is later (inl all) = inl (all ∙ ap (λ told. with_bytes told rest) is ∙ with_both before front rest)
says_behind before mid now fb fm fn front rest is later (inr part) = inr (rose_from fb fm fn later part.0, front_behind before now front rest (subst (λ told. GrewByFront told now rest) is part.1))

pub says_same : (before now : Option (List ℕ)) (fb fn : ℕ) (a b : List ℕ) → a ≡ b → Says before now fb fn a → Says before now fb fn b
says_same before now fb fn a b same says = subst (Says before now fb fn) same says

-- a proper part of the first bytes is a part of all
less_front : (before now : Option (List ℕ)) (front rest : List ℕ) → GrewByLess before now front → GrewByFront before now (front ++ rest)
less_front before now front rest grew = record {
  count = grew.count;
  within = omega (arith, length-append front rest, grew.within);
  grown = grew.grown ∙ ap (with_bytes before) (sym (take-append-le grew.count front rest (omega (arith, grew.within))));
}

pub says_less : (before now : Option (List ℕ)) (fb fn : ℕ) (front rest : List ℕ) → Rose fb fn → GrewByLess before now front → Says before now fb fn (front ++ rest)
says_less before now fb fn front rest rose grew = inr (rose, less_front before now front rest grew)

-- nothing was said
pub says_nothing : (before now : Option (List ℕ)) (fb fn : ℕ) (bytes : List ℕ) → bytes ≡ [] → Says before now fb fn bytes → now ≡ before
says_nothing before now fb fn bytes none (inl all) = all ∙ ap (with_bytes before) none ∙ sym (with_nothing before)
says_nothing before now fb fn bytes none (inr part) = part.1.grown ∙ ap (with_bytes before) (nothing_of bytes none part.1.count) ∙ sym (with_nothing before)
  where
    nothing_of : (bytes : List ℕ) → bytes ≡ [] → (count : ℕ) → take count bytes ≡ []
    nothing_of bytes none count = ap (take count) none ∙ take-nil count

pub less_at : (before before' now : Option (List ℕ)) (bytes : List ℕ) → before ≡ before' → GrewByLess before now bytes → GrewByLess before' now bytes
less_at before before' now bytes same grew = subst (λ told. GrewByLess told now bytes) same grew
