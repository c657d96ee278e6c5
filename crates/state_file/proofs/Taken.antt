-- Taking over the blocks of a file.
use Rattle.std.proofs.Common.{ℕ, ◌+◌, ◌<◌, ◌≡◌, ◌≢◌, List, length, sym, ◌∙◌, subst, inl, inr, ap, arith, set, slice_index}
use Rattle.std.proofs.lemmas.Bool.{cases_lt, cases_eq}
use Rattle.std.proofs.lemmas.List.{get_or-set_same, get_or-set_other}
use Rattle.state_file.specs.declared.mark.Mark.{Mark}
use Rattle.state_file.specs.declared.mark.Mark.TheVariants.{Shut, Open}
use Rattle.state_file.specs.Layout.{Layout}
use Rattle.state_file.specs.Marks.{mark_at}
use Rattle.state_file.specs.Taking.{IsTaken}

pub taken_more : (l : Layout) (image : List ℕ) (n : ℕ) (m m' : List Mark) (p p' : List ℕ) → n < length m → n < l.count
    → (slice_index image (l.gates + n) ≡ 0 → m' ≡ m) → (slice_index image (l.gates + n) ≡ 0 → p' ≡ p)
    → (slice_index image (l.gates + n) ≢ 0 → m' ≡ set m n Open)
    → (slice_index image (l.gates + n) ≢ 0 → (k : ℕ) → k < l.size n → slice_index p' (l.spot n k) ≡ slice_index image (l.pixels n + k))
    → ((b k : ℕ) → b < l.count → b ≢ n → k < l.size b → slice_index p' (l.spot b k) ≡ slice_index p (l.spot b k))
    → IsTaken l image n m p → IsTaken l image (n + 1) m' p'
taken_more l image n m m' p p' long hn cm cp om here others t = elim (cases_eq (slice_index image (l.gates + n)) 0) [
  | inl z ↦ record {
    opened = λ b hb o. elim (cases_lt b n) [
      | inl lt ↦ ap (λ x. mark_at x b) (cm z) ∙ t.opened b lt o
      | inr ge ↦ let e : n ≡ b = omega arith in absurd (o (subst (λ x. slice_index image (l.gates + x) ≡ 0) e z))
    ];
    shut = λ b f. ap (λ x. mark_at x b) (cm z) ∙ t.shut b (λ lt. f (omega arith));
    shows = λ b k hb o hk. elim (cases_lt b n) [
      | inl lt ↦ ap (λ x. slice_index x (l.spot b k)) (cp z) ∙ t.shows b k lt o hk
      | inr ge ↦ let e : n ≡ b = omega arith in absurd (o (subst (λ x. slice_index image (l.gates + x) ≡ 0) e z))
    ];
    blank = λ b k hb f hk. ap (λ x. slice_index x (l.spot b k)) (cp z) ∙ t.blank b k hb (λ lt. f (omega arith)) hk;
  }
  | inr o ↦ record {
    opened = λ b hb ob. elim (cases_eq b n) [
      | inl e ↦ ap (λ x. mark_at m' x) e ∙ ap (λ x. mark_at x n) (om o) ∙ get_or-set_same m n Open Shut long
      | inr ne ↦ let lt : b < n = omega arith in ap (λ x. mark_at x b) (om o) ∙ get_or-set_other m n b Open Shut ne ∙ t.opened b lt ob
    ];
    shut = λ b f.
        let ne : b ≢ n = λ e. let h : b < n + 1 = omega arith in o (subst (λ x. slice_index image (l.gates + x) ≡ 0) e (f h)) in
        ap (λ x. mark_at x b) (om o) ∙ get_or-set_other m n b Open Shut ne ∙ t.shut b (λ lt. f (omega arith));
    shows = λ b k hb ob hk. elim (cases_eq b n) [
      | inl e ↦ subst (λ x. slice_index p' (l.spot x k) ≡ slice_index image (l.pixels x + k)) (sym e)
          (here o k (subst (λ x. k < l.size x) e hk))
      | inr ne ↦
          let lt : b < n = omega arith in
          others b k (omega arith) ne hk ∙ t.shows b k lt ob hk
    ];
    blank = λ b k hb f hk.
        let ne : b ≢ n = λ e. let h : b < n + 1 = omega arith in o (subst (λ x. slice_index image (l.gates + x) ≡ 0) e (f h)) in
        others b k hb ne hk ∙ t.blank b k hb (λ lt. f (omega arith)) hk;
  }
]
