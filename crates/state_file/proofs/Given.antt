-- Loops over the blocks of a commit.
use Rattle.std.proofs.Common.{ℕ, ◌+◌, ◌<◌, ◌≤◌, ◌≡◌, ◌≢◌, ◌⊎◌, List, length, Some, None, sym, ◌∙◌, subst, inl, inr, ap, arith, set, slice_index}
use Rattle.std.proofs.lemmas.Bool.{cases_lt, cases_eq}
use Rattle.std.proofs.lemmas.List.{get_or-set_same, get_or-set_other}
use Rattle.std.proofs.lemmas.Option.{slice_get_cases}
use Rattle.state_file.specs.declared.block.DoneBlock.{DoneBlock}
use Rattle.state_file.specs.declared.mark.Mark.{Mark}
use Rattle.state_file.specs.declared.mark.Mark.TheVariants.{Shut}
use Rattle.state_file.specs.Blocks.{IsAt, IsNamed, Marks, AreThere, AreOpened, PutsShut, OpensGate, AreBlocks, AreTrue, IsTrueBlock, HasBytes}
use Rattle.state_file.specs.Layout.{Layout}
use Rattle.state_file.specs.Marks.{mark_at}

-- the first so many blocks have the mark
pub record MarksUpTo (mark : Mark) (given : List DoneBlock) (n : ℕ) (old now : List Mark) : Type 0 where
  pub named : (j : ℕ) (block : DoneBlock) → j < n → IsAt given j block → mark_at now block.index ≡ mark
  pub others : (b : ℕ) → (IsNamed given b × (mark_at now b ≡ mark)) ⊎ (mark_at now b ≡ mark_at old b)

-- what stands at one place of a list is one thing
pub one_at : (given : List DoneBlock) (j : ℕ) (x y : DoneBlock) → IsAt given j x → IsAt given j y → x ≡ y
one_at given j x y p q = let e : Some x ≡ Some y = sym p ∙ q in cc

pub marks_more : (mark : Mark) (given : List DoneBlock) (n : ℕ) (block : DoneBlock) (old now new : List Mark)
    → IsAt given n block → new ≡ set now block.index mark → block.index < length now
    → MarksUpTo mark given n old now → MarksUpTo mark given (n + 1) old new
marks_more mark given n block old now new at e within m =
    let here : mark_at new block.index ≡ mark =
    ap (λ x. mark_at x block.index) e ∙ get_or-set_same now block.index mark Shut within in
    let there : (b : ℕ) → b ≢ block.index → mark_at new b ≡ mark_at now b = λ b ne.
    ap (λ x. mark_at x b) e ∙ get_or-set_other now block.index b mark Shut ne in
    record {
      named = λ j x hj xat. elim (cases_eq x.index block.index) [
        | inl i ↦ ap (λ q. mark_at new q) i ∙ here
        | inr ne ↦ elim (cases_lt j n) [
          | inl lt ↦ there x.index ne ∙ m.named j x lt xat
          | inr ge ↦
              let q : j ≡ n = omega arith in
              let same : x ≡ block = one_at given n x block (subst (λ i. IsAt given i x) q xat) at in
              absurd (ne (ap (λ y. y.index) same))
        ]
      ];
      others = λ b. elim (cases_eq b block.index) [
        | inl i ↦ inl ((n, block, at, sym i), ap (λ q. mark_at new q) i ∙ here)
        | inr ne ↦ elim (m.others b) [
          | inl w ↦ inl (w.0, there b ne ∙ w.1)
          | inr w ↦ inr (there b ne ∙ w)
        ]
      ];
    }

-- one block's pixels more
pub there_more : (l : Layout) (marks : List Mark) (given : List DoneBlock) (n : ℕ) (block : DoneBlock) (d c : List ℕ)
    → AreBlocks l given → IsAt given n block → PutsShut l marks block d c → AreThere l marks given n d
    → AreThere l marks given (n + 1) c
there_more l marks given n block d c ok at p before = λ j x hj xat shut. elim (cases_lt j n) [
  | inl lt ↦ λ k hk.
      let ne : x.index ≢ block.index = λ e. let same : j ≡ n = ok.once j n x block xat at e in absurd (omega arith) in
      p.others x.index k (ok.index j x xat) ne hk ∙ before j x lt xat shut k hk
  | inr ge ↦
      let q : j ≡ n = omega arith in
      let same : block ≡ x = one_at given n block x at (subst (λ i. IsAt given i x) q xat) in
      let shut' : mark_at marks block.index ≡ Shut = subst (λ y. mark_at marks y.index ≡ Shut) (sym same) shut in
      subst (λ y. HasBytes l y c) same (p.has shut')
]

-- one gate more
pub opened_more : (l : Layout) (given : List DoneBlock) (n : ℕ) (block : DoneBlock) (d c : List ℕ)
    → AreBlocks l given → IsAt given n block → OpensGate l block.index d c → AreOpened l given n d → AreOpened l given (n + 1) c
opened_more l given n block d c ok at p before = λ j x hj xat. elim (cases_eq x.index block.index) [
  | inl i ↦ λ z. p.opened (subst (λ q. slice_index c (l.gates + q) ≡ 0) i z)
  | inr ne ↦ λ z. elim (cases_lt j n) [
    | inl lt ↦ before j x lt xat (sym (p.others x.index (ok.index j x xat) ne) ∙ z)
    | inr ge ↦
        let q : j ≡ n = omega arith in
        let same : x ≡ block = one_at given n x block (subst (λ i. IsAt given i x) q xat) at in
        absurd (ne (ap (λ y. y.index) same))
  ]
]

-- what a place of the list has stands below its end
pub at_below : (given : List DoneBlock) (j : ℕ) (x : DoneBlock) → IsAt given j x → j < length given
at_below given j x e = elim (slice_get_cases given j).1 [
  | inl w ↦ w.1
  | inr w ↦ let no : Some x ≡ None = sym e ∙ w.1 in cc
]

-- at the end of the loop all have come
pub marks_all : (mark : Mark) (given : List DoneBlock) (n : ℕ) (old now : List Mark) → length given ≤ n
    → MarksUpTo mark given n old now → Marks mark given old now
marks_all mark given n old now h m = record {
  named = λ j x at. m.named j x (omega (arith, at_below given j x at)) at;
  others = m.others;
}

-- where no picture is named nothing is asked
pub none_true : (l : Layout) (given : List DoneBlock) → AreTrue l given None
none_true l given = λ p e. let no : None ≡ Some p = e in cc

-- one block of the picture more
pub here_more : (l : Layout) (given : List DoneBlock) (n : ℕ) (block : DoneBlock) (d c : List ℕ)
    → AreBlocks l given → IsAt given n block → IsTrueBlock l c block
    → ((b k : ℕ) → b < l.count → b ≢ block.index → k < l.size b → slice_index c (l.spot b k) ≡ slice_index d (l.spot b k))
    → ((j : ℕ) (x : DoneBlock) → j < n → IsAt given j x → IsTrueBlock l d x)
    → (j : ℕ) (x : DoneBlock) → j < n + 1 → IsAt given j x → IsTrueBlock l c x
here_more l given n block d c ok at here others before j x hj xat = elim (cases_lt j n) [
  | inl lt ↦ λ k hk.
      let ne : x.index ≢ block.index = λ e. let same : j ≡ n = ok.once j n x block xat at e in absurd (omega arith) in
      before j x lt xat k hk ∙ sym (others x.index k (ok.index j x xat) ne hk)
  | inr ge ↦
      let q : j ≡ n = omega arith in
      let same : block ≡ x = one_at given n block x at (subst (λ i. IsAt given i x) q xat) in
      subst (λ y. IsTrueBlock l c y) same here
]
