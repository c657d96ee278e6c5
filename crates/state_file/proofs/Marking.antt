-- What the marks may say after a sync.
use Rattle.std.proofs.Common.{ℕ, ◌+◌, ◌<◌, ◌≡◌, List, length, Option, sym, ◌∙◌, subst, inl, inr, ap, slice_index}
use Rattle.shelf.specs.Disk.{Images, SameContents, Within}
use Rattle.shelf.specs.Moments.{Passes}
use Rattle.state_file.specs.declared.block.DoneBlock.{DoneBlock}
use Rattle.state_file.specs.declared.mark.Mark.{Mark}
use Rattle.state_file.specs.declared.mark.Mark.TheVariants.{Shut, Ready, Open}
use Rattle.state_file.specs.Blocks.{IsAt, Marks, AreThere, AreTrue, AreOpened, AreMarked, AreClosed}
use Rattle.state_file.specs.Layout.{Layout}
use Rattle.state_file.specs.Marks.{Fits, mark_at, Rises}
use Rattle.state_file.specs.Order.{KeepsOrder, Steady}
use Rattle.state_file.proofs.Calls.{quiet_call}
use Rattle.state_file.proofs.Files.{mark_cases}
use Rattle.state_file.proofs.Given.{at_below}
use Rattle.state_file.proofs.Steps.{re_marked}

-- what is named and was closed is ready now, so marks rose
pub ready_rises : (given : List DoneBlock) (old new : List Mark) → AreClosed given old → Marks Ready given old new → Rises old new
ready_rises given old new closed m = record {
  shown = λ b s. elim (m.others b) [
    | inl w ↦ λ z. let no : Ready ≡ Shut = sym w.1 ∙ z in cc
    | inr e ↦ λ z. s (sym e ∙ z)
  ];
  opened = λ b o. elim (m.others b) [
    | inl w ↦ absurd (closed w.0.0 w.0.1 w.0.2 (ap (λ q. mark_at old q) w.0.3 ∙ o))
    | inr e ↦ e ∙ o
  ];
}

-- blocks whose pixels are there are ready
pub settled : (l : Layout) (truth : Option (List ℕ)) (given : List DoneBlock) (old new : List Mark) (c : List ℕ)
    → Marks Ready given old new → AreThere l old given (length given) c → AreTrue l given truth → Fits l truth old c → Fits l truth new c
settled l truth given old new c m there true f = record {
  file = f.file;
  shut = λ b hb z. elim (m.others b) [
    | inl w ↦ let no : Ready ≡ Shut = sym w.1 ∙ z in cc
    | inr e ↦ f.shut b hb (sym e ∙ z)
  ];
  opened = λ b hb o. elim (m.others b) [
    | inl w ↦ let no : Ready ≡ Open = sym w.1 ∙ o in cc
    | inr e ↦ f.opened b hb (sym e ∙ o)
  ];
  shown = λ b hb s. elim (m.others b) [
    | inr e ↦ f.shown b hb (λ z. s (e ∙ z))
    | inl w ↦ elim (mark_cases (mark_at old b)) [
      | inr was ↦ f.shown b hb was
      | inl shut ↦ λ p is k hk.
          let j : ℕ = w.0.0 in
          let block : DoneBlock = w.0.1 in
          let at : IsAt given j block = w.0.2 in
          let i : block.index ≡ b = w.0.3 in
          let hk' : k < l.size block.index = subst (λ q. k < l.size q) (sym i) hk in
          let shut' : mark_at old block.index ≡ Shut = ap (λ q. mark_at old q) i ∙ shut in
          let here : slice_index c (l.pixels block.index + k) ≡ slice_index block.pixels.items k =
          there j block (at_below given j block at) at shut' k hk' in
          let right : slice_index block.pixels.items k ≡ slice_index p (l.spot block.index k) = true p is j block at k hk' in
          let whole : slice_index c (l.pixels block.index + k) ≡ slice_index p (l.spot block.index k) = here ∙ right in
          subst (λ q. slice_index c (l.pixels q + k) ≡ slice_index p (l.spot q k)) i whole
    ]
  ];
}

-- ready blocks are opened, so marks rose
pub open_rises : (given : List DoneBlock) (old new : List Mark) → Marks Open given old new → Rises old new
open_rises given old new m = record {
  shown = λ b s. elim (m.others b) [
    | inl w ↦ λ z. let no : Open ≡ Shut = sym w.1 ∙ z in cc
    | inr e ↦ λ z. s (sym e ∙ z)
  ];
  opened = λ b o. elim (m.others b) [ inl w ↦ w.1 | inr e ↦ e ∙ o ];
}

-- ready blocks whose gates are open are open
pub finished : (l : Layout) (truth : Option (List ℕ)) (given : List DoneBlock) (old new : List Mark) (c : List ℕ)
    → Marks Open given old new → AreMarked Ready given old → AreOpened l given (length given) c → Fits l truth old c → Fits l truth new c
finished l truth given old new c m ready opened f = record {
  file = f.file;
  shut = λ b hb z. elim (m.others b) [
    | inl w ↦ let no : Open ≡ Shut = sym w.1 ∙ z in cc
    | inr e ↦ f.shut b hb (sym e ∙ z)
  ];
  opened = λ b hb o. elim (m.others b) [
    | inl w ↦ λ z. opened w.0.0 w.0.1 (at_below given w.0.0 w.0.1 w.0.2) w.0.2 (ap (λ q. slice_index c (l.gates + q)) w.0.3 ∙ z)
    | inr e ↦ f.opened b hb (sym e ∙ o)
  ];
  shown = λ b hb s. elim (m.others b) [
    | inr e ↦ f.shown b hb (λ z. s (e ∙ z))
    | inl w ↦ f.shown b hb (λ z. let no : Ready ≡ Shut = sym (ap (λ q. mark_at old q) (sym w.0.3) ∙ ready w.0.0 w.0.1 w.0.2) ∙ z in cc)
  ];
}

-- a sync that succeeds, and the marks that it allows
pub sync_call : {S : Type 0} (moment : S → ℕ) (images : S → Images) (name : List ℕ) (l : Layout)
    (P : Option (List ℕ) → Type 0) (before after : List Mark) (old new : S) (held now : List ℕ → Type 0)
    → Passes (moment old) (moment new) (images old) (images new)
    → SameContents (images old (moment old)) (images new (moment new))
    → Within now (images new (moment new) name) → ((c : List ℕ) → now c → held c)
    → Rises before after
    → ((truth : Option (List ℕ)) (c : List ℕ) → P truth → held c → Fits l truth before c → Fits l truth after c)
    → KeepsOrder moment images name l P before after old new
sync_call {S} moment images name l P before after old new held now p same durable back r f = λ truth first start t s.
    let s' : Steady moment images name l truth first start before new = quiet_call moment images name l before old new p same truth first start tt s in
    re_marked moment images name l truth first before after start new s' r (λ c i. f truth c t (back c (durable c i)) (s'.fits c i))
