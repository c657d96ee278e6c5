-- What a commit means for the pen.
use Rattle.std.proofs.Common.{ℕ, ◌+◌, ◌-◌, ◌^◌, ◌<◌, ◌≤◌, ◌≡◌, ◌≢◌, ◌⊎◌, ◌↔◌, List, Bool, true, false, Option, Some, None, refl, sym, ◌∙◌, subst, inl, inr, ap, arith, slice_index, min}
use Rattle.shelf.specs.Causes.{Rose}
use Rattle.shelf.specs.Disk.{Images}
use Rattle.shelf.specs.Moments.{Throughout, Under}
use Rattle.state_file.specs.declared.block.DoneBlock.{DoneBlock}
use Rattle.state_file.specs.declared.mark.Mark.{Mark}
use Rattle.state_file.specs.declared.mark.Mark.TheVariants.{Shut, Ready, Open}
use Rattle.state_file.specs.Blocks.{IsAt, IsNamed, IsTrueBlock, Marks, MarksOnly, AreTrue, AreClosed}
use Rattle.state_file.specs.Layout.{Layout}
use Rattle.state_file.specs.Marks.{Fits, mark_at, believed}
use Rattle.state_file.specs.Order.{IsSafe, Steady, KeepsOrder}
use Rattle.state_file.proofs.Calls.{fits_then}
use Rattle.state_file.proofs.Given.{none_true}
use Rattle.state_file.proofs.Steps.{started}

-- what agrees with any picture agrees with none
pub fits_none : (l : Layout) (truth : Option (List ℕ)) (marks : List Mark) (c : List ℕ) → Fits l truth marks c → Fits l None marks c
fits_none l truth marks c f = record {
  file = f.file;
  shut = f.shut;
  opened = f.opened;
  shown = λ b hb s p e. let no : None ≡ Some p = e in cc;
}

pub open_of : (m : Mark) → m ≢ Shut → m ≢ Ready → m ≡ Open
open_of Shut p q = absurd (p refl)
open_of Ready p q = absurd (q refl)
open_of Open p q = refl

-- a named block isn't known open
pub not_named : (given : List DoneBlock) (old : List Mark) → AreClosed given old → (b : ℕ) → mark_at old b ≡ Open → ¬ (IsNamed given b)
not_named given old closed b o = λ w. closed w.0 w.1 w.2 (ap (λ q. mark_at old q) w.3 ∙ o)

-- the file agrees with the new picture already, in the blocks that were known
pub fits_new : (l : Layout) (given : List DoneBlock) (marks : List Mark) (old new c : List ℕ)
    → ((b : ℕ) → mark_at marks b ≢ Ready) → AreClosed given marks
    → ((b k : ℕ) → b < l.count → ¬ (IsNamed given b) → k < l.size b → slice_index new (l.spot b k) ≡ slice_index old (l.spot b k))
    → Fits l (Some old) marks c → Fits l (Some new) marks c
fits_new l given marks old new c calm closed kept f = record {
  file = f.file;
  shut = f.shut;
  opened = f.opened;
  shown = λ b hb s p e k hk.
      let o : mark_at marks b ≡ Open = open_of (mark_at marks b) s (calm b) in
      let same : new ≡ p = cc in
      f.shown b hb s old refl k hk ∙ sym (kept b k hb (not_named given marks closed b o) hk) ∙ ap (λ x. slice_index x (l.spot b k)) same;
}

-- after a commit that succeeded
pub ok_fits : {S : Type 0} (moment : S → ℕ) (images : S → Images) (name name' : List ℕ) (l : Layout) (given : List DoneBlock)
    (a b : List Mark) (old new : S) (failed : Bool) (before after : List ℕ) → name' ≡ name
    → (failed ≡ false → (k : ℕ) → mark_at a k ≢ Ready) → AreClosed given a
    → ((d k : ℕ) → d < l.count → ¬ (IsNamed given d) → k < l.size d → slice_index after (l.spot d k) ≡ slice_index before (l.spot d k))
    → ((j : ℕ) (block : DoneBlock) → IsAt given j block → IsTrueBlock l after block)
    → ((c : List ℕ) → images old (moment old) name c → Fits l (believed failed before) a c)
    → KeepsOrder moment images name l (AreTrue l given) a b old new
    → (c : List ℕ) → images new (moment new) name' c → Fits l (believed failed after) b c
ok_fits moment images name name' l given a b old new true before after e calm closed kept here f k = λ c i.
    fits_then moment images name l (AreTrue l given) a b old new None (none_true l given) f k c
    (subst (λ n. images new (moment new) n c) e i)
ok_fits moment images name name' l given a b old new false before after e calm closed kept here f k = λ c i.
    fits_then moment images name l (AreTrue l given) a b old new (Some after)
    (λ p q j block at. let same : after ≡ p = cc in subst (λ x. IsTrueBlock l x block) same (here j block at))
    (λ d h. fits_new l given a before after d (calm refl) closed kept (f d h)) k c
    (subst (λ n. images new (moment new) n c) e i)

-- after one that failed
pub err_fits : {S : Type 0} (moment : S → ℕ) (images : S → Images) (name name' : List ℕ) (l : Layout) (given : List DoneBlock)
    (a b : List Mark) (old new : S) (truth : Option (List ℕ)) → name' ≡ name
    → ((c : List ℕ) → images old (moment old) name c → Fits l truth a c)
    → KeepsOrder moment images name l (AreTrue l given) a b old new
    → (c : List ℕ) → images new (moment new) name' c → Fits l None b c
err_fits moment images name name' l given a b old new truth e f k = λ c i.
    fits_then moment images name l (AreTrue l given) a b old new None (none_true l given) (λ d h. fits_none l truth a d (f d h)) k c
    (subst (λ n. images new (moment new) n c) e i)

-- at every moment of it
pub stays_safe : {S : Type 0} (moment : S → ℕ) (images : S → Images) (name : List ℕ) (l : Layout) (given : List DoneBlock)
    (a b : List Mark) (old new : S) (truth : Option (List ℕ))
    → ((c : List ℕ) → images old (moment old) name c → Fits l truth a c)
    → KeepsOrder moment images name l (AreTrue l given) a b old new
    → Throughout (moment old) (moment new) (images old) (images new) (Under name (IsSafe l None a b) (images old (moment old)))
stays_safe moment images name l given a b old new truth f k =
    (k None a old (none_true l given) (started moment images name l None a old (λ d h. fits_none l truth a d (f d h)))).moments

-- what is known after it
pub ok_known : (given : List DoneBlock) (old new : List Mark) → Marks Open given old new
    → (b : ℕ) → (mark_at new b ≡ Open) ↔ ((mark_at old b ≡ Open) ⊎ IsNamed given b)
ok_known given old new m b = (
  (λ o. elim (m.others b) [ inl w ↦ inr w.0 | inr e ↦ inl (sym e ∙ o) ]),
  (λ s. elim s [
    | inl o ↦ elim (m.others b) [ inl w ↦ w.1 | inr e ↦ e ∙ o ]
    | inr w ↦ sym (ap (λ q. mark_at new q) w.3) ∙ m.named w.0 w.1 w.2
  ]),
)

pub err_known : (given : List DoneBlock) (old new : List Mark) → AreClosed given old → MarksOnly Ready given old new
    → (b : ℕ) → (mark_at new b ≡ Open) ↔ (mark_at old b ≡ Open)
err_known given old new closed m b = (
  (λ o. elim (m b) [ inl w ↦ (let no : Ready ≡ Open = sym w.1 ∙ o in cc) | inr e ↦ sym e ∙ o ]),
  (λ o. elim (m b) [ inl w ↦ absurd (not_named given old closed b o w.0) | inr e ↦ e ∙ o ]),
)

-- the picture is blank where nothing is known
pub ok_blank : (l : Layout) (given : List DoneBlock) (old new : List Mark) (before after : List ℕ) → Marks Open given old new
    → ((d k : ℕ) → d < l.count → ¬ (IsNamed given d) → k < l.size d → slice_index after (l.spot d k) ≡ slice_index before (l.spot d k))
    → ((b k : ℕ) → b < l.count → mark_at old b ≢ Open → k < l.size b → slice_index before (l.spot b k) ≡ 0)
    → (b k : ℕ) → b < l.count → mark_at new b ≢ Open → k < l.size b → slice_index after (l.spot b k) ≡ 0
ok_blank l given old new before after m kept blank b k hb shut hk =
    let back = (ok_known given old new m b).1 in
    kept b k hb (λ w. shut (back (inr w))) hk ∙ blank b k hb (λ o. shut (back (inl o))) hk

-- the picture shows the true bytes of what is known
pub ok_shows : (l : Layout) (given : List DoneBlock) (old new : List Mark) (before after truth : List ℕ) → Marks Open given old new
    → AreClosed given old → AreTrue l given (Some truth)
    → ((j : ℕ) (block : DoneBlock) → IsAt given j block → IsTrueBlock l after block)
    → ((d k : ℕ) → d < l.count → ¬ (IsNamed given d) → k < l.size d → slice_index after (l.spot d k) ≡ slice_index before (l.spot d k))
    → ((b k : ℕ) → b < l.count → mark_at old b ≡ Open → k < l.size b → slice_index before (l.spot b k) ≡ slice_index truth (l.spot b k))
    → (b k : ℕ) → b < l.count → mark_at new b ≡ Open → k < l.size b → slice_index after (l.spot b k) ≡ slice_index truth (l.spot b k)
ok_shows l given old new before after truth m closed right here kept shows b k hb o hk = elim ((ok_known given old new m b).0 o) [
  | inl was ↦ kept b k hb (not_named given old closed b was) hk ∙ shows b k hb was hk
  | inr w ↦
      let hk' : k < l.size w.1.index = subst (λ q. k < l.size q) (sym w.3) hk in
      let a : slice_index w.1.pixels.items k ≡ slice_index after (l.spot w.1.index k) = here w.0 w.1 w.2 k hk' in
      let t : slice_index w.1.pixels.items k ≡ slice_index truth (l.spot w.1.index k) = right truth refl w.0 w.1 w.2 k hk' in
      let e : slice_index after (l.spot w.1.index k) ≡ slice_index truth (l.spot w.1.index k) = sym a ∙ t in
      subst (λ q. slice_index after (l.spot q k) ≡ slice_index truth (l.spot q k)) w.3 e
]

pub rose_on : (a b c : ℕ) → Rose a b → b ≤ c → Rose a c
rose_on a b c r h = let r' : min (a + 1) (2 ^ 64 - 1) ≤ b = r in omega arith

pub rose_from : (a b c : ℕ) → a ≤ b → Rose b c → Rose a c
rose_from a b c h r = let r' : min (b + 1) (2 ^ 64 - 1) ≤ c = r in omega arith

-- the run goes on from a start
pub steady_on : {S : Type 0} (moment : S → ℕ) (images : S → Images) (name name' : List ℕ) (l l' : Layout)
    (P : Option (List ℕ) → Type 0) (truth : Option (List ℕ)) (first a b : List Mark) (start old new : S)
    → name' ≡ name → l' ≡ l → P truth → KeepsOrder moment images name' l' P a b old new
    → Steady moment images name l truth first start a old → Steady moment images name l truth first start b new
steady_on moment images name name' l l' P truth first a b start old new en el p k s =
    let k' = subst (λ n. KeepsOrder moment images n l' P a b old new) en k in
    let k'' = subst (λ q. KeepsOrder moment images name q P a b old new) el k' in
    k'' truth first start p s

-- a commit that succeeded leaves no block ready that wasn't
pub ok_calm : (given : List DoneBlock) (old new : List Mark) → Marks Open given old new → ((b : ℕ) → mark_at old b ≢ Ready)
    → (b : ℕ) → mark_at new b ≢ Ready
ok_calm given old new m calm b = λ r. elim (m.others b) [
  | inl w ↦ let bad : Open ≡ Ready = sym w.1 ∙ r in cc
  | inr e ↦ calm b (sym e ∙ r)
]

pub err_blank : (l : Layout) (given : List DoneBlock) (old new : List Mark) (picture : List ℕ) → AreClosed given old
    → MarksOnly Ready given old new
    → ((b k : ℕ) → b < l.count → mark_at old b ≢ Open → k < l.size b → slice_index picture (l.spot b k) ≡ 0)
    → (b k : ℕ) → b < l.count → mark_at new b ≢ Open → k < l.size b → slice_index picture (l.spot b k) ≡ 0
err_blank l given old new picture closed m blank b k hb shut hk =
    blank b k hb (λ o. shut ((err_known given old new closed m b).1 o)) hk
