-- What each call of the shelf means for a pen in order.
use Rattle.std.proofs.Common.{ℕ, ◌+◌, ◌<◌, ◌≤◌, ◌≡◌, List, [], ◌∷◌, length, Option, None, sym, ◌∙◌, subst, inl, inr, arith, slice_index}
use Rattle.std.proofs.lemmas.Bool.{cases_lt}
use Rattle.shelf.specs.Disk.{Follows, Images, SameContents, SameOthers, Torn, Written}
use Rattle.shelf.specs.Moments.{Passes}
use Rattle.state_file.specs.declared.block.DoneBlock.{DoneBlock}
use Rattle.state_file.specs.declared.mark.Mark.{Mark}
use Rattle.state_file.specs.declared.mark.Mark.TheVariants.{Shut, Ready}
use Rattle.state_file.specs.Blocks.{PutsPixels, OpensGate}
use Rattle.state_file.specs.Layout.{Layout, IsLaidOut}
use Rattle.state_file.specs.Marks.{Fits, mark_at}
use Rattle.state_file.specs.Order.{KeepsOrder}
use Rattle.state_file.proofs.Files.{pixels_torn, gate_torn}
use Rattle.state_file.proofs.Steps.{goes_on, started}

-- a write to a shut block's pixels
pub pixels_call : {S : Type 0} (moment : S → ℕ) (images : S → Images) (name : List ℕ) (l : Layout) (marks : List Mark)
    (old new : S) (b at n : ℕ) → IsLaidOut l → b < l.count → mark_at marks b ≡ Shut → at ≡ l.pixels b → n ≡ l.size b
    → Passes (moment old) (moment new) (images old) (images new)
    → SameOthers name (images old (moment old)) (images new (moment new))
    → Follows (Torn at n) (images old (moment old) name) (images new (moment new) name)
    → KeepsOrder moment images name l (λ _. Unit {0}) marks marks old new
pixels_call {S} moment images name l marks old new b at n ok hb shut eat en p o crash = λ truth first start u s.
    goes_on moment images name l truth first marks start old new s p o (λ c i.
    let f = crash c i in
    let t : Torn (l.pixels b) n f.0 c = subst (λ x. Torn x n f.0 c) eat f.2 in
    let t' : Torn (l.pixels b) (l.size b) f.0 c = subst (λ x. Torn (l.pixels b) x f.0 c) en t in
    pixels_torn l ok truth marks b hb shut f.0 c t' (s.fits f.0 f.1))

-- a write to a ready block's gate
pub gate_call : {S : Type 0} (moment : S → ℕ) (images : S → Images) (name : List ℕ) (l : Layout) (marks : List Mark)
    (old new : S) (b at : ℕ) → IsLaidOut l → b < l.count → mark_at marks b ≡ Ready → at ≡ l.gates + b
    → Passes (moment old) (moment new) (images old) (images new)
    → SameOthers name (images old (moment old)) (images new (moment new))
    → Follows (Torn at 1) (images old (moment old) name) (images new (moment new) name)
    → KeepsOrder moment images name l (λ _. Unit {0}) marks marks old new
gate_call {S} moment images name l marks old new b at ok hb ready eat p o crash = λ truth first start u s.
    goes_on moment images name l truth first marks start old new s p o (λ c i.
    let f = crash c i in
    let t : Torn (l.gates + b) 1 f.0 c = subst (λ x. Torn x 1 f.0 c) eat f.2 in
    gate_torn l ok truth marks b hb ready f.0 c t (s.fits f.0 f.1))

-- a call that leaves each file as it was
pub quiet_call : {S : Type 0} (moment : S → ℕ) (images : S → Images) (name : List ℕ) (l : Layout) (marks : List Mark)
    (old new : S) → Passes (moment old) (moment new) (images old) (images new)
    → SameContents (images old (moment old)) (images new (moment new))
    → KeepsOrder moment images name l (λ _. Unit {0}) marks marks old new
quiet_call {S} moment images name l marks old new p o = λ truth first start u s.
    goes_on moment images name l truth first marks start old new s p (λ n c ne i. o n c i) (λ c i. s.fits c (o name c i))

-- what a read gives is as long as the file must be
pub read_long : (holds image : List ℕ → Type 0) (l : Layout) (marks : List Mark) → ((c : List ℕ) → holds c → image c)
    → ((c : List ℕ) → image c → Fits l None marks c) → (c : List ℕ) → holds c → length c ≡ l.all
read_long holds image l marks law f c h = (f c (law c h)).file.long

-- the pixels that were written are there, and those of other blocks as they were
pub puts : (l : Layout) → IsLaidOut l → (block : DoneBlock) → block.index < l.count → (at : ℕ) (bytes d c : List ℕ)
    → at ≡ l.pixels block.index → bytes ≡ block.pixels.items → length block.pixels.items ≡ l.size block.index
    → length d ≡ l.all → Written at bytes d c → PutsPixels l block d c
puts l ok block hb at bytes d c eat eb size long w =
    let w' : Written (l.pixels block.index) bytes d c = subst (λ x. Written x bytes d c) eat w in
    let t : Written (l.pixels block.index) block.pixels.items d c = subst (λ x. Written (l.pixels block.index) x d c) eb w' in
    record {
      has = λ k hk. t.within k (omega arith);
      others = λ a k ha ne hk.
          let room : l.pixels a + l.size a ≤ l.all = ok.inside a ha in
          let there : l.pixels a + k < length d = omega arith in
          elim (ok.apart a block.index ha hb ne) [
            | inl x ↦ t.below (l.pixels a + k) (omega arith)
            | inr x ↦ t.above (l.pixels a + k) (omega arith) there
          ];
    }

-- two runs of calls, one after the other, on one file
pub keeps_then : {S : Type 0} (moment : S → ℕ) (images : S → Images) (name name' : List ℕ) (l : Layout)
    (P Q R : Option (List ℕ) → Type 0) (a b c : List Mark) (old half new : S) → name' ≡ name
    → ((t : Option (List ℕ)) → R t → P t × Q t)
    → KeepsOrder moment images name l P a b old half → KeepsOrder moment images name' l Q b c half new
    → KeepsOrder moment images name l R a c old new
keeps_then {S} moment images name name' l P Q R a b c old half new e split first second = λ truth f start r s.
    let q : KeepsOrder moment images name l Q b c half new = subst (λ n. KeepsOrder moment images n l Q b c half new) e second in
    q truth f start (split truth r).1 (first truth f start (split truth r).0 s)

-- nothing was called
pub keeps_none : {S : Type 0} (moment : S → ℕ) (images : S → Images) (name : List ℕ) (l : Layout) (marks : List Mark) (now : S)
    → KeepsOrder moment images name l (λ _. Unit {0}) marks marks now now
keeps_none moment images name l marks now = λ truth first start u s. s

-- after a run of calls that asks nothing of the picture each image agrees with the marks
pub fits_then : {S : Type 0} (moment : S → ℕ) (images : S → Images) (name : List ℕ) (l : Layout)
    (P : Option (List ℕ) → Type 0) (a b : List Mark) (old new : S) (truth : Option (List ℕ)) → P truth
    → ((c : List ℕ) → images old (moment old) name c → Fits l truth a c)
    → KeepsOrder moment images name l P a b old new
    → (c : List ℕ) → images new (moment new) name c → Fits l truth b c
fits_then moment images name l P a b old new truth p f k =
    (k truth a old p (started moment images name l truth a old f)).fits

-- the gate that was written is open, and each other gate is as it was
pub opens : (l : Layout) → IsLaidOut l → (b : ℕ) → b < l.count → (at : ℕ) (d c : List ℕ) → at ≡ l.gates + b
    → length d ≡ l.all → Written at (1 ∷ []) d c → OpensGate l b d c
opens l ok b hb at d c e long w =
    let w' : Written (l.gates + b) (1 ∷ []) d c = subst (λ x. Written x (1 ∷ []) d c) e w in
    let one : slice_index c (l.gates + b + 0) ≡ 1 = w'.within 0 (omega arith) in
    let same : l.gates + b + 0 ≡ l.gates + b = omega arith in
    let here : slice_index c (l.gates + b) ≡ 1 = subst (λ x. slice_index c x ≡ 1) same one in
    let gates : l.gates + l.count ≤ l.all = ok.gates in
    record {
      opened = λ z. let no : 1 ≡ 0 = sym here ∙ z in cc;
      others = λ a ha ne. elim (cases_lt a b) [
        | inl x ↦ w'.below (l.gates + a) (omega arith)
        | inr x ↦ let p : l.gates + b + 1 ≤ l.gates + a = omega arith in w'.above (l.gates + a) p (omega arith)
      ];
    }
