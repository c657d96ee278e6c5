-- What a write that was begun leaves of a file that agrees with the marks.
use Rattle.std.proofs.Common.{ℕ, ◌+◌, ◌<◌, ◌≤◌, ◌≡◌, ◌≢◌, ◌⊎◌, List, length, Option, refl, sym, ◌∙◌, subst, inl, inr, ⊎_elim, arith, slice_index, max}
use Rattle.std.proofs.lemmas.Bool.{cases_lt}
use Rattle.shelf.specs.Disk.{Torn}
use Rattle.state_file.specs.declared.mark.Mark.{Mark}
use Rattle.state_file.specs.declared.mark.Mark.TheVariants.{Shut, Ready, Open}
use Rattle.state_file.specs.Layout.{Layout, IsLaidOut, IsThisFrame}
use Rattle.state_file.specs.Marks.{Fits, mark_at}

pub mark_cases : (m : Mark) → (m ≡ Shut) ⊎ (m ≢ Shut)
mark_cases Shut = inl refl
mark_cases Ready = inr (λ e. cc)
mark_cases Open = inr (λ e. cc)

-- the length stays where the write lies within the file
pub torn_length : (at n : ℕ) (d c : List ℕ) → Torn at n d c → at + n ≤ length d → length c ≡ length d
torn_length at n d c t h =
    let a : length d ≤ length c = t.no_shorter in
    let b : length c ≤ max (length d) (at + n) = t.no_longer in
    omega arith

-- a place outside the write keeps its byte
pub torn_keeps : (at n : ℕ) (d c : List ℕ) → Torn at n d c → (k : ℕ) → k < length d → (k < at) ⊎ (at + n ≤ k)
    → slice_index c k ≡ slice_index d k
torn_keeps at n d c t k h o = elim o [ inl p ↦ t.below k p h | inr p ↦ t.above k p h ]

-- behind the file's gate and the head, a write leaves the file this frame's
pub torn_file : (l : Layout) → IsLaidOut l → (at n : ℕ) (d c : List ℕ) → Torn at n d c → l.gates ≤ at → at + n ≤ l.all
    → IsThisFrame l d → IsThisFrame l c
torn_file l ok at n d c t low high f =
    let long : length d ≡ l.all = f.long in
    let within : at + n ≤ length d = omega arith in
    let head : 1 + length l.head ≡ l.gates = ok.head in
    let gates : l.gates + l.count ≤ l.all = ok.gates in
    let some : 0 < l.count = ok.some in
    let p : 0 < length d = omega arith in
    let q : 0 < at = omega arith in
    let first : slice_index c 0 ≡ slice_index d 0 = t.below 0 q p in
    record {
      long = torn_length at n d c t within ∙ f.long;
      gate = λ e. f.gate (sym first ∙ e);
      head = λ k h.
          let a : 1 + k < at = omega arith in
          let b : 1 + k < length d = omega arith in
          t.below (1 + k) a b ∙ f.head k h;
    }

-- a write to a shut block's pixels
pub pixels_torn : (l : Layout) → IsLaidOut l → (truth : Option (List ℕ)) (marks : List Mark) (b : ℕ) → b < l.count
    → mark_at marks b ≡ Shut → (d c : List ℕ) → Torn (l.pixels b) (l.size b) d c → Fits l truth marks d → Fits l truth marks c
pixels_torn l ok truth marks b hb shut d c t f =
    let long : length d ≡ l.all = f.file.long in
    let inside : l.pixels b + l.size b ≤ l.all = ok.inside b hb in
    let behind : l.gates + l.count ≤ l.pixels b = ok.behind b hb in
    let low : l.gates ≤ l.pixels b = omega arith in
    let gate : (a : ℕ) → a < l.count → slice_index c (l.gates + a) ≡ slice_index d (l.gates + a) = λ a ha.
    torn_keeps (l.pixels b) (l.size b) d c t (l.gates + a) (omega (arith, ok.gates)) (inl (omega arith)) in
    record {
      file = torn_file l ok (l.pixels b) (l.size b) d c t low inside f.file;
      shut = λ a ha e. gate a ha ∙ f.shut a ha e;
      opened = λ a ha e z. f.opened a ha e (sym (gate a ha) ∙ z);
      shown = λ a ha s p e k hk.
          let other : b ≢ a = λ i. s (subst (λ x. mark_at marks x ≡ Shut) i shut) in
          let far : (l.pixels a + k < l.pixels b) ⊎ (l.pixels b + l.size b ≤ l.pixels a + k) =
          ⊎_elim (λ x. inr (omega arith)) (λ x. inl (omega arith)) (ok.apart b a hb ha other) in
          let room : l.pixels a + l.size a ≤ l.all = ok.inside a ha in
          torn_keeps (l.pixels b) (l.size b) d c t (l.pixels a + k) (omega arith) far ∙ f.shown a ha s p e k hk;
    }

-- a write to a ready block's gate
pub gate_torn : (l : Layout) → IsLaidOut l → (truth : Option (List ℕ)) (marks : List Mark) (b : ℕ) → b < l.count
    → mark_at marks b ≡ Ready → (d c : List ℕ) → Torn (l.gates + b) 1 d c → Fits l truth marks d → Fits l truth marks c
gate_torn l ok truth marks b hb ready d c t f =
    let long : length d ≡ l.all = f.file.long in
    let gates : l.gates + l.count ≤ l.all = ok.gates in
    let low : l.gates ≤ l.gates + b = omega arith in
    let high : l.gates + b + 1 ≤ l.all = omega arith in
    let gate : (a : ℕ) → a < l.count → b ≢ a → slice_index c (l.gates + a) ≡ slice_index d (l.gates + a) = λ a ha ne.
    let far : (l.gates + a < l.gates + b) ⊎ (l.gates + b + 1 ≤ l.gates + a) =
    elim (cases_lt a b) [ inl x ↦ inl (omega arith) | inr x ↦ inr (omega arith) ] in
    torn_keeps (l.gates + b) 1 d c t (l.gates + a) (omega arith) far in
    record {
      file = torn_file l ok (l.gates + b) 1 d c t low high f.file;
      shut = λ a ha e.
          let ne : b ≢ a = λ i. let p : Ready ≡ Shut = sym ready ∙ subst (λ x. mark_at marks x ≡ Shut) (sym i) e in cc in
          gate a ha ne ∙ f.shut a ha e;
      opened = λ a ha e z.
          let ne : b ≢ a = λ i. let p : Ready ≡ Open = sym ready ∙ subst (λ x. mark_at marks x ≡ Open) (sym i) e in cc in
          f.opened a ha e (sym (gate a ha ne) ∙ z);
      shown = λ a ha s p e k hk.
          let behind : l.gates + l.count ≤ l.pixels a = ok.behind a ha in
          let room : l.pixels a + l.size a ≤ l.all = ok.inside a ha in
          torn_keeps (l.gates + b) 1 d c t (l.pixels a + k) (omega arith) (inr (omega arith)) ∙ f.shown a ha s p e k hk;
    }
