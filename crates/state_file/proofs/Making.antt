-- What each step of making a file anew leaves.
use Rattle.std.proofs.Common.{ℕ, ◌+◌, ◌<◌, ◌≤◌, ◌≡◌, ◌≢◌, List, [], ◌∷◌, length, max, min, sym, ◌∙◌, subst, inl, inr, ap, arith, slice_index}
use Rattle.std.proofs.lemmas.Bool.{cases_lt}
use Rattle.shelf.specs.Disk.{Images, SameContents, SameOthers, Torn, Trimmed, Written}
use Rattle.shelf.specs.Moments.{Passes, Under}
use Rattle.shelf.proofs.Steps as shelf_steps
use Rattle.state_file.specs.Layout.{Layout, IsLaidOut}
use Rattle.state_file.specs.Opening.{IsFresh, IsBlank, IsBody, IsMade, Ran}
use Rattle.state_file.proofs.Files.{torn_length}

-- one call
pub ran_call : {S : Type 0} (moment : S → ℕ) (images : S → Images) (name : List ℕ) (P : List ℕ → Type 0) (old new : S)
    → Passes (moment old) (moment new) (images old) (images new)
    → SameOthers name (images old (moment old)) (images new (moment new))
    → ((c : List ℕ) → images old (moment old) name c → P c)
    → ((c : List ℕ) → images new (moment new) name c → P c)
    → Ran moment images name P old new
ran_call {S} moment images name P old new p o before after = record {
  moments = shelf_steps.goes_on (moment old) (moment old) (moment new) (images old) (images old) (images new)
      (Under name P (images old (moment old)))
      (shelf_steps.started (moment old) (images old) (Under name P (images old (moment old)))
      (λ n c i. record { own = λ e. before c (subst (λ x. images old (moment old) x c) e i); other = λ ne. i }))
      p
      (λ n c i. record { own = λ e. after c (subst (λ x. images new (moment new) x c) e i); other = λ ne. o n c ne i });
  elsewhere = o;
}

-- a call that leaves each file as it was
pub ran_quiet : {S : Type 0} (moment : S → ℕ) (images : S → Images) (name : List ℕ) (P : List ℕ → Type 0) (old new : S)
    → Passes (moment old) (moment new) (images old) (images new)
    → SameContents (images old (moment old)) (images new (moment new))
    → ((c : List ℕ) → images old (moment old) name c → P c)
    → Ran moment images name P old new
ran_quiet moment images name P old new p o before =
    ran_call moment images name P old new p (λ n c ne i. o n c i) before (λ c i. before c (o name c i))

-- no call
pub ran_none : {S : Type 0} (moment : S → ℕ) (images : S → Images) (name : List ℕ) (P : List ℕ → Type 0) (now : S)
    → ((c : List ℕ) → images now (moment now) name c → P c) → Ran moment images name P now now
ran_none moment images name P now before = record {
  moments = shelf_steps.started (moment now) (images now) (Under name P (images now (moment now)))
      (λ n c i. record { own = λ e. before c (subst (λ x. images now (moment now) x c) e i); other = λ ne. i });
  elsewhere = λ n c ne i. i;
}

-- one run after another
pub ran_then : {S : Type 0} (moment : S → ℕ) (images : S → Images) (name name' : List ℕ) (P Q : List ℕ → Type 0) (old half new : S)
    → name' ≡ name → ((c : List ℕ) → Q c → P c) → Ran moment images name P old half → Ran moment images name' Q half new
    → Ran moment images name P old new
ran_then {S} moment images name name' P Q old half new e implies first second' =
    let second : Ran moment images name Q half new = subst (λ n. Ran moment images n Q half new) e second' in
    record {
      moments = shelf_steps.then_run (moment old) (moment half) (moment new) (images old) (images half) (images new)
          (Under name P (images old (moment old))) (Under name Q (images half (moment half))) first.moments second.moments
          (λ n c u. record { own = λ same. implies c (u.own same); other = λ ne. first.elsewhere n c ne (u.other ne) });
      elsewhere = λ n c ne i. first.elsewhere n c ne (second.elsewhere n c ne i);
    }

-- a closed file is blank
pub closed_blank : (l : Layout) (c : List ℕ) → slice_index c 0 ≡ 0 → IsBlank l c
closed_blank l c z = λ o. absurd (o.gate z)

pub short_blank : (l : Layout) (c : List ℕ) → length c ≤ 1 → IsBlank l c
short_blank l c h = λ o. let two : 2 ≤ length c = o.long in absurd (omega arith)

pub fresh_blank : (l : Layout) (c : List ℕ) → IsFresh l c → IsBlank l c
fresh_blank l c f = λ o. f

-- a write behind the gate leaves it closed
pub torn_closed : (n : ℕ) (d c : List ℕ) → Torn 1 n d c → 0 < length d → slice_index d 0 ≡ 0 → slice_index c 0 ≡ 0
torn_closed n d c t h z = t.below 0 (omega arith) h ∙ z

-- what the second step writes
pub body_written : (l : Layout) → IsLaidOut l → (body d c : List ℕ) → 1 + length body ≡ l.all
    → ((k : ℕ) → k < length l.head → slice_index body k ≡ slice_index l.head k)
    → ((k : ℕ) → length l.head ≤ k → k < length body → slice_index body k ≡ 0)
    → length d ≤ l.all → slice_index d 0 ≡ 0 → Written 1 body d c → IsBody l c
body_written l ok body d c long head blank short z w =
    let h : 1 + length l.head ≡ l.gates = ok.head in
    let g : l.gates + l.count ≤ l.all = ok.gates in
    let whole : length c ≡ max (length d) (1 + length body) = w.long in
    record {
      long = omega arith;
      gate = w.below 0 (omega arith) ∙ z;
      head = λ k hk. w.within k (omega arith) ∙ head k hk;
      shut = λ b hb.
          let at : l.gates + b ≡ 1 + (length l.head + b) = omega arith in
          let within : length l.head + b < length body = omega arith in
          let low : length l.head ≤ length l.head + b = omega arith in
          ap (λ x. slice_index c x) at ∙ w.within (length l.head + b) within ∙ blank (length l.head + b) low within;
    }

-- a write over the gate of what the second step left
pub raise_torn : (l : Layout) → IsLaidOut l → (d c : List ℕ) → IsBody l d → Torn 0 1 d c → IsBlank l c
raise_torn l ok d c b t = λ o.
    let long : length d ≡ l.all = b.long in
    let g : l.gates + l.count ≤ l.all = ok.gates in
    let h : 1 + length l.head ≡ l.gates = ok.head in
    record {
      file = record {
        long = torn_length 0 1 d c t (omega arith) ∙ b.long;
        gate = o.gate;
        head = λ k hk. t.above (1 + k) (omega arith) (omega arith) ∙ b.head k hk;
      };
      shut = λ a ha. t.above (l.gates + a) (omega arith) (omega arith) ∙ b.shut a ha;
    }

pub raise_written : (l : Layout) → IsLaidOut l → (d c : List ℕ) → IsBody l d → Written 0 (1 ∷ []) d c → IsFresh l c
raise_written l ok d c b w =
    let long : length d ≡ l.all = b.long in
    let g : l.gates + l.count ≤ l.all = ok.gates in
    let h : 1 + length l.head ≡ l.gates = ok.head in
    let whole : length c ≡ max (length d) (0 + 1) = w.long in
    let one : slice_index c 0 ≡ 1 = w.within 0 (omega arith) in
    record {
      file = record {
        long = omega arith;
        gate = λ z. let bad : 1 ≡ 0 = sym one ∙ z in cc;
        head = λ k hk. w.above (1 + k) (omega arith) (omega arith) ∙ b.head k hk;
      };
      shut = λ a ha. w.above (l.gates + a) (omega arith) (omega arith) ∙ b.shut a ha;
    }

-- a cut leaves the gate closed
pub trim_closed : (n : ℕ) (d c : List ℕ) → 0 < n → Trimmed n d c → 0 < length d → slice_index d 0 ≡ 0
    → (0 < length c) × (slice_index c 0 ≡ 0)
trim_closed n d c some t h z =
    let low : min n (length d) ≤ length c = t.no_shorter in
    let p : 0 < length c = omega arith in
    (p, t.below 0 some h p ∙ z)

-- a write over the gate of a file that isn't closed
pub shut_torn : (l : Layout) (before : List ℕ → Type 0) (d c : List ℕ) (size gate : ℕ) → before d → length d ≡ size
    → (0 < size → slice_index d 0 ≡ gate) → (0 < size → gate ≢ 0) → Torn 0 1 d c → IsMade l before c
shut_torn l before d c size gate b long first open' t =
    let low : length d ≤ length c = t.no_shorter in
    let high : length c ≤ max (length d) (0 + 1) = t.no_longer in
    elim (cases_lt 0 size) [
      | inl some ↦ inr (inr (
        d,
        b,
        record {
          gate = λ z. open' some (sym (first some) ∙ z);
          long = omega arith;
          rest = λ k pos within. t.above k (omega arith) within;
        },
      ))
      | inr none ↦ inr (inl (short_blank l c (omega arith)))
    ]

pub shut_written : (d c : List ℕ) (size : ℕ) → length d ≡ size → Written 0 (0 ∷ []) d c
    → (length c ≡ max size 1) × (slice_index c 0 ≡ 0)
shut_written d c size long w =
    let whole : length c ≡ max (length d) (0 + 1) = w.long in
    let zero' : slice_index c 0 ≡ 0 = w.within 0 (omega arith) in
    (omega arith, zero')
