-- What a file is by its front.
use Rattle.std.proofs.Common.{ℕ, ◌+◌, ◌-◌, ◌<◌, ◌≤◌, ◌≡◌, ◌≢◌, Bool, true, List, length, min, Some, None, refl, sym, ◌∙◌, ap, arith, inl, inr, slice_index}
use Rattle.state_file.specs.Finding.{IsFront, IsNew}
use Rattle.state_file.specs.Layout.{Layout, IsLaidOut, IsOpenFile, IsThisFrame}
use Rattle.state_file.specs.Opening.{IsOther}

pub found_new : (l : Layout) → IsLaidOut l → (front : List ℕ) (size gate : ℕ) (resume : Bool) (c : List ℕ) → length front ≡ min size l.gates
    → gate ≡ slice_index front 0 → (resume ≡ true → 2 ≤ length front → slice_index front 0 ≡ 0) → IsFront front size c
    → IsNew resume c size gate
found_new l ok front size gate resume c long g new f =
    let wide : 2 ≤ l.gates = ok.wide in
    let whole : length c ≡ size = f.long in
    record {
      long = f.long;
      first = λ some. let h : 0 < length front = omega arith in sym (f.bytes 0 h) ∙ sym g;
      absent = λ r o.
          let two : 2 ≤ length c = o.long in
          let h : 2 ≤ length front = omega arith in
          o.gate (sym (f.bytes 0 (omega arith)) ∙ new r h);
    }

open_front : (front c : List ℕ) (size g : ℕ) → 2 ≤ length front → slice_index front 0 ≢ 0 → length front ≡ min size g → IsFront front size c → IsOpenFile c
open_front front c size g two gate long f =
    let whole : length c ≡ size = f.long in
    record {
      long = omega arith;
      gate = λ z. gate (f.bytes 0 (omega arith) ∙ z);
    }

-- the head's byte behind a place of the fresh file
behind : (l : Layout) → IsLaidOut l → (fresh : List ℕ) → ((k : ℕ) → k < length l.head → slice_index fresh (1 + k) ≡ slice_index l.head k)
    → (k : ℕ) → 0 < k → k < l.gates → slice_index fresh k ≡ slice_index l.head (k - 1)
behind l ok fresh head k pos lt =
    let h : 1 + length l.head ≡ l.gates = ok.head in
    let p : k - 1 < length l.head = omega arith in
    let e : k ≡ 1 + (k - 1) = omega arith in
    ap (λ x. slice_index fresh x) e ∙ head (k - 1) p

pub found_other : (l : Layout) → IsLaidOut l → (front fresh c : List ℕ) (size at : ℕ) → 2 ≤ length front → slice_index front 0 ≢ 0
    → length front ≡ min size l.gates
    → ((k : ℕ) → k < length l.head → slice_index fresh (1 + k) ≡ slice_index l.head k)
    → 0 < at → at < length front → slice_index front at ≢ slice_index fresh at
    → ((k : ℕ) → 0 < k → k < at → slice_index front k ≡ slice_index fresh k)
    → IsFront front size c → IsOther l c at (Some (slice_index front at))
found_other l ok front fresh c size at two gate long head pos lt differs same f =
    let whole : length c ≡ size = f.long in
    let here : slice_index front at ≡ slice_index c at = f.bytes at lt in
    let inside : at < l.gates = omega arith in
    record {
      file = open_front front c size l.gates two gate long f;
      same = λ k kp kat kg. sym (f.bytes k (omega arith)) ∙ same k kp kat ∙ behind l ok fresh head k kp kg;
      found = inl (
        omega arith,
        inside,
        pos,
        (λ e. differs (here ∙ e ∙ sym (behind l ok fresh head at pos inside))),
        ap (λ x. Some x) here,
      );
    }

all_same : (l : Layout) → IsLaidOut l → (front fresh c : List ℕ) (size : ℕ) → length front ≡ min size l.gates
    → ((k : ℕ) → k < length l.head → slice_index fresh (1 + k) ≡ slice_index l.head k)
    → ((k : ℕ) → 0 < k → k < length front → slice_index front k ≡ slice_index fresh k)
    → IsFront front size c → (k : ℕ) → 0 < k → k < size → k < l.gates → slice_index c k ≡ slice_index l.head (k - 1)
all_same l ok front fresh c size long head same f k kp ks kg =
    let h : k < length front = omega arith in
    sym (f.bytes k h) ∙ same k kp h ∙ behind l ok fresh head k kp kg

pub found_end : (l : Layout) → IsLaidOut l → (front fresh c : List ℕ) (size : ℕ) → 2 ≤ length front → slice_index front 0 ≢ 0
    → length front ≡ min size l.gates
    → ((k : ℕ) → k < length l.head → slice_index fresh (1 + k) ≡ slice_index l.head k)
    → ((k : ℕ) → 0 < k → k < length front → slice_index front k ≡ slice_index fresh k)
    → size ≢ l.all → IsFront front size c → IsOther l c size None
found_end l ok front fresh c size two gate long head same ne f = record {
  file = open_front front c size l.gates two gate long f;
  same = λ k kp ks kg. all_same l ok front fresh c size long head same f k kp ks kg;
  found = inr (sym f.long, (λ e. ne (sym f.long ∙ e)), refl);
}

pub found_same : (l : Layout) → IsLaidOut l → (front fresh c : List ℕ) (size : ℕ) → 2 ≤ length front → slice_index front 0 ≢ 0
    → length front ≡ min size l.gates
    → ((k : ℕ) → k < length l.head → slice_index fresh (1 + k) ≡ slice_index l.head k)
    → ((k : ℕ) → 0 < k → k < length front → slice_index front k ≡ slice_index fresh k)
    → size ≡ l.all → IsFront front size c → IsThisFrame l c
found_same l ok front fresh c size two gate long head same e f =
    let h : 1 + length l.head ≡ l.gates = ok.head in
    let g : l.gates + l.count ≤ l.all = ok.gates in
    record {
      long = f.long ∙ e;
      gate = (open_front front c size l.gates two gate long f).gate;
      head = λ k hk.
          let m : 1 + k - 1 ≡ k = omega arith in
          all_same l ok front fresh c size long head same f (1 + k) (omega arith) (omega arith) (omega arith) ∙ ap (λ x. slice_index l.head x) m;
    }
