-- What a file is after it was looked at.
use Rattle.std.proofs.Common.{ℕ, ◌+◌, ◌<◌, ◌≤◌, ◌≡◌, Bool, true, List, length, refl, sym, ◌∙◌, subst, inl, inr, arith, slice_index}
use Rattle.shelf.specs.Disk.{Images}
use Rattle.shelf.specs.Moments.{Under}
use Rattle.shelf.proofs.Steps as shelf_steps
use Rattle.state_file.specs.declared.found.Found.{Found}
use Rattle.state_file.specs.declared.found.Found.TheVariants.{New, Same}
use Rattle.state_file.specs.Finding.{IsFound, IsNew}
use Rattle.state_file.specs.Layout.{Layout, IsLaidOut, IsOpenFile, IsThisFrame, IsOpenBlock, IsAcknowledged, IsHonest, IsOwn}
use Rattle.state_file.specs.Opening.{IsMade, OnlyGate, Ran}

-- a run that promises less
pub ran_weaker : {S : Type 0} (moment : S → ℕ) (images : S → Images) (name : List ℕ) (P Q : List ℕ → Type 0) (old new : S)
    → ((c : List ℕ) → P c → Q c) → Ran moment images name P old new → Ran moment images name Q old new
ran_weaker moment images name P Q old new implies r = record {
  moments = shelf_steps.weaker (moment old) (moment new) (images old) (images new) (Under name Q (images old (moment old)))
      (Under name P (images old (moment old))) r.moments
      (λ n c u. record { own = λ e. implies c (u.own e); other = u.other });
  elsewhere = r.elsewhere;
}

-- an open block stands in an open file
pub open_file : (l : Layout) → IsLaidOut l → (b : ℕ) (c : List ℕ) → IsOpenBlock l b c → IsOpenFile c
open_file l ok b c o =
    let long : length c ≡ l.all = o.file.long in
    let g : l.gates + l.count ≤ l.all = ok.gates in
    let w : 2 ≤ l.gates = ok.wide in
    record { long = omega arith; gate = o.file.gate }

-- what comes of less was made of less
pub made_of : (l : Layout) (between before : List ℕ → Type 0) → ((c : List ℕ) → between c → before c) → (c : List ℕ)
    → IsMade l between c → IsMade l before c
made_of l between before sub c m = elim m [
  | inl i ↦ inl (sub c i)
  | inr n ↦ elim n [ inl b ↦ inr (inl b) | inr w ↦ inr (inr (w.0, sub w.0 w.1, w.2)) ]
]

-- where a block was acknowledged the file that was looked at isn't new
pub not_new : (holds old : List ℕ → Type 0) (images : List ℕ → Type 0) (l : Layout) → IsLaidOut l → (b : ℕ) (resume : Bool)
    (found : Found) (size gate : ℕ)
    → resume ≡ true → IsAcknowledged l b old images
    → ((c : List ℕ) → old c → (d : List ℕ) × holds d) → ((c : List ℕ) → holds c → old c) → ((c : List ℕ) → old c → images c)
    → ((c : List ℕ) → holds c → IsFound l resume c found) → found ≡ New size gate → ⊥
not_new holds old images l ok b resume found size gate r a tells back law f e =
    let w = tells a.seen a.told in
    let n : IsFound l resume w.0 (New size gate) = subst (λ x. IsFound l resume w.0 x) e (f w.0 w.1) in
    let fresh : IsNew resume w.0 size gate = n in
    fresh.absent r (open_file l ok b w.0 (a.each w.0 (law w.0 (back w.0 w.1))))

-- what was read of the file
pub same_found : (l : Layout) (resume : Bool) (c : List ℕ) (found : Found) → IsFound l resume c found → found ≡ Same
    → (resume ≡ true) × IsThisFrame l c
same_found l resume c found f e = subst (λ x. IsFound l resume c x) e f

-- a file whose gate alone is another byte is this frame's where the first one was, and the other way round
back_file : (l : Layout) → IsLaidOut l → (d c : List ℕ) → OnlyGate d c → IsThisFrame l c → IsThisFrame l d
back_file l ok d c og f =
    let long : length c ≡ length d = og.long in
    let all : length c ≡ l.all = f.long in
    let h : 1 + length l.head ≡ l.gates = ok.head in
    let g : l.gates + l.count ≤ l.all = ok.gates in
    record {
      long = sym og.long ∙ f.long;
      gate = og.gate;
      head = λ k hk. sym (og.rest (1 + k) (omega arith) (omega arith)) ∙ f.head k hk;
    }

on_file : (l : Layout) → IsLaidOut l → (d c : List ℕ) → OnlyGate d c → IsOpenFile c → IsThisFrame l d → IsThisFrame l c
on_file l ok d c og o f =
    let all : length d ≡ l.all = f.long in
    let h : 1 + length l.head ≡ l.gates = ok.head in
    let g : l.gates + l.count ≤ l.all = ok.gates in
    record {
      long = og.long ∙ f.long;
      gate = o.gate;
      head = λ k hk. og.rest (1 + k) (omega arith) (omega arith) ∙ f.head k hk;
    }

-- what comes of honest files is honest
pub made_honest : (l : Layout) → IsLaidOut l → (picture : List ℕ) (before : List ℕ → Type 0)
    → ((d : List ℕ) → before d → IsHonest l picture d) → (c : List ℕ) → IsMade l before c → IsHonest l picture c
made_honest l ok picture before h c m = elim m [
  | inl i ↦ h c i
  | inr n ↦ elim n [
    | inl blank ↦ λ b hb o. absurd (o.gate ((blank (open_file l ok b c o)).shut b hb))
    | inr w ↦ λ b hb o k hk.
        let d : List ℕ = w.0 in
        let og : OnlyGate d c = w.2 in
        let fd : IsThisFrame l d = back_file l ok d c og o.file in
        let all : length d ≡ l.all = fd.long in
        let wide : 2 ≤ l.gates = ok.wide in
        let g : l.gates + l.count ≤ l.all = ok.gates in
        let behind : l.gates + l.count ≤ l.pixels b = ok.behind b hb in
        let inside : l.pixels b + l.size b ≤ l.all = ok.inside b hb in
        let gate : slice_index c (l.gates + b) ≡ slice_index d (l.gates + b) = og.rest (l.gates + b) (omega arith) (omega arith) in
        let here : slice_index c (l.pixels b + k) ≡ slice_index d (l.pixels b + k) = og.rest (l.pixels b + k) (omega arith) (omega arith) in
        here ∙ h d w.1 b hb (record { file = fd; gate = λ z. o.gate (gate ∙ z) }) k hk
  ]
]

-- what comes of own files is own
pub made_own : (l : Layout) → IsLaidOut l → (before : List ℕ → Type 0) → ((d : List ℕ) → before d → IsOwn l d)
    → (c : List ℕ) → IsMade l before c → IsOwn l c
made_own l ok before h c m = elim m [
  | inl i ↦ h c i
  | inr n ↦ elim n [
    | inl blank ↦ λ o. (blank o).file
    | inr w ↦ λ o.
        let long : length c ≡ length w.0 = w.2.long in
        let two : 2 ≤ length c = o.long in
        on_file l ok w.0 c w.2 o (h w.0 w.1 (record { long = omega arith; gate = w.2.gate }))
  ]
]

-- what a run leaves now has what it promised at every moment
pub ran_now : {S : Type 0} (moment : S → ℕ) (images : S → Images) (name : List ℕ) (P : List ℕ → Type 0) (old new : S)
    → Ran moment images name P old new → (c : List ℕ) → images new (moment new) name c → P c
ran_now {S} moment images name P old new r c i =
    let here : moment new ≤ moment new = omega arith in
    (r.moments.each (moment new) name c r.moments.later here i).own refl

-- a block that is open in what was made was open before
pub made_open : (l : Layout) → IsLaidOut l → (before : List ℕ → Type 0) (b : ℕ) → b < l.count → (c : List ℕ) → IsMade l before c
    → IsOpenBlock l b c → (d : List ℕ) × before d × IsOpenBlock l b d
made_open l ok before b hb c m o = elim m [
  | inl i ↦ (c, i, o)
  | inr n ↦ elim n [
    | inl blank ↦ absurd (o.gate ((blank (open_file l ok b c o)).shut b hb))
    | inr w ↦
        let d : List ℕ = w.0 in
        let og : OnlyGate d c = w.2 in
        let fd : IsThisFrame l d = back_file l ok d c og o.file in
        let all : length d ≡ l.all = fd.long in
        let wide : 2 ≤ l.gates = ok.wide in
        let g : l.gates + l.count ≤ l.all = ok.gates in
        let gate : slice_index c (l.gates + b) ≡ slice_index d (l.gates + b) = og.rest (l.gates + b) (omega arith) (omega arith) in
        (d, w.1, record { file = fd; gate = λ z. o.gate (gate ∙ z) })
  ]
]
