-- A file written from its start and cut to its length is the file.
use Rattle.std.proofs.Common.{◌≡◌, ℕ, ◌+◌, ◌<◌, ◌≤◌, List, [], ◌∷◌, length, take, suc, refl, ap, ◌∙◌, arith, subst}
use Rattle.std.specs.Prelude.{slice_index}
use Rattle.shelf.specs.Disk.{Contents, Slots, name_at, Follows, SameContents, SameSlots, Tells, Within, Written, Shortened}

then_tells : (old mid new : Contents) → Tells old mid → Tells mid new → Tells old new
then_tells old mid new first second = λ n c held. second n (first n c held).0 (first n c held).1

pub three_tell : (a b c d : Contents) → Tells a b → Tells b c → Tells c d → Tells a d
three_tell a b c d first second third = then_tells a b d first (then_tells b c d second third)

front : (file new : List ℕ) → length file ≤ length new → ((k : ℕ) → k < length file → slice_index new k ≡ slice_index file k) → take (length file) new ≡ file
front [] new le same = refl
front (x ∷ file) [] le same = absurd (omega (arith, le))
front (x ∷ file) (y ∷ new) le same =
    let head : y ≡ x = same 0 (omega arith) in
    let rest : take (length file) new ≡ file = front file new (omega (arith, le)) (λ k lt. same (suc k) (omega (arith, lt))) in
    rw (head, rest) refl

zero_plus : (k : ℕ) → 0 + k ≡ k
zero_plus k = omega arith

written_front : (file old new : List ℕ) → Written 0 file old new → take (length file) new ≡ file
written_front file old new w = front file new (omega (arith, w.long)) (λ k lt. subst (λ j. slice_index new j ≡ slice_index file k) (zero_plus k) (w.within k lt))

-- what is there after the write, the cut and the sync is the file
pub whole_stored : (file : List ℕ) (slots slots' slots'' : Slots) (slot : ℕ) (before written cut synced : Contents) → SameSlots slots slots' → SameSlots slots' slots'' → Follows (Written 0 file) (before (name_at (slots slot))) (written (name_at (slots slot))) → Follows (Shortened (length file)) (written (name_at (slots' slot))) (cut (name_at (slots' slot))) → SameContents cut synced → (c : List ℕ) → synced (name_at (slots slot)) c → c ≡ file
whole_stored file slots slots' slots'' slot before written cut synced same same' writes cuts syncs c held =
    let name : name_at (slots' slot) ≡ name_at (slots slot) = ap name_at (same slot) in
    let cut_here : Follows (Shortened (length file)) (written (name_at (slots slot))) (cut (name_at (slots slot))) = subst (λ n. Follows (Shortened (length file)) (written n) (cut n)) name cuts in
    let d = cut_here c (syncs (name_at (slots slot)) c held) in
    let e = writes d.0 d.1 in
    d.2 ∙ written_front file e.0 d.0 e.2

-- what a crash may leave after the sync is what is read
synced : (slots slots' slots'' : Slots) (slot : ℕ) (reads images : Contents) → SameSlots slots slots' → SameSlots slots' slots'' → Within (reads (name_at (slots'' slot))) (images (name_at (slots'' slot))) → (c : List ℕ) → images (name_at (slots slot)) c → reads (name_at (slots slot)) c
synced slots slots' slots'' slot reads images same same' within =
    subst (λ name. Within (reads name) (images name)) (ap name_at (same' slot ∙ same slot)) within

-- what a crash may leave after the write, the cut and the sync is the file
pub whole_durable : (file : List ℕ) (slots slots' slots'' : Slots) (slot : ℕ) (before written cut reads images : Contents) → SameSlots slots slots' → SameSlots slots' slots'' → Follows (Written 0 file) (before (name_at (slots slot))) (written (name_at (slots slot))) → Follows (Shortened (length file)) (written (name_at (slots' slot))) (cut (name_at (slots' slot))) → SameContents cut reads → Within (reads (name_at (slots'' slot))) (images (name_at (slots'' slot))) → (c : List ℕ) → images (name_at (slots slot)) c → c ≡ file
whole_durable file slots slots' slots'' slot before written cut reads images same same' writes cuts syncs within c image =
    whole_stored file slots slots' slots'' slot before written cut reads same same' writes cuts syncs c (synced slots slots' slots'' slot reads images same same' within c image)
